-- The cache: "16 sets of four places".
use Rattle.std.specs.Prelude.{ℕ, zero, suc, List, [], ◌∷◌, ◌++◌, get_or, set, replicate}
use Rattle.cache.specs.declared.Drop.{Drop}
use Rattle.cache.specs.declared.Place.{Place}
use Rattle.cache.specs.declared.Set.{Set}
use Rattle.cache.specs.declared.Cache.{Cache}
use Rattle.cache.specs.Places.{set_index}
use Rattle.cache.specs.Sets.{empty_set, filled, fill_set, drop_set}

-- a cache's set of a number; past the end a set with no places
abbrev pub set_at : ℕ → Cache → Set
set_at i c = get_or c.sets i (record { places = [] })

-- what a cache holds in the set of a number
abbrev pub held : ℕ → Cache → List Place
held i c = filled i (set_at i c)

-- "rewrites its own set only"
abbrev pub rewrite_set : ℕ → (Set → Set) → Cache → Cache
rewrite_set i change c = record { sets = set c.sets i (change (set_at i c)) }

-- the sets of the numbers below n
abbrev pub sets_below : ℕ → (ℕ → Set) → List Set
sets_below zero f = []
sets_below (suc n) f = sets_below n f ++ (f n ∷ [])

-- "all sets" are rewritten
abbrev pub rewrite_all : (ℕ → Set → Set) → Cache → Cache
rewrite_all change c = record { sets = sets_below 16 (λ i. change i (set_at i c)) }

-- "the empty cache belongs to the cache"; "drops everything and leaves zeros"
abbrev pub empty_cache : Cache
empty_cache = record { sets = replicate 16 empty_set }

-- a new place goes into the set of its tag
unfoldable pub fill_cache : Place → Cache → Cache
fill_cache p c = rewrite_set (set_index p.tag) (fill_set (set_index p.tag) p) c

-- a drop goes over all sets: "both now rewrite every set"
unfoldable pub drop_cache : Drop → Cache → Cache
drop_cache d c = rewrite_all (λ i. drop_set i d) c
