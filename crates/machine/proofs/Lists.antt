-- Lists of places of which each has a property.
use Prim.Native.Nat.{ℕ, zero, suc}
use mathlib.Core.Path.{◌≡◌, refl, sym, subst}
use mathlib.Core.Bool.{Bool, true, false}
use mathlib.Core.List.{List, [], ◌∷◌, Memᴰ}
use lib.ListN.{take}
use Rattle.cache.specs.declared.Place.{Place}
use Rattle.cache.specs.Sets.{keep, pick}

-- each place of a list has a property
abbrev pub Has : (Place → Type 0) → List Place → Type 0
Has P [] = Unit
Has P (p ∷ ps) = P p × Has P ps

-- what is kept has what the test gives it
pub has_keep : {P Q : Place → Type 0} (test : Place → Bool) → ((p : Place) → test p ≡ true → P p → Q p) → (ps : List Place) → Has P ps → Has Q (keep test ps)
has_keep test f [] h = tt
has_keep {P} {Q} test f (p ∷ ps) h = go (test p) refl (has_keep test f ps h.1)
  where
    go : (b : Bool) → test p ≡ b → Has Q (keep test ps) → Has Q (pick b p (keep test ps))
    go true e rest = (f p e h.0, rest)
    go false e rest = rest

pub has_take : (P : Place → Type 0) (n : ℕ) (ps : List Place) → Has P ps → Has P (take n ps)
has_take P zero ps h = tt
has_take P (suc n) [] h = tt
has_take P (suc n) (p ∷ ps) h = (h.0, has_take P n ps h.1)

pub has_member : (P : Place → Type 0) {p : Place} {ps : List Place} → Memᴰ p ps → Has P ps → P p
has_member P (Memᴰ.head e) h = subst P (sym e) h.0
has_member P (Memᴰ.tail m) h = has_member P m h.1

-- a property that the test alone gives
pub keep_has : {Q : Place → Type 0} (test : Place → Bool) → ((p : Place) → test p ≡ true → Q p) → (ps : List Place) → Has Q (keep test ps)
keep_has test f ps = has_keep {P = λ p. Unit} test (λ p e h. f p e) ps (any ps)
  where
    any : (ps : List Place) → Has (λ p. Unit) ps
    any [] = tt
    any (p ∷ ps) = (tt, any ps)
