-- One set: the places that it holds, lookup, fill and drops.
use Rattle.std.specs.Prelude.{ℕ, Bool, cond, List, [], ◌∷◌, get_or, Option, None, Some}
use Rattle.cache.specs.declared.Drop.{Drop}
use Rattle.cache.specs.declared.Place.{Place}
use Rattle.cache.specs.declared.Set.{Set}
use Rattle.cache.specs.declared.Wanted.{Wanted}
use Rattle.cache.specs.Places.{zero_place, filled_in, left, spares, serves}

-- a place in front of others, where it is kept
abbrev pub pick : Bool → Place → List Place → List Place
pick kept p ps = cond kept (p ∷ ps) ps

-- the places of a list that pass a test, in order
abbrev pub keep : (Place → Bool) → List Place → List Place
keep test [] = []
keep test (p ∷ ps) = pick (test p) p (keep test ps)

-- the first four places of a list, zeros where it has fewer
abbrev pub four : List Place → List Place
four ps = get_or ps 0 zero_place ∷ get_or ps 1 zero_place ∷ get_or ps 2 zero_place ∷ get_or ps 3 zero_place ∷ []

-- the set that holds a list's places: "a fifth falls out at the end", "each place not filled is then all zeros"
abbrev pub set_of : List Place → Set
set_of ps = record { places = four ps }

-- the set of zeros
abbrev pub empty_set : Set
empty_set = set_of []

-- what set i holds: its filled places in order; "every other place reads as empty"
unfoldable pub filled : ℕ → Set → List Place
filled i s = keep (filled_in i) (four s.places)

-- the first place of a list that serves
abbrev pub first_serving : Wanted → List Place → Option Place
first_serving w [] = None
first_serving w (p ∷ ps) = cond (serves w p) (Some p) (first_serving w ps)

-- "A hit is the first filled place" that serves
unfoldable pub find_in : ℕ → Wanted → Set → Option Place
find_in i w s = first_serving w (filled i s)

-- "removes all places with that tag from the set, closes gaps in order, and puts the new one first";
-- "Source document 001 speaks of least recent use; here fill order decides."
-- (a new place that is not filled in its set would stand in front and read as empty; callers fill none such)
unfoldable pub fill_set : ℕ → Place → Set → Set
fill_set i p s = set_of (p ∷ keep (spares p) (filled i s))

-- "Drops close gaps in the same way."
unfoldable pub drop_set : ℕ → Drop → Set → Set
drop_set i d s = set_of (keep (left d) (filled i s))
