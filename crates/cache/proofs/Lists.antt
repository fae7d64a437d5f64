-- Laws of filters, of the four places and of the first that serves, over any test.
use Prim.Native.Nat.{ℕ, zero, suc, ◌≤◌, suc-le-suc}
use native.Mathlib.Nat.{le_refl}
use native.Mathlib.Omega.{arith}
use mathlib.Core.Path.{◌≡◌, refl, ap, ◌∙◌}
use mathlib.Core.Bool.{Bool, true, false, not, ◌&&◌, cond}
use mathlib.Core.List.{List, [], ◌∷◌, ◌++◌, Memᴰ}
use lib.ListN.{length, take}
use Rattle.cache.specs.declared.Place.{Place}
use Rattle.cache.specs.declared.Wanted.{Wanted}
use Rattle.std.specs.Prelude.{Some}
use Rattle.cache.specs.Places.{zero_place, serves}
use Rattle.cache.specs.Sets.{pick, keep, four, first_serving}

-- one test and another
abbrev pub both : (Place → Bool) → (Place → Bool) → Place → Bool
both f g p = f p && g p

-- every place of a list passes a test
abbrev pub Each : (Place → Bool) → List Place → Type 0
Each test [] = Unit
Each test (p ∷ ps) = (test p ≡ true) × Each test ps

-- both parts of a test that holds
pub and_true : (a b : Bool) → (a && b) ≡ true → (a ≡ true) × (b ≡ true)
and_true true b h = (refl, h)
and_true false b h = (h, cc)

-- two filters in a row are one
pub two_filters : (f g : Place → Bool) (ps : List Place) → keep g (keep f ps) ≡ keep (both f g) ps
two_filters f g [] = refl
two_filters f g (p ∷ ps) = go (f p) (two_filters f g ps)
  where
    go : (b : Bool) → keep g (keep f ps) ≡ keep (both f g) ps → keep g (pick b p (keep f ps)) ≡ pick (b && g p) p (keep (both f g) ps)
    go true e = ap (pick (g p) p) e
    go false e = e

-- what is kept passes the test
pub each_keep : (test : Place → Bool) (ps : List Place) → Each test (keep test ps)
each_keep test [] = tt
each_keep test (p ∷ ps) = go (test p) refl (each_keep test ps)
  where
    go : (b : Bool) → test p ≡ b → Each test (keep test ps) → Each test (pick b p (keep test ps))
    go true e rest = (e, rest)
    go false e rest = rest

-- a filter leaves what every place passes
pub each_kept : (f g : Place → Bool) (ps : List Place) → Each f ps → Each f (keep g ps)
each_kept f g [] h = tt
each_kept f g (p ∷ ps) h = go (g p) (each_kept f g ps h.1)
  where
    go : (b : Bool) → Each f (keep g ps) → Each f (pick b p (keep g ps))
    go true rest = (h.0, rest)
    go false rest = rest

-- the first places of a list pass what all pass
pub each_take : (test : Place → Bool) (n : ℕ) (ps : List Place) → Each test ps → Each test (take n ps)
each_take test zero ps h = tt
each_take test (suc n) [] h = tt
each_take test (suc n) (p ∷ ps) h = (h.0, each_take test n ps h.1)

-- where every place passes, a filter keeps all
pub keep_each : (test : Place → Bool) (ps : List Place) → Each test ps → keep test ps ≡ ps
keep_each test [] h = refl
keep_each test (p ∷ ps) h = rw (h.0, keep_each test ps h.1)

-- a weaker test passes too
pub each_weaker : (f g : Place → Bool) → ((p : Place) → f p ≡ true → g p ≡ true) → (ps : List Place) → Each f ps → Each g ps
each_weaker f g weaker [] h = tt
each_weaker f g weaker (p ∷ ps) h = (weaker p h.0, each_weaker f g weaker ps h.1)

-- a filter makes no list longer
pub keep_length : (test : Place → Bool) (ps : List Place) → length (keep test ps) ≤ length ps
keep_length test [] = le_refl 0
keep_length test (p ∷ ps) = go (test p) (keep_length test ps)
  where
    go : (b : Bool) → length (keep test ps) ≤ length ps → length (pick b p (keep test ps)) ≤ suc (length ps)
    go true h = suc-le-suc h
    go false h = omega arith

-- a list cut or padded with zeros to a length
pad : ℕ → List Place → List Place
pad zero ps = []
pad (suc n) [] = zero_place ∷ pad n []
pad (suc n) (p ∷ ps) = p ∷ pad n ps

four_pad : (ps : List Place) → four ps ≡ pad 4 ps
unfolding pad
four_pad [] = refl
four_pad (a ∷ []) = refl
four_pad (a ∷ b ∷ []) = refl
four_pad (a ∷ b ∷ c ∷ []) = refl
four_pad (a ∷ b ∷ c ∷ d ∷ ps) = refl

keep_pad : (test : Place → Bool) → test zero_place ≡ false → (n : ℕ) (ps : List Place) → keep test (pad n ps) ≡ keep test (take n ps)
unfolding pad
keep_pad test empty zero ps = refl
keep_pad test empty (suc n) [] = rw empty (keep_pad test empty n [] ∙ nothing n)
  where
    nothing : (n : ℕ) → keep test (take n []) ≡ []
    nothing zero = refl
    nothing (suc n) = refl
keep_pad test empty (suc n) (p ∷ ps) = ap (pick (test p) p) (keep_pad test empty n ps)

-- zeros do not pass: of the four places those of the list are kept
pub keep_four : (test : Place → Bool) → test zero_place ≡ false → (ps : List Place) → Each test ps → keep test (four ps) ≡ take 4 ps
keep_four test empty ps h =
    ap (keep test) (four_pad ps) ∙ keep_pad test empty 4 ps ∙ keep_each test (take 4 ps) (each_take test 4 ps h)

-- the first that serves is one of the list, and serves
pub first_serves : (w : Wanted) (ps : List Place) (p : Place) → first_serving w ps ≡ Some p → Memᴰ p ps × (serves w p ≡ true)
first_serves w [] p h = cc
first_serves w (q ∷ ps) p h = go (serves w q) refl h (first_serves w ps p)
  where
    go : (b : Bool) → serves w q ≡ b → cond b (Some q) (first_serving w ps) ≡ Some p → (first_serving w ps ≡ Some p → Memᴰ p ps × (serves w p ≡ true))
        → Memᴰ p (q ∷ ps) × (serves w p ≡ true)
    go true e found below = let same : p ≡ q = cc in (Memᴰ.head same, ap (serves w) same ∙ e)
    go false e found below = (Memᴰ.tail (below found).0, (below found).1)

-- places that do not serve are passed by
pub passed_by : (w : Wanted) (ps qs : List Place) → Each (λ p. not (serves w p)) ps → first_serving w (ps ++ qs) ≡ first_serving w qs
passed_by w [] qs h = refl
passed_by w (p ∷ ps) qs h = go (serves w p) h.0 (passed_by w ps qs h.1)
  where
    go : (b : Bool) → not b ≡ true → first_serving w (ps ++ qs) ≡ first_serving w qs → cond b (Some p) (first_serving w (ps ++ qs)) ≡ first_serving w qs
    go true e rest = let z : ◌≡◌ {A = ℕ} 0 1 = cc in absurd (omega arith)
    go false e rest = rest
