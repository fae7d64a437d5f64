-- A place in a set behind places of few other pages: a fill of one of those pages, and every drop of another, leaves it there.
use Prim.Native.Nat.{ℕ, zero, suc, ◌≤◌, ◌<◌}
use native.Mathlib.Omega.{arith}
use mathlib.Core.Path.{◌≡◌, refl, sym, ap, ◌∙◌}
use mathlib.Core.Bool.{Bool, true, false, not, ◌&&◌, ◌||◌, cond, false≢true}
use mathlib.Core.List.{List, [], ◌∷◌, ◌++◌}
use borrow.Author.Tests.{eqb-true, not-true}
use lib.Dec.{eqb}
use lib.ListN.{length, take}
use Rattle.cache.specs.declared.Place.{Place}
use Rattle.cache.specs.Sets.{keep, pick}
use Rattle.cache.proofs.Lists.{Each, and_true, each_kept}
use Rattle.machine.specs.Demand3.{Numbered, listed}

-- a page under a number is another
abbrev same : Numbered → Numbered → Bool
same p q = eqb p.tag q.tag && eqb p.number q.number

same_is : (p q : Numbered) → same p q ≡ true → p ≡ q
same_is p q h =
    let both = and_true (eqb p.tag q.tag) (eqb p.number q.number) h in
    λ i. record { tag = eqb-true p.tag q.tag both.0 i; number = eqb-true p.number q.number both.1 i }

-- the pages of a list without one
without : Numbered → List Numbered → List Numbered
without t [] = []
without t (q ∷ qs) = cond (same t q) (without t qs) (q ∷ without t qs)

-- to leave out a page makes a list no longer, and shorter where the page is in it
no_longer : (t : Numbered) (qs : List Numbered) → length (without t qs) ≤ length qs
unfolding without
no_longer t [] = omega arith
no_longer t (q ∷ qs) = go (same t q) (no_longer t qs)
  where
    go : (b : Bool) → length (without t qs) ≤ length qs → length (cond b (without t qs) (q ∷ without t qs)) ≤ suc (length qs)
    go true h = omega arith
    go false h = omega arith

shorter : (t : Numbered) (qs : List Numbered) → listed t qs ≡ true → length (without t qs) < length qs
unfolding without
shorter t [] h = let z : ◌≡◌ {A = ℕ} 0 1 = cc in absurd (omega arith)
shorter t (q ∷ qs) h = go (same t q) h (shorter t qs)
  where
    go : (b : Bool) → (b || listed t qs) ≡ true → (listed t qs ≡ true → length (without t qs) < length qs)
        → length (cond b (without t qs) (q ∷ without t qs)) < suc (length qs)
    go true h below = omega (arith, no_longer t qs)
    go false h below = omega (arith, below h)

-- another page stays in the list
still : (t u : Numbered) → same u t ≡ false → (qs : List Numbered) → listed u qs ≡ true → listed u (without t qs) ≡ true
unfolding without
still t u apart [] h = h
still t u apart (q ∷ qs) h = go (same u q) (same t q) refl refl h (still t u apart qs)
  where
    go : (a b : Bool) → same u q ≡ a → same t q ≡ b → (a || listed u qs) ≡ true → (listed u qs ≡ true → listed u (without t qs) ≡ true)
        → listed u (cond b (without t qs) (q ∷ without t qs)) ≡ true
    go true true ea eb h below = absurd (false≢true (sym apart ∙ ap (same u) (same_is t q eb) ∙ ea))
    go true false ea eb h below = rw ea
    go false true ea eb h below = below h
    go false false ea eb h below = rw ea (below h)

-- a place's page under its number
abbrev pub numbered : Place → Numbered
numbered p = record { tag = p.tag; number = p.number }

-- a place of another page, or of another number
abbrev pub other_numbered : Place → Place → Bool
other_numbered p q = not (same (numbered q) (numbered p))

-- places of distinct pages of a list
abbrev pub Few : List Numbered → List Place → Type 0
Few pages [] = Unit
Few pages (p ∷ ps) = (listed (numbered p) pages ≡ true) × Each (other_numbered p) ps × Few pages ps

few_without : (t : Place) (pages : List Numbered) (ps : List Place) → Each (other_numbered t) ps → Few pages ps → Few (without (numbered t) pages) ps
few_without t pages [] others few = tt
few_without t pages (p ∷ ps) others few =
    (still (numbered t) (numbered p) (not-true (same (numbered p) (numbered t)) others.0) pages few.0, few.1, few_without t pages ps others.1 few.2)

-- there are no more of them than pages in the list
pub few_length : (ps : List Place) (pages : List Numbered) → Few pages ps → length ps ≤ length pages
few_length [] pages few = omega arith
few_length (p ∷ ps) pages few =
    let rest = few_length ps (without (numbered p) pages) (few_without p pages ps few.1 few.2) in
    omega (arith, shorter (numbered p) pages few.0)

-- a filter leaves few
pub few_keep : (pages : List Numbered) (test : Place → Bool) (ps : List Place) → Few pages ps → Few pages (keep test ps)
few_keep pages test [] few = tt
few_keep pages test (p ∷ ps) few = go (test p) (few_keep pages test ps few.2)
  where
    go : (b : Bool) → Few pages (keep test ps) → Few pages (pick b p (keep test ps))
    go true rest = (few.0, each_kept (other_numbered p) test ps few.1, rest)
    go false rest = rest

-- a filter goes over both parts of a list
keep_append : (test : Place → Bool) (ps qs : List Place) → keep test (ps ++ qs) ≡ keep test ps ++ keep test qs
keep_append test [] qs = refl
keep_append test (p ∷ ps) qs = go (test p) (keep_append test ps qs)
  where
    go : (b : Bool) → keep test (ps ++ qs) ≡ keep test ps ++ keep test qs
        → pick b p (keep test (ps ++ qs)) ≡ pick b p (keep test ps) ++ keep test qs
    go true e = ap (λ (l : List Place). p ∷ l) e
    go false e = e

-- a place that a filter keeps stays behind what it keeps in front
pub keep_around : (test : Place → Bool) (front : List Place) (p : Place) (rest : List Place) → test p ≡ true
    → keep test (front ++ (p ∷ rest)) ≡ keep test front ++ (p ∷ keep test rest)
keep_around test front p rest h = keep_append test front (p ∷ rest) ∙ ap (λ (b : Bool). keep test front ++ pick b p (keep test rest)) h

-- the first places of a list hold one that has no more than so many in front of it
pub take_around : (n : ℕ) (front : List Place) (p : Place) (rest : List Place) → length front ≤ n
    → (rest' : List Place) × (take (suc n) (front ++ (p ∷ rest)) ≡ front ++ (p ∷ rest'))
take_around n [] p rest h = (take n rest, refl)
take_around zero (q ∷ front) p rest h = absurd (omega arith)
take_around (suc n) (q ∷ front) p rest h = let below = take_around n front p rest (omega arith) in (below.0, ap (λ (l : List Place). q ∷ l) below.1)
