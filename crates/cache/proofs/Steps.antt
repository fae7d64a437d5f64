-- What the code's steps give: the places kept so far, what a lookup finds, the sets below a number.
use Prim.Native.Nat.{ℕ, zero, suc, ◌+◌, ◌<◌, ◌≤◌}
use native.Mathlib.Decide.{dec_lt}
use native.Mathlib.Omega.{arith}
use mathlib.Core.Path.{◌≡◌, refl, sym, ap, subst, ◌∙◌}
use mathlib.Core.Bool.{Bool, true, false, ◌&&◌, cond}
use mathlib.Core.List.{List, [], ◌∷◌, ◌++◌}
use borrow.Author.Tests.{ne_eqb}
use lib.ListN.{length, get_or, set, take, length-append, get_or-append}
use lib.Seq.{get_or_at}
use denote.Param.Members.{Mut}
use Rattle.std.specs.Prelude.{Option, Some}
use Rattle.std.specs.Array.{IsFromFnResultFrom}
use Rattle.std.specs.Fn.{Called}
use Rattle.std.specs.Iterator.{Yields}
use Rattle.std.specs.List.{find, filter, list_all}
use Rattle.cache.specs.declared.Place.{Place}
use Rattle.cache.specs.declared.Set.{Set}
use Rattle.cache.specs.declared.Wanted.{Wanted}
use Rattle.cache.specs.Places.{filled_in, serves}
use Rattle.cache.specs.Sets.{pick, keep, four, filled, first_serving, find_in}
use Rattle.cache.specs.Whole.{sets_below}
use Rattle.cache.proofs.Lists.{both, and_true, two_filters}

-- the four places of a set are all that it has
pub four_all : (ps : List Place) → length ps ≡ 4 → four ps ≡ ps
four_all (a ∷ b ∷ c ∷ d ∷ []) h = refl
four_all [] h = absurd (omega (arith, h))
four_all (a ∷ []) h = absurd (omega (arith, h))
four_all (a ∷ b ∷ []) h = absurd (omega (arith, h))
four_all (a ∷ b ∷ c ∷ []) h = absurd (omega (arith, h))
four_all (a ∷ b ∷ c ∷ d ∷ e ∷ ps) h = absurd (omega (arith, h))

-- a lookup finds the first place that serves and is filled
pub find_first : (i : ℕ) (w : Wanted) (s : Set) → length s.places ≡ 4 → find (λ p. serves w p && filled_in i p) s.places ≡ find_in i w s
unfolding find_in filled
find_first i w s h = go s.places ∙ ap (λ (ps : List Place). first_serving w (keep (filled_in i) ps)) (sym (four_all s.places h))
  where
    step : (p : Place) (ps : List Place) (serving kept : Bool) → serving ≡ serves w p
        → find (λ q. serves w q && filled_in i q) ps ≡ first_serving w (keep (filled_in i) ps)
        → cond (serving && kept) (Some p) (find (λ q. serves w q && filled_in i q) ps) ≡ first_serving w (pick kept p (keep (filled_in i) ps))
    step p ps true true e rest = rw (← e)
    step p ps true false e rest = rest
    step p ps false true e rest = rw (← e) rest
    step p ps false false e rest = rest

    go : (ps : List Place) → find (λ q. serves w q && filled_in i q) ps ≡ first_serving w (keep (filled_in i) ps)
    go [] = refl
    go (p ∷ ps) = step p ps (serves w p) (filled_in i p) refl (go ps)

-- a place of another tag does not serve
pub other_tag_lem : (w : Wanted) (p : Place) → (p.tag ≡ w.tag → ⊥) → serves w p ≡ false
unfolding serves
other_tag_lem w p h = rw (ne_eqb p.tag w.tag h)

-- what two tests keep of a set's places is what the second keeps of the filled, where the first is that a place is filled
pub kept_of_filled : (i : ℕ) (test : Place → Bool) (s : Set) → length s.places ≡ 4 → keep (both (filled_in i) test) s.places ≡ keep test (filled i s)
unfolding filled
kept_of_filled i test s h =
    sym (two_filters (filled_in i) test s.places) ∙ ap (λ (ps : List Place). keep test (keep (filled_in i) ps)) (sym (four_all s.places h))

-- where all pass, a filter keeps all
pub all_kept : (test : Place → Bool) (ps : List Place) → list_all test ps ≡ true → keep test ps ≡ ps
all_kept test [] h = refl
all_kept test (p ∷ ps) h =
    let passes = and_true (test p) (list_all test ps) h in
    rw (passes.0, all_kept test ps passes.1)

-- the places that a filter gives are those that are kept
pub filtered : (test : Place → Bool) (ps : List Place) → filter test ps ≡ keep test ps
filtered test [] = refl
filtered test (p ∷ ps) = ap (pick (test p) p) (filtered test ps)

-- what one more call gives comes after what the calls before it gave
pub yields_more : {S A : Type 0} (steps : S → Option A → S → Type 0) (s : S) (xs : List A) (t : S) (r : Option A) (x : A) (u : S) → Yields steps s xs t → r ≡ Some x → steps t r u → Yields steps s (xs ++ (x ∷ [])) u
yields_more steps s [] t r x u same is step = (u, subst (λ q. steps q (Some x) u) (sym same) (subst (λ q. steps t q u) is step), refl)
yields_more steps s (y ∷ ys) t r x u (j, first, rest) is step = (j, first, yields_more steps j ys t r x u rest is step)

-- one more place stands after those that were given
pub one_more : (given : List Place) (i : ℕ) (slots : List Place) (p : Place) → length given ≡ i → i < 4 → slots ≡ four given → set slots i p ≡ four (given ++ (p ∷ []))
one_more given i slots p long small are = rw (are, ← long) (go given (omega (arith, long)))
  where
    go : (ps : List Place) → length ps < 4 → set (four ps) (length ps) p ≡ four (ps ++ (p ∷ []))
    go [] h = refl
    go (a ∷ []) h = refl
    go (a ∷ b ∷ []) h = refl
    go (a ∷ b ∷ c ∷ []) h = refl
    go (a ∷ b ∷ c ∷ d ∷ ps) h = absurd (omega (arith, h))

-- four places are all that a set takes of a list
pub four_first : (ps : List Place) → four (take 4 ps) ≡ four ps
four_first [] = refl
four_first (a ∷ []) = refl
four_first (a ∷ b ∷ []) = refl
four_first (a ∷ b ∷ c ∷ []) = refl
four_first (a ∷ b ∷ c ∷ d ∷ ps) = refl

-- an array made by a closure that gives a function of the index and stays as it is
pub made_at : {F B : Type 0} (g : Mut F (ℕ × Unit {0}) B) (f : F) (h : ℕ → B) → ((i : ℕ) (y : B) (q : F) → Called g f (i, tt) y q → (q ≡ f) × (y ≡ h i))
    → (ys : List B) (i n k : ℕ) (d : B) → IsFromFnResultFrom g f ys i n → i ≤ k → k < i + n → get_or ys k d ≡ h k
made_at g f h gives ys i zero k d made low high = absurd (omega arith)
made_at {F} g f h gives ys i (suc n) k d (q, y, here, call, rest) low high =
    let P : F → Type 0 = λ p. IsFromFnResultFrom g p ys (i + 1) n in
    go (dec_lt i k) (λ later. made_at g f h gives ys (i + 1) n k d (subst P (gives i y q call).0 rest) (omega arith) (omega arith))
  where
    go : Dec (i < k) → (i < k → get_or ys k d ≡ h k) → get_or ys k d ≡ h k
    go (yes later) after = after later
    go (no not-later) after =
        let same : k ≡ i = omega arith in
        ap (λ (j : ℕ). get_or ys j d) same ∙ here.1 d ∙ (gives i y q call).1 ∙ ap h (sym same)

-- there are as many sets below a number as it says
pub sets_below_length : (n : ℕ) (f : ℕ → Set) → length (sets_below n f) ≡ n
sets_below_length zero f = refl
sets_below_length (suc n) f = length-append (sets_below n f) (f n ∷ []) ∙ (omega (arith, sets_below_length n f))

-- each stands at its number
pub sets_below_at : (n : ℕ) (f : ℕ → Set) (j : ℕ) (d : Set) → j < n → get_or (sets_below n f) j d ≡ f j
sets_below_at zero f j d h = absurd (omega arith)
sets_below_at (suc n) f j d h = go (dec_lt j n) (sets_below_at n f j d)
  where
    go : Dec (j < n) → (j < n → get_or (sets_below n f) j d ≡ f j) → get_or (sets_below n f ++ (f n ∷ [])) j d ≡ f j
    go (yes less) below = get_or-append (sets_below n f) (f n ∷ []) d j (omega (arith, sets_below_length n f)) ∙ below less
    go (no last) below =
        let same : j ≡ n = omega arith in
        ap (λ (k : ℕ). get_or (sets_below n f ++ (f n ∷ [])) k d) same
        ∙ get_or_at (sets_below n f) (f n) [] d n (sets_below_length n f) ∙ ap f (sym same)
