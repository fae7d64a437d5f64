-- Rights as numbers and entries that lack one: the combined rights allow exactly where no entry lacks a needed one.
use Prim.Native.Nat.{ℕ}
use mathlib.Core.Path.{◌≡◌, refl, ap, ap₂, sym, ◌∙◌}
use mathlib.Core.Bool.{Bool, true, false, not, ◌&&◌, ◌||◌, cond}
use mathlib.Core.List.{List, [], ◌∷◌}
use mathlib.Core.Option.{Option, some, none}
use Rattle.word.specs.Bits.{bit}
use Rattle.settings.specs.declared.Settings.{Settings}
use Rattle.entry.specs.Rights.{number, own, allow}
use Rattle.entry.proofs.Meeting.{allow_each}
use Rattle.walk.specs.declared.Access.{Access}
use Rattle.walk.specs.declared.Access.TheVariants.{Read, Write, Fetch}
use Rattle.walk.specs.declared.Way.{Way}
use Rattle.walk.specs.Access.{is_write, is_fetch, needed, needs_write, needs_user, needs_fetch}
use Rattle.walk.specs.Demand2.{first, forbids, lacks}
use Rattle.walk.specs.Path.{Entry, every, report}

-- a right is held where it is needed
abbrev ok : Bool → Bool → Bool
ok needs holds = not needs || holds

-- three tests in a row
abbrev all3 : Bool → Bool → Bool → Bool
all3 a b c = a && (b && c)

ok_true : (a : Bool) → ok a true ≡ true
ok_true true = refl
ok_true false = refl

ok_and : (a d e : Bool) → ok a (d && e) ≡ (ok a d && ok a e)
ok_and true d e = refl
ok_and false d e = refl

and_false : (b : Bool) → (b && false) ≡ false
and_false true = refl
and_false false = refl

-- two rows of three tests, taken pair by pair
rows : (a b c d e f : Bool) → all3 (a && d) (b && e) (c && f) ≡ (all3 a b c && all3 d e f)
rows false b c d e f = refl
rows true false c d e f = and_false d
rows true true false d e f = ap (λ (x : Bool). d && x) (and_false e) ∙ and_false d
rows true true true d e f = refl

ap₃ {ℓ} : {A B : Type ℓ} (f : A → A → A → B) {a b c d e g : A} → a ≡ b → c ≡ d → e ≡ g → f a c e ≡ f b d g
ap₃ f p q r = λ i. f (p i) (q i) (r i)

-- lacking one of three rights
lacking : (a b c d e f : Bool) → ((a && not d) || ((b && not e) || (c && f))) ≡ not (all3 (ok a d) (ok b e) (ok c (not f)))
lacking true b c false e f = refl
lacking true true c true false f = refl
lacking true true true true true true = refl
lacking true true true true true false = refl
lacking true true false true true f = refl
lacking true false true true e true = refl
lacking true false true true e false = refl
lacking true false false true e f = refl
lacking false true c d false f = refl
lacking false true true d true true = refl
lacking false true true d true false = refl
lacking false true false d true f = refl
lacking false false true d e true = refl
lacking false false true d e false = refl
lacking false false false d e f = refl

-- nothing was found
abbrev pub is_none : Option Entry → Bool
is_none none = true
is_none (some e) = false

-- the level of what was found, or 0
abbrev pub level_of : Option Entry → ℕ
level_of none = 0
level_of (some e) = e.level

none_first : (b : Bool) (e : Entry) (o : Option Entry) → (b && is_none o) ≡ is_none (cond (not b) (some e) o)
none_first true e o = refl
none_first false e o = refl

level_first : (b : Bool) (e : Entry) (o : Option Entry) → cond b (level_of o) e.level ≡ level_of (cond (not b) (some e) o)
level_first true e o = refl
level_first false e o = refl

and_comm : (a b : Bool) → (a && b) ≡ (b && a)
and_comm true true = refl
and_comm true false = refl
and_comm false true = refl
and_comm false false = refl

either : (a b c : Bool) → (c || (a && b)) ≡ ((b && a) || (c || false))
either true true true = refl
either true true false = refl
either true false true = refl
either true false false = refl
either false true true = refl
either false true false = refl
either false false true = refl
either false false false = refl

-- what an entry lacks by the paper's bits it lacks of the rights needed
lacks_needed : (s : Settings) (x : Access) (user : Bool) (e : Entry)
    → ((user && not (bit e.value 2)) || forbids s x user e)
    ≡ (((is_write x && (user || bit s.cr0 16)) && not (bit e.value 1))
    || ((user && not (bit e.value 2)) || ((is_fetch x && bit s.efer 11) && bit e.value 63)))
lacks_needed s Read user e = refl
lacks_needed s Write user e = either (not (bit e.value 1)) (user || bit s.cr0 16) (user && not (bit e.value 2))
lacks_needed s Fetch user e = ap (λ (b : Bool). (user && not (bit e.value 2)) || b) (and_comm (bit e.value 63) (bit s.efer 11))

module _ (s : Settings) (a : Way) where
  -- an entry lacks a right where its own rights do not allow the access
  pub lacks_own : (e : Entry) → lacks s a e ≡ not (allow (needed s a) (own e.value))
  lacks_own e =
      lacks_needed s a.access a.user e
      ∙ lacking (needs_write s a) (needs_user a) (needs_fetch s a) (bit e.value 1) (bit e.value 2) (bit e.value 63)
      ∙ ap not (sym (allow_each (needs_write s a) (needs_user a) (needs_fetch s a) (bit e.value 1) (bit e.value 2) (not (bit e.value 63))))

  -- R/W in all, U/S in all, XD in none
  abbrev all_write : List Entry → Bool
  all_write es = every (λ (v : ℕ). bit v 1) es

  abbrev all_user : List Entry → Bool
  all_user es = every (λ (v : ℕ). bit v 2) es

  abbrev all_fetch : List Entry → Bool
  all_fetch es = every (λ (v : ℕ). not (bit v 63)) es

  -- the combined rights allow exactly where no entry lacks one
  pub allowed : (es : List Entry) → allow (needed s a) (number (all_write es) (all_user es) (all_fetch es)) ≡ is_none (first (lacks s a) es)
  unfolding every first
  allowed [] =
      allow_each (needs_write s a) (needs_user a) (needs_fetch s a) true true true
      ∙ ap₃ all3 (ok_true (needs_write s a)) (ok_true (needs_user a)) (ok_true (needs_fetch s a))
  allowed (e ∷ es) =
      allow_each (needs_write s a) (needs_user a) (needs_fetch s a) (bit e.value 1 && all_write es) (bit e.value 2 && all_user es) (not (bit e.value 63) && all_fetch es)
      ∙ ap₃ all3 (ok_and (needs_write s a) (bit e.value 1) (all_write es)) (ok_and (needs_user a) (bit e.value 2) (all_user es)) (ok_and (needs_fetch s a) (not (bit e.value 63)) (all_fetch es))
      ∙ rows (ok (needs_write s a) (bit e.value 1)) (ok (needs_user a) (bit e.value 2)) (ok (needs_fetch s a) (not (bit e.value 63)))
      (ok (needs_write s a) (all_write es)) (ok (needs_user a) (all_user es)) (ok (needs_fetch s a) (all_fetch es))
      ∙ ap₂ (λ (x y : Bool). x && y)
      (sym (allow_each (needs_write s a) (needs_user a) (needs_fetch s a) (bit e.value 1) (bit e.value 2) (not (bit e.value 63))))
      (sym (allow_each (needs_write s a) (needs_user a) (needs_fetch s a) (all_write es) (all_user es) (all_fetch es)) ∙ allowed es)
      ∙ none_first (allow (needed s a) (own e.value)) e (first (lacks s a) es)
      ∙ ap (λ (b : Bool). is_none (cond b (some e) (first (lacks s a) es))) (sym (lacks_own e))

  -- the level reported is that of the first entry that lacks one
  pub reported : (es : List Entry) → report (needed s a) es ≡ level_of (first (lacks s a) es)
  unfolding report first
  reported [] = refl
  reported (e ∷ es) =
      ap (λ (l : ℕ). cond (allow (needed s a) (own e.value)) l e.level) (reported es)
      ∙ level_first (allow (needed s a) (own e.value)) e (first (lacks s a) es)
      ∙ ap (λ (b : Bool). level_of (cond b (some e) (first (lacks s a) es))) (sym (lacks_own e))
