-- Memory after the marks of a path, bit by bit; one entry may be read at two levels.
use Prim.Native.Nat.{ℕ, ◌+◌, ◌≤◌, ◌<◌}
use native.Mathlib.Omega.{arith}
use mathlib.Core.Path.{◌≡◌, refl, ap, sym, ◌∙◌, subst}
use mathlib.Core.Bool.{Bool, true, false, ◌&&◌, ◌||◌}
use mathlib.Core.List.{List, ◌∷◌}
use mathlib.Core.Option.{Option}
use borrow.Author.Tests.{leb-true}
use lib.Dec.{eqb}
use lib.ListN.{length, get_or, length-set}
use Rattle.word.specs.Bits.{bit}
use Rattle.word.specs.Bytes.{inside}
use Rattle.settings.specs.declared.Settings.{Settings}
use Rattle.entry.specs.Mark.{mark_byte}
use Rattle.walk.specs.declared.Access.{Access}
use Rattle.walk.specs.declared.Access.TheVariants.{Read, Write, Fetch}
use Rattle.walk.specs.Access.{is_write}
use Rattle.walk.specs.Demand2.{last, some_at, lies_at, due}
use Rattle.walk.specs.Path.{Path, Entry, ends, next, outside, missing, reserved, page, entries, end_of, marks}
use Rattle.walk.proofs.Bits.{mark_bit}
use Rattle.walk.proofs.Sound.{Sound}

-- an entry inside memory has its lowest byte there
pub byte_inside : (m : List ℕ) (at : ℕ) → inside m at ≡ true → at < length m
byte_inside m at h = let whole : at + 8 ≤ length m = leb-true (at + 8) (length m) h in omega arith

-- marks keep the length
pub marks_length : (write : Bool) (p : Path) (m : List ℕ) → length (marks write p m) ≡ length m
unfolding marks
marks_length write (ends (outside l at)) m = refl
marks_length write (ends (missing e)) m = refl
marks_length write (ends (reserved e)) m = refl
marks_length write (ends (page e base)) m = length-set m e.address (mark_byte write (get_or m e.address 0))
marks_length write (next e p) m =
    length-set (marks write p m) e.address (mark_byte false (get_or (marks write p m) e.address 0)) ∙ marks_length write p m

-- the bits of the last entry's mark
at_last : (here five six write : Bool) → (here && (five || (write && six))) ≡ ((five && (here || false)) || (six && (write && here)))
at_last true true six write = refl
at_last true false true true = refl
at_last true false true false = refl
at_last true false false true = refl
at_last true false false false = refl
at_last false true true true = refl
at_last false true true false = refl
at_last false true false write = refl
at_last false false true true = refl
at_last false false true false = refl
at_last false false false write = refl

-- the bits of a mark above: what the rest sets, and Accessed here
above : (was five more dirty here : Bool)
    → ((was || ((five && more) || dirty)) || (here && (five || false))) ≡ (was || ((five && (here || more)) || dirty))
above true five more dirty here = refl
above false true true dirty true = refl
above false true true dirty false = refl
above false true false true true = refl
above false true false true false = refl
above false true false false true = refl
above false true false false false = refl
above false false more true here = refl
above false false more false true = refl
above false false more false false = refl

-- the last entry from an entry on, where the rest has read one
last_next : (e : Entry) (p : Path) (f : Entry) (base : ℕ) → end_of p ≡ page f base → last (e ∷ entries p) ≡ last (entries p)
unfolding last entries end_of
last_next e (ends (outside l at)) f base h = cc
last_next e (ends (missing g)) f base h = refl
last_next e (ends (reserved g)) f base h = refl
last_next e (ends (page g b)) f base h = refl
last_next e (next g p) f base h = refl

-- what is due, where it is known whether memory is written
abbrev due_if : Bool → List Entry → ℕ → ℕ → Bool
due_if write es i k = (eqb k 5 && some_at i es) || (eqb k 6 && (write && lies_at i (last es)))

nothing_more : (a b : Bool) → (a || (b && false)) ≡ a
nothing_more true b = refl
nothing_more false true = refl
nothing_more false false = refl

pub due_access : (x : Access) (es : List Entry) (i k : ℕ) → due_if (is_write x) es i k ≡ due x es i k
due_access Read es i k = nothing_more (eqb k 5 && some_at i es) (eqb k 6)
due_access Write es i k = refl
due_access Fetch es i k = nothing_more (eqb k 5 && some_at i es) (eqb k 6)

-- a bit is set after the marks exactly if it was set or is due
pub marks_bit : (s : Settings) (m : List ℕ) (write : Bool) (i k l : ℕ) (p : Path) → Sound s m l p → (f : Entry) (base : ℕ) → end_of p ≡ page f base
    → bit (get_or (marks write p m) i 0) k ≡ (bit (get_or m i 0) k || due_if write (entries p) i k)
unfolding marks entries end_of last some_at
marks_bit s m write i k l (ends (outside j at)) h f base is = absurd (let z : ◌≡◌ {A = ℕ} 0 1 = cc in omega arith)
marks_bit s m write i k l (ends (missing e)) h f base is = absurd (let z : ◌≡◌ {A = ℕ} 0 1 = cc in omega arith)
marks_bit s m write i k l (ends (reserved e)) h f base is = absurd (let z : ◌≡◌ {A = ℕ} 0 1 = cc in omega arith)
marks_bit s m write i k l (ends (page e b)) h f base is =
    mark_bit write m e.address i k (byte_inside m e.address h.2)
    ∙ ap (λ (x : Bool). bit (get_or m i 0) k || x) (at_last (eqb e.address i) (eqb k 5) (eqb k 6) write)
marks_bit s m write i k l (next e p) h f base is =
    mark_bit false (marks write p m) e.address i k
    (subst (λ (n : ℕ). e.address < n) (sym (marks_length write p m)) (byte_inside m e.address h.3))
    ∙ ap (λ (x : Bool). x || (eqb e.address i && (eqb k 5 || false))) (marks_bit s m write i k h.0 p h.5 f base is)
    ∙ above (bit (get_or m i 0) k) (eqb k 5) (some_at i (entries p)) (eqb k 6 && (write && lies_at i (last (entries p)))) (eqb e.address i)
    ∙ ap (λ (x : Option Entry). bit (get_or m i 0) k || ((eqb k 5 && (eqb e.address i || some_at i (entries p))) || (eqb k 6 && (write && lies_at i x))))
    (sym (last_next e p f base is))
