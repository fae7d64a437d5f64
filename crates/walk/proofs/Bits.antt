-- Setting a bit, bit by bit.
use Prim.Native.Nat.{ℕ, zero, suc, ◌-◌, ◌*◌, ◌/◌, ◌%◌, ◌^◌, ◌<◌, max}
use native.Mathlib.Nat.{mod-lt, pow-suc, div-eq_of_lt, one-mul}
use native.Mathlib.Decide.{dec_lt}
use native.Mathlib.Omega.{arith}
use mathlib.Core.Path.{◌≡◌, refl, ap, sym, ◌∙◌}
use mathlib.Core.Bool.{Bool, true, false, ◌&&◌, ◌||◌, cond}
use mathlib.Core.List.{List}
use borrow.Author.Tests.{eq-eqb, ne_eqb, eqb-true, eqb-false}
use lib.Bits.{bit_or, or_step, or_shr}
use lib.Dec.{eqb, lit<}
use lib.ListN.{length, get_or}
use lib.Pow.{pow-add, pow-lt, shl-shr}
use lib.Seq.{get_or-set_same, get_or-set_other}
use Rattle.word.specs.Bits.{bit, with_bit}
use Rattle.entry.specs.Mark.{mark, mark_byte}
use Rattle.entry.proofs.Marks.{set_bit}
use Rattle.walk.proofs.Laws.{by_cases}

-- a power of two has one bit
one_bit : (j k : ℕ) → 2 ^ k / 2 ^ j % 2 ≡ cond (eqb j k) 1 0
one_bit j k = go (dec_lt j k) (dec_lt k j)
  where
    go : Dec (j < k) → Dec (k < j) → 2 ^ k / 2 ^ j % 2 ≡ cond (eqb j k) 1 0
    go (yes h) d =
        let parts : 2 ^ k ≡ 2 ^ suc (k - suc j) * 2 ^ j = ap (λ (x : ℕ). 2 ^ x) (omega arith) ∙ pow-add 2 (suc (k - suc j)) j in
        rw (ne_eqb j k (λ e. omega arith), parts, shl-shr (2 ^ suc (k - suc j)) j, pow-suc 2 (k - suc j)) (omega arith)
    go (no g) (yes h) = rw (ne_eqb j k (λ e. omega arith), div-eq_of_lt (pow-lt h)) refl
    go (no g) (no h) =
        let same : j ≡ k = omega arith in
        let whole : 2 ^ k / 2 ^ k ≡ 1 = ap (λ (x : ℕ). x / 2 ^ k) (sym (one-mul (2 ^ k))) ∙ shl-shr 1 k in
        rw (eq-eqb j k same, same, whole) refl

-- the lowest bit of a union
or_odd : (a b : ℕ) → bit_or a b % 2 ≡ max (a % 2) (b % 2)
or_odd a b = omega (arith, or_step a b)

either : (x : ℕ) (b : Bool) → x < 2 → eqb (max x (cond b 1 0)) 1 ≡ (eqb x 1 || b)
either zero true h = refl
either zero false h = refl
either (suc zero) true h = refl
either (suc zero) false h = refl
either (suc (suc x)) b h = absurd (omega arith)

-- bit j of a number in which bit k was set
pub with_bit_lem : (k n j : ℕ) → bit (with_bit k n) j ≡ (bit n j || eqb j k)
with_bit_lem k n j =
    ap (λ (x : ℕ). bit x j) (sym (set_bit k n))
    ∙ ap (λ (x : ℕ). eqb (x % 2) 1) (or_shr n (2 ^ k) j)
    ∙ ap (λ (x : ℕ). eqb x 1) (or_odd (n / 2 ^ j) (2 ^ k / 2 ^ j) ∙ ap (max (n / 2 ^ j % 2)) (one_bit j k))
    ∙ either (n / 2 ^ j % 2) (eqb j k) (mod-lt (n / 2 ^ j) (lit< tt))

-- the bits that a mark sets in a byte
abbrev pub sets : Bool → ℕ → Bool
sets dirty k = eqb k 5 || (dirty && eqb k 6)

or_false : (b : Bool) → (b || false) ≡ b
or_false true = refl
or_false false = refl

or_assoc : (a b c : Bool) → ((a || b) || c) ≡ (a || (b || c))
or_assoc true b c = refl
or_assoc false b c = refl

mark_byte_lem : (dirty : Bool) (n k : ℕ) → bit (mark_byte dirty n) k ≡ (bit n k || sets dirty k)
mark_byte_lem true n k =
    with_bit_lem 6 (with_bit 5 n) k ∙ ap (λ (b : Bool). b || eqb k 6) (with_bit_lem 5 n k) ∙ or_assoc (bit n k) (eqb k 5) (eqb k 6)
mark_byte_lem false n k = with_bit_lem 5 n k ∙ ap (λ (b : Bool). bit n k || b) (sym (or_false (eqb k 5)))

-- bit k of byte i of memory in which an entry inside it was marked
pub mark_bit : (dirty : Bool) (m : List ℕ) (at i k : ℕ) → at < length m
    → bit (get_or (mark dirty m at) i 0) k ≡ (bit (get_or m i 0) k || (eqb at i && sets dirty k))
mark_bit dirty m at i k here = by_cases (eqb at i) same other
  where
    same : eqb at i ≡ true → bit (get_or (mark dirty m at) i 0) k ≡ (bit (get_or m i 0) k || (eqb at i && sets dirty k))
    same e =
        rw (e, ← eqb-true at i e) (ap (λ (x : ℕ). bit x k) (get_or-set_same m at (mark_byte dirty (get_or m at 0)) 0 here) ∙ mark_byte_lem dirty (get_or m at 0) k)

    other : eqb at i ≡ false → bit (get_or (mark dirty m at) i 0) k ≡ (bit (get_or m i 0) k || (eqb at i && sets dirty k))
    other e =
        rw e (ap (λ (x : ℕ). bit x k) (get_or-set_other m at i (mark_byte dirty (get_or m at 0)) 0 (λ (same : i ≡ at). eqb-false at i e (sym same)))
        ∙ sym (or_false (bit (get_or m i 0) k)))
