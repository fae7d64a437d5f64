-- Masks of neighbouring bits, and the mask of the bits reserved in every entry.
use Prim.Native.Nat.{ℕ, zero, suc, ◌+◌, ◌-◌, ◌*◌, ◌/◌, ◌%◌, ◌^◌, ◌<◌, ◌≤◌}
use native.Mathlib.Nat.{add-zero, zero-add, zero-mul, mod-lt, mod-eq_of_lt, mod-one, sub-add_cancel, sub-eq-zero_of_le, lt_of_le_of_lt, mul-pos, sub-le}
use native.Mathlib.Decide.{dec_le}
use native.Mathlib.Omega.{arith}
use mathlib.Core.Path.{◌≡◌, refl, ap, ap₂, sym, ◌∙◌}
use mathlib.Core.Bool.{Bool, true, false, not, ◌||◌}
use borrow.Author.Tests.{ne_eqb}
use lib.Bits.{bit_and, and_high, and_mask, and_mod, and_block, and_le_r, and_zero_r}
use lib.Dec.{eqb, lit<}
use lib.Pow.{pow_pos, pow_mono, split}
use Rattle.word.specs.Bits.{bit, field}
use Rattle.entry.specs.Masks.{forbidden, under}
use Rattle.entry.specs.Says.{above_width, execute_disabled, says, says_by, is_page, size_too_large, inside_page}

-- the bits from low up to, not including, high, kept in place
pub masked : (n low high : ℕ) → bit_and n (2 ^ high - 2 ^ low) ≡ field n low (high - low) * 2 ^ low
masked n low high = go (dec_le low high)
  where
    go : Dec (low ≤ high) → bit_and n (2 ^ high - 2 ^ low) ≡ field n low (high - low) * 2 ^ low
    go (yes h) = rw (sub-add_cancel h) at (and_high n (high - low) low)
    go (no h) =
        rw (
          sub-eq-zero_of_le {n = 2 ^ high} {m = 2 ^ low} (pow_mono {i = high} {j = low} (omega arith)),
          sub-eq-zero_of_le {n = high} {m = low} (omega arith),
          mod-one,
          zero-mul,
        )
        (and_zero_r n)

or_false : (b : Bool) → (b || false) ≡ b
or_false true = refl
or_false false = refl

or_true : (b : Bool) → (b || true) ≡ true
or_true true = refl
or_true false = refl

-- a number moved up is 0 where it is 0
pub moved_zero : (x k : ℕ) → eqb (x * 2 ^ k) 0 ≡ eqb x 0
moved_zero zero k = rw zero-mul
moved_zero (suc x) k = ne_eqb (suc x * 2 ^ k) 0 (λ e. omega (arith, positive)) ∙ sym (ne_eqb (suc x) 0 (λ e. omega arith))
  where
    positive : 0 < suc x * 2 ^ k
    positive = mul-pos (omega arith) (pow_pos k)

-- a mask of neighbouring bits meets a number nowhere exactly where the field is 0
pub masked_zero : (n low high : ℕ) → eqb (bit_and n (2 ^ high - 2 ^ low)) 0 ≡ eqb (field n low (high - low)) 0
masked_zero n low high = rw (masked n low high) (moved_zero (field n low (high - low)) low)

-- one bit above a mask: the two meet a number apart
with_top : (n s : ℕ) → s < 2 ^ 63 → bit_and n (s + 2 ^ 63) ≡ n / 2 ^ 63 % 2 * 2 ^ 63 + bit_and n s
with_top n s low =
    ap₂ (λ (x y : ℕ). bit_and x y) (sym (split n 63)) (moved s)
    ∙ and_block 63 (n / 2 ^ 63) 1 (n % 2 ^ 63) s (mod-lt n (pow_pos 63)) low
    ∙ ap₂ (λ (x y : ℕ). x * 2 ^ 63 + y) (and_mask (n / 2 ^ 63) 1) rest
  where
    moved : (x : ℕ) → x + 2 ^ 63 ≡ 1 * 2 ^ 63 + x
    moved x = omega arith

    rest : bit_and (n % 2 ^ 63) s ≡ bit_and n s
    rest =
        ap (λ (x : ℕ). bit_and (n % 2 ^ 63) x) (sym (mod-eq_of_lt low))
        ∙ sym (and_mod n s 63)
        ∙ mod-eq_of_lt (lt_of_le_of_lt (and_le_r n s) low)

-- a number with a top bit x is 0 where the bit and the rest are
top_or_rest : (x y : ℕ) → x < 2 → not (eqb (x * 2 ^ 63 + y) 0) ≡ (not (eqb y 0) || eqb x 1)
top_or_rest zero y h = rw (zero-mul, zero-add) (sym (or_false (not (eqb y 0))))
top_or_rest (suc zero) y h = ap not (ne_eqb (1 * 2 ^ 63 + y) 0 (λ e. omega arith)) ∙ sym (or_true (not (eqb y 0)))
top_or_rest (suc (suc x)) y h = absurd (omega arith)

-- the mask finds exactly the bits reserved in every entry
pub forbidden_finds : (width : ℕ) (nxe : Bool) (e : ℕ)
    → not (eqb (bit_and e (forbidden width nxe)) 0) ≡ (above_width width e || execute_disabled nxe e)
forbidden_finds width true e = rw (add-zero, masked_zero e width 52) (sym (or_false (above_width width e)))
forbidden_finds width false e =
    rw (
      with_top e (2 ^ 52 - 2 ^ width) (lt_of_le_of_lt (sub-le (2 ^ 52) (2 ^ width)) (lit< tt)),
      top_or_rest (e / 2 ^ 63 % 2) (bit_and e (2 ^ 52 - 2 ^ width)) (mod-lt (e / 2 ^ 63) (lit< tt)),
      masked_zero e width 52,
    )

-- what an entry says under the mask is what it says given the width and NXE
pub under_says : (width : ℕ) (nxe : Bool) (level e : ℕ) → under (forbidden width nxe) level e ≡ says width nxe level e
under_says width nxe level e =
    ap (λ (b : Bool). says_by (bit e 0) (b || (size_too_large level e || inside_page level e)) (is_page level e) level e)
    (forbidden_finds width nxe e)
