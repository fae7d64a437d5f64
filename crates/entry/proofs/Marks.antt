-- Setting a bit by a mask.
use Prim.Native.Nat.{ℕ, zero, suc, ◌+◌, ◌-◌, ◌*◌, ◌/◌, ◌%◌, ◌^◌, ◌<◌}
use native.Mathlib.Nat.{mod-lt, pow-suc}
use native.Mathlib.Numerals.{one-add}
use native.Mathlib.Omega.{arith}
use mathlib.Core.Path.{◌≡◌}
use lib.Bits.{bit_and, bit_or, and_high, or_add_and}
use lib.Dec.{lit<}
use Rattle.word.specs.Bits.{with_bit}

-- the lone bit k as a difference of powers
alone : (k : ℕ) → 2 ^ (1 + k) - 2 ^ k ≡ 2 ^ k
alone k = rw (one-add k, pow-suc 2 k) (omega arith)

-- a sum s with r times w in it, for r 0 or 1
lone : (b w s r : ℕ) → r < 2 → s + r * w ≡ b + w → s ≡ b + (1 - r) * w
lone b w s zero h e = omega arith
lone b w s (suc zero) h e = omega arith
lone b w s (suc (suc r)) h e = absurd (omega arith)

-- the code's mask sets bit k
pub set_bit : (k b : ℕ) → bit_or b (2 ^ k) ≡ with_bit k b
set_bit k b =
    lone b (2 ^ k) (bit_or b (2 ^ k)) (b / 2 ^ k % 2) (mod-lt (b / 2 ^ k) (lit< tt))
    (rw (← bits) (or_add_and b (2 ^ k)))
  where
    bits : bit_and b (2 ^ k) ≡ b / 2 ^ k % 2 * 2 ^ k
    bits = rw (alone k) at (and_high b 1 k)
