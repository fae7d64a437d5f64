-- Bits and fields of a number, by division and remainder.
use Rattle.std.specs.Prelude.{ℕ, ◌+◌, ◌-◌, ◌*◌, ◌/◌, ◌%◌, ◌^◌, Bool, eqb}
use Rattle.std.specs.Int.Bits.{bit_and}

-- bit k of n is set
abbrev pub bit : ℕ → ℕ → Bool
bit n k = eqb (n / 2 ^ k % 2) 1

-- the field of n that starts at bit low and is width bits wide
abbrev pub field : ℕ → ℕ → ℕ → ℕ
field n low width = n / 2 ^ low % 2 ^ width

-- every bit of one number is set in another
abbrev pub includes : ℕ → ℕ → Bool
includes needed held = eqb (bit_and needed held) needed

-- n with bit k set: where the bit is clear its weight is added
abbrev pub with_bit : ℕ → ℕ → ℕ
with_bit k n = n + (1 - n / 2 ^ k % 2) * 2 ^ k
