-- Laws of sums in 64 bits, and of the levels above all that have a line of their own.
use Rattle.std.proofs.Common.{◌≡◌, ℕ, ◌+◌, ◌*◌, ◌^◌, ◌<◌, ◌≤◌, ap, mod-eq_of_lt, lt_of_lt_of_le, pow_mono, arith}
use Rattle.address.specs.declared.PhysAddr.{PhysAddr}
use Rattle.address.specs.Address.{page_bits, entry_address, plus}

-- an entry whose address fits 64 bits lies where the plain sum says
pub entry_plain : (b : PhysAddr) (i : ℕ) → b.0 + 8 * i < 2 ^ 64 → entry_address b i ≡ record { 0 = b.0 + 8 * i }
entry_plain b i small = ap (λ (x : ℕ). record { 0 = x }) (mod-eq_of_lt small)

-- a sum that fits 64 bits is the plain sum
pub plus_plain : (b : PhysAddr) (o : ℕ) → b.0 + o < 2 ^ 64 → plus b o ≡ record { 0 = b.0 + o }
plus_plain b o small = ap (λ (x : ℕ). record { 0 = x }) (mod-eq_of_lt small)

-- a 64-bit address lies within one page of a level above 6
pub below_large_page : (n level : ℕ) → n < 2 ^ 64 → 7 ≤ level → n < 2 ^ page_bits level
below_large_page n level fits high = lt_of_lt_of_le fits (pow_mono {i = 64} {j = page_bits level} (omega (arith, high)))

-- a number that is none from 0 to 6 is 7 or more
pub past_six : (n : ℕ) → (n ≡ 0 → ⊥) → (n ≡ 1 → ⊥) → (n ≡ 2 → ⊥) → (n ≡ 3 → ⊥) → (n ≡ 4 → ⊥) → (n ≡ 5 → ⊥) → (n ≡ 6 → ⊥) → 7 ≤ n
past_six n n0 n1 n2 n3 n4 n5 n6 = omega (arith, n0, n1, n2, n3, n4, n5, n6)
