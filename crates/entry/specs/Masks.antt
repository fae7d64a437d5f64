-- A device of the proofs: the bits reserved in every entry, as one mask.
use Rattle.std.specs.Prelude.{ℕ, ◌+◌, ◌-◌, ◌^◌, Bool, not, ◌||◌, cond, eqb}
use Rattle.std.specs.Int.Bits.{bit_and}
use Rattle.word.specs.Bits.{bit}
use Rattle.entry.specs.declared.Says.{Says}
use Rattle.entry.specs.Says.{is_page, size_too_large, inside_page, says_by}

-- the bits reserved in every entry, as a mask
abbrev pub forbidden : ℕ → Bool → ℕ
forbidden width nxe = (2 ^ 52 - 2 ^ width) + cond nxe 0 (2 ^ 63)

-- the same as says, with the bits reserved in every entry given as a mask
abbrev pub under : ℕ → ℕ → ℕ → Says
under mask level entry =
    says_by (bit entry 0) (not (eqb (bit_and entry mask) 0) || (size_too_large level entry || inside_page level entry)) (is_page level entry)
    level
    entry
