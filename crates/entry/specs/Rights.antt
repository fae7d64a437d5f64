-- Rights: what an entry gives, and whether what is held includes what is needed.
use Rattle.std.specs.Prelude.{ℕ, ◌+◌, ◌*◌, Bool, not, cond}
use Rattle.word.specs.Bits.{bit, includes}

-- rights as a number: 1 write, 2 user, 4 fetch
abbrev pub number : Bool → Bool → Bool → ℕ
number write user fetch = cond write 1 0 + (2 * cond user 1 0 + 4 * cond fetch 1 0)

-- "R/W 1, U/S 2, XD 63": the rights of an entry by itself
abbrev pub own : ℕ → ℕ
own entry = number (bit entry 1) (bit entry 2) (not (bit entry 63))

-- the rights held include the rights needed
abbrev pub allow : ℕ → ℕ → Bool
allow needed held = includes needed held
