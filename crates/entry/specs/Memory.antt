-- The memory type index: "4 times PAT plus 2 times PCD plus PWT of the last entry, 0 to 7".
use Rattle.std.specs.Prelude.{ℕ, ◌+◌, Bool, ◌&&◌, cond, leb}
use Rattle.word.specs.Bits.{bit}
use Rattle.entry.specs.Says.{is_page}

-- "PAT (bit 7 at level 1, bit 12 of a large page)"; an entry that maps no page has none, for its bit 12 is an address bit
abbrev pub pat : ℕ → ℕ → Bool
pat level entry = is_page level entry && bit entry (cond (leb level 1) 7 12)

-- "PWT (bit 3), PCD (bit 4)": the memory type index of an entry at its level
abbrev pub memory_type : ℕ → ℕ → ℕ
memory_type level entry = cond (pat level entry) 4 0 + (cond (bit entry 4) 2 0 + cond (bit entry 3) 1 0)
