-- Accessed and Dirty: exactly those bits of exactly the entry's lowest byte.
use Rattle.std.specs.Prelude.{ℕ, Bool, cond, List, get_or, set}
use Rattle.word.specs.Bits.{with_bit}

-- "A 5, D 6": a byte with Accessed set, and Dirty too for a write
abbrev pub mark_byte : Bool → ℕ → ℕ
mark_byte dirty byte = cond dirty (with_bit 6 (with_bit 5 byte)) (with_bit 5 byte)

-- memory with the entry at an address marked: its lowest byte is read again, so an earlier mark stays
abbrev pub mark : Bool → List ℕ → ℕ → List ℕ
mark dirty memory entry = set memory entry (mark_byte dirty (get_or memory entry 0))
