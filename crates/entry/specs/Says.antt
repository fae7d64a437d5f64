-- What an entry says at its level: "Entry bits" and "P clear at any level" of the walk.
use Rattle.std.specs.Prelude.{ℕ, ◌-◌, ◌*◌, ◌^◌, Bool, not, ◌&&◌, ◌||◌, cond, eqb, leb, ltb}
use Rattle.word.specs.Bits.{bit, field}
use Rattle.address.specs.declared.PhysAddr.{PhysAddr}
use Rattle.address.specs.Address.{page_bits}
use Rattle.entry.specs.declared.Says.{Says}
use Rattle.entry.specs.declared.Says.TheVariants.{Missing, Reserved, Table, Page}

-- "PS at level 3 ends the walk ..., at level 2": the highest level at which a page can end
abbrev pub largest : ℕ
largest = 3

-- the entry maps a page: above level 1 by "PS 7"; "At level 1 bit 7 is PAT." and every entry does
abbrev pub is_page : ℕ → ℕ → Bool
is_page level entry = leb level 1 || bit entry 7

-- "bits 51 to M must be clear"
abbrev pub above_width : ℕ → ℕ → Bool
above_width width entry = not (eqb (field entry width (52 - width)) 0)

-- "and bit 63 when NXE = 0"
abbrev pub execute_disabled : Bool → ℕ → Bool
execute_disabled nxe entry = not nxe && bit entry 63

-- "so must bit 7 at level 4"
abbrev pub size_too_large : ℕ → ℕ → Bool
size_too_large level entry = bit entry 7 && ltb largest level

-- "bits 29:13 of a 1 GiB entry, bits 20:13 of a 2 MiB entry"
abbrev pub inside_page : ℕ → ℕ → Bool
inside_page level entry = is_page level entry && not (eqb (field entry 13 (page_bits level - 13)) 0)

-- a present entry has a reserved bit set: "Otherwise a reserved-bit fault. Bits 62:52 are ignored."
abbrev pub reserved : ℕ → Bool → ℕ → ℕ → Bool
reserved width nxe level entry =
    (above_width width entry || execute_disabled nxe entry) || (size_too_large level entry || inside_page level entry)

-- "Bits 51:12 hold the next table"
abbrev pub table_base : ℕ → PhysAddr
table_base entry = record { 0 = field entry 12 40 * 2 ^ 12 }

-- the base of a page: "bits 51:30", "bits 51:21", and bits 51:12 at level 1
abbrev pub page_base : ℕ → ℕ → PhysAddr
page_base level entry = record { 0 = field entry (page_bits level) (52 - page_bits level) * 2 ^ page_bits level }

-- what an entry says at its level, given what the tests find: "P clear at any level: fault, [..] other bits of the entry unread."
abbrev pub says_by : Bool → Bool → Bool → ℕ → ℕ → Says
says_by present reserved page level entry =
    cond present (cond reserved Reserved (cond page (Page (page_base level entry)) (Table (table_base entry)))) Missing

-- what an entry says at its level, given the width and NXE
abbrev pub says : ℕ → Bool → ℕ → ℕ → Says
says width nxe level entry = says_by (bit entry 0) (reserved width nxe level entry) (is_page level entry) level entry
