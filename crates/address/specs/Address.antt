-- Virtual addresses, physical addresses and frames: canonical form, splitting, the named sums.
use Rattle.std.specs.Prelude.{ℕ, ◌+◌, ◌-◌, ◌*◌, ◌/◌, ◌%◌, ◌^◌, Bool, ◌||◌, eqb}
use Rattle.address.specs.declared.VirtAddr.{VirtAddr}
use Rattle.address.specs.declared.PhysAddr.{PhysAddr}
use Rattle.address.specs.declared.Frame.{Frame}

-- "Levels run 4 to 1."
abbrev pub levels : ℕ
levels = 4

-- the offset bits of a page that ends at a level, and the lowest index bit of that level: 12, 21, 30, 39
abbrev pub page_bits : ℕ → ℕ
page_bits level = 3 + 9 * level

-- "bits 63 to 47 must be equal": all bits from the highest index bit on
abbrev pub canonical : VirtAddr → Bool
canonical a =
    eqb (a.0 / 2 ^ (page_bits (levels + 1) - 1)) 0 || eqb (a.0 / 2 ^ (page_bits (levels + 1) - 1)) (2 ^ (65 - page_bits (levels + 1)) - 1)

-- "Index bits are 47:39, 38:30, 29:21, 20:12."
abbrev pub index : VirtAddr → ℕ → ℕ
index a level = a.0 / 2 ^ page_bits level % 512

-- the offset in a page of size 1, 2 or 3
abbrev pub offset : VirtAddr → ℕ → ℕ
offset a size = a.0 % 2 ^ page_bits size

-- "A page's tag is its address divided by 4,096"
abbrev pub tag : VirtAddr → ℕ
tag a = a.0 / 4096

-- "table base plus 8 times index", in 64 bits
abbrev pub entry_address : PhysAddr → ℕ → PhysAddr
entry_address base i = record { 0 = (base.0 + 8 * i) % 2 ^ 64 }

-- base plus offset, in 64 bits; "Virtual addresses, physical addresses and frame numbers are kept apart": a sum by name
abbrev pub plus : PhysAddr → ℕ → PhysAddr
plus base by = record { 0 = (base.0 + by) % 2 ^ 64 }

-- the frame that holds an address: "kept apart", a change of kind by name
abbrev pub frame_of : PhysAddr → Frame
frame_of a = record { 0 = a.0 / 4096 }

-- the address at an offset in a frame, in 64 bits: "kept apart", a change of kind by name
abbrev pub in_frame : Frame → ℕ → PhysAddr
in_frame f by = record { 0 = (f.0 * 4096 + by % 4096) % 2 ^ 64 }
