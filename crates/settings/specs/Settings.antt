-- "Settings": the record's named bits, what is served, the root.
use Rattle.std.specs.Prelude.{ℕ, ◌*◌, ◌/◌, ◌%◌, ◌^◌, Bool, not, ◌&&◌, ◌||◌, cond, eqb, leb, ltb, ⊤, Result, Ok, Err}
use Rattle.word.specs.Bits.{bit, field}
use Rattle.address.specs.declared.PhysAddr.{PhysAddr}
use Rattle.settings.specs.declared.Settings.{Settings}
use Rattle.settings.specs.declared.Unserved.{Unserved}
use Rattle.settings.specs.declared.Unserved.TheVariants.{Width, Root, Paging, Extension, Spaces}

-- "Used bits: CR0 PE 0, WP 16, PG 31; CR4 PAE 5, PGE 7; EFER LME 8, NXE 11"
abbrev pub pe : Settings → Bool
pe s = bit s.cr0 0

abbrev pub wp : Settings → Bool
wp s = bit s.cr0 16

abbrev pub pg : Settings → Bool
pg s = bit s.cr0 31

abbrev pub pae : Settings → Bool
pae s = bit s.cr4 5

abbrev pub pge : Settings → Bool
pge s = bit s.cr4 7

-- "Serve CR4 bit 17": address-space numbers are on
abbrev pub pcide : Settings → Bool
pcide s = bit s.cr4 17

abbrev pub lme : Settings → Bool
lme s = bit s.efer 8

abbrev pub nxe : Settings → Bool
nxe s = bit s.efer 11

-- "all registers 0 and M = 40"
abbrev pub initial : Settings
initial = record { cr0 = 0; cr3 = 0; cr4 = 0; efer = 0; width = 40 }

-- "M from 32 to 52"
abbrev pub width_served : Settings → Bool
width_served s = leb 32 s.width && leb s.width 52

-- "CR3 below 2^M"
abbrev pub root_served : Settings → Bool
root_served s = ltb s.cr3 (2 ^ s.width)

-- "PE = PAE = LME = 1"; "Left out: 32-bit, PAE [..] paging"
abbrev pub mode : Settings → Bool
mode s = pe s && (pae s && lme s)

-- "CR4 bits 12 [..] and 20 to 24 clear"; "Left out: [..] five-level paging, [..] SMEP, SMAP, protection keys, shadow stacks"
abbrev pub extensions : Settings → Bool
extensions s = not (bit s.cr4 12) && eqb (field s.cr4 20 5) 0

-- "when PG = 1", and "With PG = 0 no other bit is tested."
abbrev pub mode_served : Settings → Bool
mode_served s = not (pg s) || mode s

abbrev pub extensions_served : Settings → Bool
extensions_served s = not (pg s) || extensions s

-- not "having it on with paging off"
abbrev pub spaces_served : Settings → Bool
spaces_served s = not (pcide s) || pg s

-- a record is served where every test passes
abbrev pub served : Settings → Bool
served s = width_served s && (root_served s && (mode_served s && (extensions_served s && spaces_served s)))

-- what is answered of settings: that they are served, or what is wrong with them
abbrev pub Service : Type 0
Service = Result ⊤ Unserved

-- what is answered of a settings record, "in this order": "2 width, 8 root too large for the width, 9 paging on without PE, PAE or LME, 10 an extension bit not served", "11, after 10"
abbrev pub judged : Settings → Service
judged s =
    cond (width_served s)
    (cond (root_served s)
    (cond (mode_served s)
    (cond (extensions_served s) (cond (spaces_served s) (Ok tt) (Err Spaces)) (Err Extension))
    (Err Paging))
    (Err Root))
    (Err Width)

-- the same with paging off, where width and root have passed
abbrev pub judged_unpaged : Settings → Service
judged_unpaged s = cond (pcide s) (Err Spaces) (Ok tt)

-- "CR3 bits 11:0 are then the space number (else it is 0)": the present number
abbrev pub space_number : Settings → ℕ
space_number s = cond (pcide s) (s.cr3 % 4096) 0

-- "turning the feature on while CR3 bits 11:0 are not 0"
abbrev pub turns_on_numbered : Settings → Settings → Bool
turns_on_numbered before s = (not (pcide before) && pcide s) && not (eqb (s.cr3 % 4096) 0)

-- a refusal stands, and what would be served is refused with 11
abbrev pub refused_on : Service → Service
refused_on (Ok served) = Err Spaces
refused_on (Err why) = Err why

-- what is answered of the settings that a load would leave, from those before it
abbrev pub judged_from : Settings → Settings → Service
judged_from before s = cond (turns_on_numbered before s) (refused_on (judged s)) (judged s)

-- the number of each
abbrev pub number : Unserved → ℕ
number Width = 2
number Root = 8
number Paging = 9
number Extension = 10
number Spaces = 11

-- "The low 12 bits of CR3 do not count; the rest is the root."
abbrev pub root : Settings → PhysAddr
root s = record { 0 = s.cr3 / 4096 * 4096 }
