-- The path of a walk: each entry read, with its level, address and value, and how the walk ends. All else is read off it.
use Rattle.std.specs.Prelude.{ℕ, zero, suc, ◌+◌, ◌*◌, Bool, true, false, not, ◌&&◌, cond, List, [], ◌∷◌, length}
use Rattle.word.specs.Bits.{bit}
use Rattle.word.specs.Bytes.{load, inside}
use Rattle.address.specs.declared.VirtAddr.{VirtAddr}
use Rattle.address.specs.Address.{index}
use Rattle.entry.specs.declared.Says.{Says}
use Rattle.entry.specs.declared.Says.TheVariants.{Missing, Reserved, Table, Page}
use Rattle.entry.specs.Rights.{number, own, allow}
use Rattle.entry.specs.Mark.{mark}

-- an entry read on a walk
pub record Entry : Type 0 where
  pub level : ℕ
  pub address : ℕ
  pub value : ℕ

-- how a walk ends: at an entry outside memory (its level and address), a missing entry, one with a reserved bit, or a page with its base
pub data End : Type 0 where
  outside : ℕ → ℕ → End
  missing : Entry → End
  reserved : Entry → End
  page : Entry → ℕ → End

-- a path is its end, or an entry that names a table and the path from there
pub data Path : Type 0 where
  ends : End → Path
  next : Entry → Path → Path

-- the path goes on as an entry says
abbrev pub onward : Says → Entry → (ℕ → Path) → Path
onward Missing e rest = ends (missing e)
onward Reserved e rest = ends (reserved e)
onward (Page base) e rest = ends (page e base.0)
onward (Table base) e rest = next e (rest base.0)

-- one level: "An entry is 8 bytes, little-endian, at table base plus 8 times index; it is inside when its address plus 8 is at most the memory's length."
-- "Source document 001 lets an unmapped read give ones; here it is answer 4."
abbrev pub level : (ℕ → ℕ → Says) → List ℕ → ℕ → ℕ → (ℕ → Path) → Path
level tell memory l at rest =
    cond (inside memory at) (onward (tell l (load 8 memory at)) (record { level = l; address = at; value = load 8 memory at }) rest)
    (ends (outside l at))

-- the path from a table at a base: the level falls to 1, at which every entry that is present and not reserved is a page
unfoldable pub path : (ℕ → ℕ → Says) → List ℕ → VirtAddr → ℕ → ℕ → Path
path tell memory address zero base = ends (outside 0 base)
path tell memory address (suc l) base =
    level tell memory (suc l) (base + 8 * index address (suc l)) (λ (table : ℕ). path tell memory address l table)

-- the entry at an end, if one was read there
abbrev pub last_entry : End → List Entry
last_entry (outside l at) = []
last_entry (missing e) = e ∷ []
last_entry (reserved e) = e ∷ []
last_entry (page e base) = e ∷ []

-- the entries read, from the root's on
unfoldable pub entries : Path → List Entry
entries (ends end) = last_entry end
entries (next e p) = e ∷ entries p

-- the end of a path
unfoldable pub end_of : Path → End
end_of (ends end) = end
end_of (next e p) = end_of p

-- "entries read": the number on its path
abbrev pub reads : Path → ℕ
reads p = length (entries p)

-- a test holds of the value of every entry
unfoldable pub every : (ℕ → Bool) → List Entry → Bool
every test [] = true
every test (e ∷ es) = test e.value && every test es

-- the rights of all entries together: "User access needs U/S in all entries. A write needs R/W in all [..]. A fetch needs XD clear in all"
abbrev pub rights : Path → ℕ
rights p =
    number (every (λ (v : ℕ). bit v 1) (entries p)) (every (λ (v : ℕ). bit v 2) (entries p)) (every (λ (v : ℕ). not (bit v 63)) (entries p))

-- "the highest level whose own entry lacks any needed right, or 0 if no single entry lacks one"
unfoldable pub report : ℕ → List Entry → ℕ
report needed [] = 0
report needed (e ∷ es) = cond (allow needed (own e.value)) (report needed es) e.level

-- "A success sets A in every entry read, and D in the last on a write"
abbrev pub mark_last : Bool → End → List ℕ → List ℕ
mark_last write (outside l at) memory = memory
mark_last write (missing e) memory = memory
mark_last write (reserved e) memory = memory
mark_last write (page e base) memory = mark write memory e.address

-- the marks of a success: the last entry's first, each on the byte as it then is
unfoldable pub marks : Bool → Path → List ℕ → List ℕ
marks write (ends end) memory = mark_last write end memory
marks write (next e p) memory = mark false (marks write p memory) e.address
