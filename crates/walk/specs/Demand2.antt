-- Demand 2 about the rules: what a walk answers, exactly, and what memory is afterwards, bit by bit; rights and codes from the paper's bits.
use Rattle.std.specs.Prelude.{ℕ, zero, suc, ◌+◌, ◌*◌, ◌/◌, ◌^◌, ◌≤◌, ◌<◌, ◌≡◌, Bool, true, false, not, ◌&&◌, ◌||◌, cond, List, [], ◌∷◌, eqb, length, get_or, Ok, Err}
use Rattle.std.proofs.Math.Option.{Option, some, none}
use Rattle.word.specs.Bits.{bit}
use Rattle.word.specs.Bytes.{inside, load}
use Rattle.settings.specs.declared.Settings.{Settings}
use Rattle.settings.specs.Settings.{served}
use Rattle.address.specs.declared.PhysAddr.{PhysAddr}
use Rattle.address.specs.declared.VirtAddr.{VirtAddr}
use Rattle.address.specs.Address.{canonical, index, offset, page_bits, levels}
use Rattle.entry.specs.Says.{is_page, reserved, table_base, page_base}
use Rattle.walk.specs.declared.Access.{Access}
use Rattle.walk.specs.declared.Access.TheVariants.{Read, Write, Fetch}
use Rattle.walk.specs.declared.Way.{Way}
use Rattle.walk.specs.declared.Translation.{Translation}
use Rattle.walk.specs.declared.Refusal.{Refusal}
use Rattle.walk.specs.Answers.{Answer}
use Rattle.walk.specs.Path.{Entry, End, outside, missing, page, entries, end_of}
use Rattle.walk.specs.Path as Path
use Rattle.walk.specs.Translate.{answered, translated, translated_memory}
use Rattle.walk.specs.Walk.{walk_path, walk_answer, walk_memory}

-- the first entry for which a test holds, if any
unfoldable pub first : (Entry → Bool) → List Entry → Option Entry
first test [] = none
first test (e ∷ es) = cond (test e) (some e) (first test es)

-- the last entry, if any
unfoldable pub last : List Entry → Option Entry
last [] = none
last (e ∷ []) = some e
last (e ∷ (f ∷ es)) = last (f ∷ es)

-- an entry that ends the walk: P clear, or with a reserved bit set given the width and NXE
abbrev pub stops : Settings → Entry → Bool
stops s e = not (bit e.value 0) || reserved s.width (bit s.efer 11) e.level e.value

-- "A write needs R/W in all, unless the mode is supervisor and WP = 0. A fetch needs XD clear in all when NXE = 1.": an entry that is not so
abbrev pub forbids : Settings → Access → Bool → Entry → Bool
forbids s Read user e = false
forbids s Write user e = not (bit e.value 1) && (user || bit s.cr0 16)
forbids s Fetch user e = bit e.value 63 && bit s.efer 11

-- "User access needs U/S in all entries.": an entry that by itself lacks a right that is needed
abbrev pub lacks : Settings → Way → Entry → Bool
lacks s a e = (a.user && not (bit e.value 2)) || forbids s a.access a.user e

-- "write bit 1, [..] fetch bit 4. [..] Bit 4 is set exactly for a fetch with NXE = 1."
abbrev pub access_code : Settings → Access → ℕ
access_code s Read = 0
access_code s Write = 2
access_code s Fetch = cond (bit s.efer 11) 16 0

-- "user bit 2": the part of a code that the way of asking gives
abbrev pub way_code : Settings → Way → ℕ
way_code s a = access_code s a.access + cond a.user 4 0

-- the walk met no entry outside memory
abbrev pub all_inside : End → Bool
all_inside (outside l at) = false
all_inside (missing e) = true
all_inside (Path.reserved e) = true
all_inside (page e base) = true

-- the entries that a walk reads, from the root's on
abbrev pub read : Settings → VirtAddr → List ℕ → List Entry
read s address memory = entries (walk_path s address memory)

-- how a walk ends
abbrev pub end : Settings → VirtAddr → List ℕ → End
end s address memory = end_of (walk_path s address memory)

-- what a walk is answered
abbrev pub answer : Settings → VirtAddr → Way → List ℕ → Answer
answer s address a memory = answered s address a (walk_answer s address a memory)

-- an entry as it stands in memory at an address
abbrev pub stands_at : List ℕ → ℕ → ℕ → Entry → Bool
stands_at memory l at e = (eqb e.level l && eqb e.address at) && (inside memory at && eqb e.value (load 8 memory at))

-- the walk ends at an entry outside memory, of a level and at an address
abbrev pub outside_at : List ℕ → ℕ → ℕ → End → Bool
outside_at memory l at (outside k b) = (eqb k l && eqb b at) && not (inside memory at)
outside_at memory l at (missing e) = false
outside_at memory l at (Path.reserved e) = false
outside_at memory l at (page e base) = false

-- nothing more is read
abbrev pub over : List Entry → End → Bool
over [] x = all_inside x
over (e ∷ es) x = false

-- what is read and met from the table at a base: at each level the entry "at table base plus 8 times index"; it ends the walk or names the next table
unfoldable pub follow : Settings → VirtAddr → List ℕ → ℕ → ℕ → List Entry → End → Bool
follow s address memory zero base es x = false
follow s address memory (suc l) base [] x = outside_at memory (suc l) (base + 8 * index address (suc l)) x
follow s address memory (suc l) base (e ∷ es) x =
    stands_at memory (suc l) (base + 8 * index address (suc l)) e
    && cond (stops s e || is_page (suc l) e.value) (over es x) (follow s address memory l (table_base e.value).0 es x)

-- "Levels run 4 to 1": the entries that a walk reads, one after the other from CR3 without its low 12 bits, and the one that it meets outside memory
abbrev pub Reads : Settings → VirtAddr → List ℕ → Type 0
Reads s address memory = follow s address memory levels (s.cr3 / 4096 * 4096) (read s address memory) (end s address memory) ≡ true

-- "4 times PAT plus 2 times PCD plus PWT of the last entry": PAT is bit 7 at level 1, bit 12 of a large page
abbrev pub type_of : Entry → ℕ
type_of e = cond (bit e.value (cond (eqb e.level 1) 7 12)) 4 0 + (cond (bit e.value 4) 2 0 + cond (bit e.value 3) 1 0)

-- what the last entry of a walk gives: its base plus the offset, as plain numbers, its level as the size, its memory type, and the entries read
abbrev pub given : Entry → VirtAddr → ℕ → Translation
given e address n =
    record { address = record { 0 = (page_base e.level e.value).0 + offset address e.level }; size = e.level; memory_type = type_of e; reads = n }

-- (a) "gives the physical address exactly when Intel's paging chapter gives one"
pub record Gives (s : Settings) (address : VirtAddr) (a : Way) (memory : List ℕ) : Type 0 where
  -- every entry inside memory, present and without reserved bits, and none lacking a right: the last one's base plus the offset, as plain numbers;
  -- this shuts out "a translator that always refuses"
  pub where_due : all_inside (end s address memory) ≡ true
      → first (stops s) (read s address memory) ≡ none
      → first (lacks s a) (read s address memory) ≡ none
      → (e : Entry)
      × (last (read s address memory) ≡ some e)
      × ((page_base e.level e.value).0 < 2 ^ 52)
      × (offset address e.level < 2 ^ page_bits e.level)
      × (answer s address a memory ≡ Ok (given e address (length (read s address memory))))
  -- and an address is given only there; this shuts out one that "always gives one address"
  pub only_there : (t : Translation) → answer s address a memory ≡ Ok t
      → (all_inside (end s address memory) ≡ true)
      × (first (stops s) (read s address memory) ≡ none)
      × (first (lacks s a) (read s address memory) ≡ none)

-- (b) "else the fault code that chapter gives; a table outside memory has its own refusal"
pub record Refuses (s : Settings) (address : VirtAddr) (a : Way) (memory : List ℕ) : Type 0 where
  -- an entry outside memory: its address and level, where no entry above it stops
  pub at_outside : (l at : ℕ) → end s address memory ≡ outside l at
      → (inside memory at ≡ false)
      × (first (stops s) (read s address memory) ≡ none)
      × (answer s address a memory ≡ Err (Refusal.Outside (record { 0 = at }) l (length (read s address memory))))
  -- the first entry that stops is the last one read; where its P is clear, "P of the code 0"
  pub at_missing : (e : Entry) → first (stops s) (read s address memory) ≡ some e → bit e.value 0 ≡ false
      → (last (read s address memory) ≡ some e)
      × (answer s address a memory ≡ Err (Refusal.Fault (way_code s a) e.level (length (read s address memory))))
  -- where its P is set, a reserved bit is: P, bit 0, and reserved, bit 3, of the code are 1
  pub at_reserved : (e : Entry) → first (stops s) (read s address memory) ≡ some e → bit e.value 0 ≡ true
      → (last (read s address memory) ≡ some e)
      × (answer s address a memory ≡ Err (Refusal.Fault (1 + 8 + way_code s a) e.level (length (read s address memory))))
  -- rights, judged only after the last entry: P of the code is 1; the level of the first entry that lacks one, so of the highest
  pub at_rights : all_inside (end s address memory) ≡ true
      → first (stops s) (read s address memory) ≡ none
      → (e : Entry) → first (lacks s a) (read s address memory) ≡ some e
      → answer s address a memory ≡ Err (Refusal.Fault (1 + way_code s a) e.level (length (read s address memory)))

-- some entry has its lowest byte at an address
unfoldable pub some_at : ℕ → List Entry → Bool
some_at i [] = false
some_at i (e ∷ es) = eqb e.address i || some_at i es

-- an entry, if there is one, has its lowest byte at an address
abbrev pub lies_at : ℕ → Option Entry → Bool
lies_at i none = false
lies_at i (some e) = eqb e.address i

-- bit k of byte i is due to be set: "A in every entry read, and D in the last on a write"
abbrev pub due : Access → List Entry → ℕ → ℕ → Bool
due Read es i k = eqb k 5 && some_at i es
due Write es i k = (eqb k 5 && some_at i es) || (eqb k 6 && lies_at i (last es))
due Fetch es i k = eqb k 5 && some_at i es

-- (c) "A success sets the Accessed and Dirty bits due and changes no other bit of guest memory."
pub record Marks (s : Settings) (address : VirtAddr) (a : Way) (memory : List ℕ) : Type 0 where
  -- after a success a bit is set exactly if it was set or is due
  pub on_success : (t : Translation) → answer s address a memory ≡ Ok t → (i k : ℕ)
      → bit (get_or (walk_memory s address a memory) i 0) k ≡ (bit (get_or memory i 0) k || due a.access (read s address memory) i k)
  -- after anything else memory is as before
  pub on_refusal : ((t : Translation) → answer s address a memory ≡ Ok t → ⊥)
      → walk_memory s address a memory ≡ memory
  -- the number of bytes is always as before
  pub no_longer : length (walk_memory s address a memory) ≡ length memory

-- (d) "on a walk the number on its path, from 1 to 4, the failing one included. An entry outside memory is not read, so answer 4 reports 0 to 3."
pub record Counts (s : Settings) (address : VirtAddr) (a : Way) (memory : List ℕ) : Type 0 where
  pub of_address : (t : Translation) → answer s address a memory ≡ Ok t
      → (t.reads ≡ length (read s address memory)) × (1 ≤ t.reads) × (t.reads ≤ levels)
  pub of_fault : (code l n : ℕ) → answer s address a memory ≡ Err (Refusal.Fault code l n)
      → (n ≡ length (read s address memory)) × (1 ≤ n) × (n ≤ levels)
  pub of_outside : (at : PhysAddr) (l n : ℕ) → answer s address a memory ≡ Err (Refusal.Outside at l n)
      → (n ≡ length (read s address memory)) × (n < levels)

-- demand 2, for every settings, address, access and memory
pub record Demand2 (s : Settings) (address : VirtAddr) (a : Way) (memory : List ℕ) : Type 0 where
  pub reads : Reads s address memory
  pub gives : Gives s address a memory
  pub refuses : Refuses s address a memory
  pub marks : Marks s address a memory
  pub counts : Counts s address a memory

-- "Access is 0 read, 1 write, 2 fetch"
abbrev pub access_number : Access → ℕ
access_number Read = 0
access_number Write = 1
access_number Fetch = 2

-- "mode is 0 supervisor, 1 user"
abbrev pub mode_number : Bool → ℕ
mode_number user = cond user 1 0

-- "A walk of a well-formed address": with PG = 1, served settings and a canonical address, a translation is that walk
abbrev pub Walks : Type 0
Walks =
    (s : Settings) (address : VirtAddr) (a : Way) (memory : List ℕ)
    → bit s.cr0 31 ≡ true → served s ≡ true → canonical address ≡ true
    → (translated s address (access_number a.access) (mode_number a.user) memory ≡ answer s address a memory)
    × (translated_memory s address (access_number a.access) (mode_number a.user) memory ≡ walk_memory s address a memory)
