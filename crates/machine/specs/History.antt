-- The latest successful walk of a page under a space number since it was last dropped: computed from calls, answers and memory, never from the cache.
use Rattle.std.specs.Prelude.{ℕ, Bool, false, not, ◌&&◌, cond, List, [], ◌∷◌, eqb}
use Rattle.word.specs.Bits.{bit}
use Rattle.word.specs.Bytes.{load}
use Rattle.settings.specs.declared.Settings.{Settings}
use Rattle.settings.specs.Settings.{pge, root, space_number}
use Rattle.address.specs.declared.PhysAddr.{PhysAddr}
use Rattle.address.specs.declared.VirtAddr.{VirtAddr}
use Rattle.address.specs.Address.{canonical, tag}
use Rattle.cache.specs.declared.Drop.{Drop}
use Rattle.cache.specs.declared.Drop.TheVariants.{All, Nothing}
use Rattle.cache.specs.Places.{Key, mine, takes}
use Rattle.walk.specs.Answers.{Answer}
use Rattle.walk.specs.Translate.{numbers}
use Rattle.walk.specs.Path.{Entry, End, outside, missing, reserved, page, entries, end_of}
use Rattle.walk.specs.Walk.{walk_path}
use Rattle.machine.specs.declared.Call.{Call}
use Rattle.machine.specs.Remember.{page_drop}
use Rattle.machine.specs.Calls.{root_drop, kind_drop}
use Rattle.machine.specs.Demand1.{faulted}
use Rattle.machine.specs.Series.{Event, call, stores, Stand, gives, leads}

-- an entry that a walk read, and what the walk left in it
pub record Left : Type 0 where
  pub address : ℕ
  pub value : ℕ

-- a successful walk: the root it used, the entries it read with what it left in them, and the key of the place that it left
pub record Walk : Type 0 where
  pub root : PhysAddr
  pub entries : List Left
  pub key : Key

-- what the entries read hold in memory after the walk
abbrev pub left_in : List ℕ → List Entry → List Left
left_in after [] = []
left_in after (e ∷ es) = record { address = e.address; value = load 8 after e.address } ∷ left_in after es

-- a key of the page and the present number
abbrev pub key_with : Settings → VirtAddr → ℕ → Bool → Key
key_with s address size global = record { tag = tag address; size = size; number = space_number s; global = global }

-- the key of a page at which a walk ends: its tag, "the size that walk found", the present number, and "G (kept only if PGE = 1)"
abbrev pub key_at : Settings → VirtAddr → End → Key
key_at s address (outside l at) = key_with s address 0 false
key_at s address (missing e) = key_with s address 0 false
key_at s address (reserved e) = key_with s address 0 false
key_at s address (page e base) = key_with s address e.level (bit e.value 8 && pge s)

-- the walk of an address under settings, from memory before it and after it
abbrev pub walk_of : Settings → VirtAddr → List ℕ → List ℕ → Walk
walk_of s address before after =
    record {
      root = root s;
      entries = left_in after (entries (walk_path s address before));
      key = key_at s address (end_of (walk_path s address before));
    }

-- a successful walk, read off its answer: 0 with entries read
abbrev pub succeeded : Answer → Bool
succeeded r = eqb (numbers r).answer 0 && not (eqb (numbers r).reads 0)

-- a load that is accepted, read off its answer: 0
abbrev pub accepted : Answer → Bool
accepted r = eqb (numbers r).answer 0

-- a call that asks for page t: any translation that names it
abbrev pub asks : ℕ → Call → Bool
asks t (Call.Translate address access mode) = eqb (tag address) t
asks t (Call.Store at value) = false
asks t (Call.LoadRoot value) = false
asks t (Call.LoadSettings cr0 cr4 efer width) = false
asks t (Call.DropPage address) = false
asks t Call.DropAll = false
asks t (Call.Invpcid kind number address) = false

-- the drop that a call makes, by its answer and the settings before it: a refused walk's, an accepted load's, "drop page", "drop all", INVPCID's
abbrev pub drop_of : Settings → Call → Answer → Drop
drop_of s (Call.Translate address access mode) r = cond (faulted r) (page_drop s address) Nothing
drop_of s (Call.Store at value) r = Nothing
drop_of s (Call.LoadRoot value) r = cond (accepted r) (root_drop s value) Nothing
drop_of s (Call.LoadSettings cr0 cr4 efer width) r = cond (accepted r) All Nothing
drop_of s (Call.DropPage address) r = cond (canonical address) (page_drop s address) Nothing
drop_of s Call.DropAll r = All
drop_of s (Call.Invpcid kind number address) r = cond (accepted r) (kind_drop kind number address) Nothing

-- "a walk is dropped by any drop that would take its place"; to fall out at the end of a set is no drop
abbrev pub drops : Settings → Walk → Call → Answer → Bool
drops s w c r = takes (drop_of s c r) w.key

-- what is known of a page under a number: no successful walk since it was last dropped, or the latest such walk
pub data Latest : Type 0 where
  none : Latest
  walk : Walk → Latest

-- what a drop leaves of it
abbrev pub forgotten : Drop → Latest → Latest
forgotten d none = none
forgotten d (walk w) = cond (takes d w.key) none (walk w)

-- a translation that walked page t with success and left a place of number n or G: "the walks meant are those of the present number or that left a G place"
abbrev pub walked_for : ℕ → ℕ → Settings → VirtAddr → List ℕ → Answer → Bool
walked_for t n s address before r =
    (eqb (tag address) t && succeeded r) && mine n (key_at s address (end_of (walk_path s address before)))

-- the latest walk of page t under number n after a call, from settings and memory before it, its answer and memory after it
abbrev pub noted : ℕ → ℕ → Settings → List ℕ → Call → Answer → List ℕ → Latest → Latest
noted t n s before (Call.Translate address access mode) r after w =
    cond (walked_for t n s address before r) (walk (walk_of s address before after)) (forgotten (drop_of s (Call.Translate address access mode) r) w)
noted t n s before (Call.Store at value) r after w = forgotten (drop_of s (Call.Store at value) r) w
noted t n s before (Call.LoadRoot value) r after w = forgotten (drop_of s (Call.LoadRoot value) r) w
noted t n s before (Call.LoadSettings cr0 cr4 efer width) r after w = forgotten (drop_of s (Call.LoadSettings cr0 cr4 efer width) r) w
noted t n s before (Call.DropPage address) r after w = forgotten (drop_of s (Call.DropPage address) r) w
noted t n s before Call.DropAll r after w = forgotten (drop_of s Call.DropAll r) w
noted t n s before (Call.Invpcid kind number address) r after w = forgotten (drop_of s (Call.Invpcid kind number address) r) w

-- the same after an event: guest stores drop nothing
abbrev pub noted_event : ℕ → ℕ → Stand → Event → Latest → Latest
noted_event t n now (call c) w = noted t n now.machine.settings now.memory c (gives now c).answer (gives now c).memory w
noted_event t n now (stores other) w = w

-- the latest walk of page t under number n after a series, given what it was before
unfoldable pub latest : ℕ → ℕ → Stand → List Event → Latest → Latest
latest t n now [] w = w
latest t n now (e ∷ es) w = latest t n (leads now e) es (noted_event t n now e w)
