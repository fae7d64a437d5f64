-- Every call of the machine: its answer, the machine and memory afterwards.
use Rattle.std.specs.Prelude.{ℕ, ◌%◌, ◌^◌, ◌≡◌, Bool, not, ◌&&◌, ◌||◌, cond, List, eqb, leb, ltb, Ok, Err}
use Rattle.word.specs.Bits.{bit}
use Rattle.word.specs.Bytes.{inside, stored}
use Rattle.settings.specs.declared.Settings.{Settings}
use Rattle.settings.specs.Settings.{Service, initial, pcide, judged_from}
use Rattle.address.specs.declared.VirtAddr.{VirtAddr}
use Rattle.address.specs.Address.{canonical, tag}
use Rattle.walk.specs.declared.Way.{Way}
use Rattle.walk.specs.declared.Refusal.{Refusal}
use Rattle.walk.specs.Answers.{Answer}
use Rattle.walk.specs.Walk.{walk_answer, walk_memory}
use Rattle.walk.specs.Translate.{answered, unpaged}
use Rattle.cache.specs.declared.Cache.{Cache}
use Rattle.cache.specs.declared.Drop.{Drop}
use Rattle.cache.specs.declared.Drop.TheVariants.{Piece, Number, Local, All, Nothing}
use Rattle.cache.specs.Places.{set_index}
use Rattle.cache.specs.Whole.{set_at, empty_cache, drop_cache}
use Rattle.machine.specs.declared.Call.{Call}
use Rattle.machine.specs.declared.Machine.{Machine}
use Rattle.machine.specs.declared.Probed.{Probed}
use Rattle.machine.specs.declared.Probed.TheVariants.{Answered, Walk}
use Rattle.machine.specs.declared.Stepped.{Stepped}
use Rattle.machine.specs.Probe.{probed}
use Rattle.machine.specs.Remember.{page_drop, remembered}

-- what a call gives: the answer, the machine and memory afterwards
pub record Result : Type 0 where
  pub answer : Answer
  pub machine : Machine
  pub memory : List ℕ

-- a function's answer and machine, and memory afterwards, are those of a result
abbrev pub Gives : Result → Stepped Answer → List ℕ → Type 0
Gives result r memory = (r.answer ≡ result.answer) × (r.machine ≡ result.machine) × (memory ≡ result.memory)

-- an answer and a machine, with memory as it was
abbrev pub with_memory : List ℕ → Stepped Answer → Result
with_memory memory r = record { answer = r.answer; machine = r.machine; memory = memory }

-- "done" where no translation was asked: "else 0"
abbrev pub done : Answer
done = Ok (unpaged (record { 0 = 0 }))

-- the machine with another cache
abbrev pub with_cache : Machine → Cache → Machine
with_cache m c = record { settings = m.settings; cache = c }

-- a translation that walks
abbrev pub walked_result : Machine → List ℕ → VirtAddr → Way → Result
walked_result m memory address a =
    record {
      answer = answered m.settings address a (walk_answer m.settings address a memory);
      machine = with_cache m (remembered m.settings m.cache address a (walk_answer m.settings address a memory));
      memory = walk_memory m.settings address a memory;
    }

-- by what a translation finds before it walks: "The cache is unchanged by 1, 2, 3", and a hit "changes nothing. Otherwise walk."
abbrev pub probed_result : Machine → List ℕ → VirtAddr → Probed → Result
probed_result m memory address (Answered r) = record { answer = r; machine = m; memory = memory }
probed_result m memory address (Walk a) = walked_result m memory address a

-- a translation, looked up in the set of its page
unfoldable pub translated : Machine → List ℕ → VirtAddr → ℕ → ℕ → Result
translated m memory address access mode =
    probed_result m memory address (probed m.settings (set_at (set_index (tag address)) m.cache) address access mode)

-- a store of a value's 8 bytes: "its address" and level "0 for a store" where it is outside; "a card's store outside memory drops nothing"
unfoldable pub stored_result : Machine → List ℕ → ℕ → ℕ → Result
stored_result m memory at value =
    record {
      answer = cond (inside memory at) done (Err (Refusal.Outside (record { 0 = at }) 0 0));
      machine = m;
      memory = stored memory at value;
    }

-- what a load is answered, by what is answered of the settings that it would leave
abbrev pub load_answer : Service → Answer
load_answer (Ok served) = done
load_answer (Err why) = Err (Refusal.NotServed why)

-- something new where settings are served, else the old
abbrev pub if_served : {A : Type 0} → Service → A → A → A
if_served (Ok served) new old = new
if_served (Err why) new old = old

-- "A settings or root load is judged by the settings it would leave; refused, it leaves settings and cache as they were."
abbrev pub loaded : Machine → Settings → Cache → Stepped Answer
loaded m s c =
    record {
      answer = load_answer (judged_from m.settings s);
      machine = if_served (judged_from m.settings s) (record { settings = s; cache = c }) m;
    }

-- the CR3 that a root load leaves: with CR4 bit 17 set, bit 63 "is neither stored nor compared with M"
abbrev pub root_value : Settings → ℕ → ℕ
root_value s value = cond (pcide s) (value % 2 ^ 63) value

-- settings with another CR3
abbrev pub with_root : Settings → ℕ → Settings
with_root s value = record { cr0 = s.cr0; cr3 = root_value s value; cr4 = s.cr4; efer = s.efer; width = s.width }

-- "A root load drops all but G places."; "With bit 17 set a root load drops the non-G places of the number loaded, or nothing if bit 63 of the value is set"
abbrev pub root_drop : Settings → ℕ → Drop
root_drop s value = cond (pcide s) (cond (bit value 63) Nothing (Number (value % 4096))) Local

-- a root load
unfoldable pub root_loaded : Machine → ℕ → Stepped Answer
root_loaded m value = loaded m (with_root m.settings value) (drop_cache (root_drop m.settings value) m.cache)

-- other settings: "CR3 stays"
abbrev pub with_settings : Settings → ℕ → ℕ → ℕ → ℕ → Settings
with_settings s cr0 cr4 efer width = record { cr0 = cr0; cr3 = s.cr3; cr4 = cr4; efer = efer; width = width }

-- "A settings load [..] drops everything and leaves zeros."
unfoldable pub settings_loaded : Machine → ℕ → ℕ → ℕ → ℕ → Stepped Answer
settings_loaded m cr0 cr4 efer width = loaded m (with_settings m.settings cr0 cr4 efer width) empty_cache

-- "'Drop page' now drops each place whose own page, at its own size, contains the address"; "a non-canonical address changes nothing and answers 0"
unfoldable pub page_dropped : Machine → VirtAddr → Stepped Answer
page_dropped m address =
    record {
      answer = done;
      machine = cond (canonical address) (with_cache m (drop_cache (page_drop m.settings address) m.cache)) m;
    }

-- "'drop all' drops everything and leaves zeros"
unfoldable pub all_dropped : Machine → Stepped Answer
all_dropped m = record { answer = done; machine = with_cache m empty_cache }

-- "12 a space number above 4,095, or in kinds 0 and 1 not 0 with the feature off"
abbrev pub number_served : Settings → ℕ → ℕ → Bool
number_served s kind number = leb number 4095 && (ltb 1 kind || (pcide s || eqb number 0))

-- "3 address form in kind 0"
abbrev pub form_served : ℕ → VirtAddr → Bool
form_served kind address = not (eqb kind 0) || canonical address

-- "the INVPCID kinds 0 to 3: one address (by #102's rule) in one number without G, one number without G, all with G, all without G"
abbrev pub kind_drop : ℕ → ℕ → VirtAddr → Drop
kind_drop kind number address =
    cond (eqb kind 0) (Piece (tag address) number) (cond (eqb kind 1) (Number number) (cond (eqb kind 2) All Local))

-- a refusal that leaves the machine as it is
abbrev pub refused_with : Answer → Machine → Stepped Answer
refused_with r m = record { answer = r; machine = m }

-- INVPCID; "in this order: 1 unknown kind, 12 [..], 3"
unfoldable pub invalidated : Machine → ℕ → ℕ → VirtAddr → Stepped Answer
invalidated m kind number address =
    cond (leb kind 3)
    (cond (number_served m.settings kind number)
    (cond (form_served kind address)
    (record { answer = done; machine = with_cache m (drop_cache (kind_drop kind number address) m.cache) })
    (refused_with (Err Refusal.Form) m))
    (refused_with (Err Refusal.SpaceNumber) m))
    (refused_with (Err Refusal.Unknown) m)

-- one call
unfoldable pub step : Machine → List ℕ → Call → Result
step m memory (Call.Translate address access mode) = translated m memory address access mode
step m memory (Call.Store at value) = stored_result m memory at value
step m memory (Call.LoadRoot value) = with_memory memory (root_loaded m value)
step m memory (Call.LoadSettings cr0 cr4 efer width) = with_memory memory (settings_loaded m cr0 cr4 efer width)
step m memory (Call.DropPage address) = with_memory memory (page_dropped m address)
step m memory Call.DropAll = with_memory memory (all_dropped m)
step m memory (Call.Invpcid kind number address) = with_memory memory (invalidated m kind number address)

-- "an empty cache with all registers 0 and M = 40"
abbrev pub initial_machine : Machine
initial_machine = record { settings = initial; cache = empty_cache }

-- "A refused start gives" the number of what is wrong and the initial machine; "a start counts as turning on"
abbrev pub started : Settings → Stepped Answer
started s = loaded initial_machine s empty_cache
