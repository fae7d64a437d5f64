-- One uncached translation: "A translation is tested in this order: 1, 2, 3, then 4 and 5 as the walk meets them."
use Rattle.std.specs.Prelude.{ℕ, ◌+◌, ◌^◌, ◌≡◌, Bool, true, false, cond, List, ltb, Result, Ok, Err}
use Rattle.settings.specs.declared.Settings.{Settings}
use Rattle.settings.specs.Settings.{Service, judged, number, pg}
use Rattle.address.specs.declared.PhysAddr.{PhysAddr}
use Rattle.address.specs.declared.VirtAddr.{VirtAddr}
use Rattle.address.specs.Address.{canonical, offset, plus}
use Rattle.entry.specs.Memory.{memory_type}
use Rattle.walk.specs.declared.Way.{Way}
use Rattle.walk.specs.declared.Numbers.{Numbers}
use Rattle.walk.specs.declared.Translation.{Translation}
use Rattle.walk.specs.declared.Cause.{Cause}
use Rattle.walk.specs.declared.Cause.TheVariants.{Missing, Reserved, Rights}
use Rattle.walk.specs.declared.Unmapped.TheVariants.{Refused, Outside}
use Rattle.walk.specs.declared.Asked.{Asked}
use Rattle.walk.specs.declared.Refusal.{Refusal}
use Rattle.walk.specs.Answers.{Walked, Answer}
use Rattle.walk.specs.Access.{known, way_of, needs_fetch, writes}
use Rattle.walk.specs.Walk.{walk_answer, walk_memory}

-- "Paging off: an address below 2^32 is its own physical address, else answer 3."
abbrev pub asked_off : VirtAddr → Result Asked Refusal
asked_off address = cond (ltb address.0 (2 ^ 32)) (Ok (Asked.Off (record { 0 = address.0 }))) (Err Refusal.Form)

-- "Paging on: bits 63 to 47 must be equal, else 3."
abbrev pub asked_on : VirtAddr → Way → Result Asked Refusal
asked_on address a = cond (canonical address) (Ok (Asked.On a)) (Err Refusal.Form)

-- what settings refuse, or what is found after them
abbrev pub asked_of : Service → Result Asked Refusal → Result Asked Refusal
asked_of (Ok served) found = found
asked_of (Err why) found = Err (Refusal.NotServed why)

-- the tests 1, those of the settings and 3, in this order
abbrev pub asked : Settings → VirtAddr → ℕ → ℕ → Result Asked Refusal
asked s address access mode =
    cond (known access mode)
    (asked_of (judged s) (cond (pg s) (asked_on address (way_of access mode)) (asked_off address)))
    (Err Refusal.Unknown)

-- "The level is that of the missing or reserved entry; for rights, the highest level whose own entry lacks any needed right"
abbrev pub cause_level : Cause → ℕ
cause_level (Missing l) = l
cause_level (Reserved l) = l
cause_level (Rights l) = l

-- "P is 1 for rights and reserved faults."
abbrev pub cause_present : Cause → Bool
cause_present (Missing l) = false
cause_present (Reserved l) = true
cause_present (Rights l) = true

-- "reserved bit 3": the cause sets it
abbrev pub cause_reserved : Cause → Bool
cause_reserved (Missing l) = false
cause_reserved (Reserved l) = true
cause_reserved (Rights l) = false

-- "P bit 0, write bit 1, user bit 2, reserved bit 3, fetch bit 4"
abbrev pub code_of : Bool → Bool → Bool → Bool → Bool → ℕ
code_of present write user reserved fetch =
    cond present 1 0 + (cond write 2 0 + (cond user 4 0 + (cond reserved 8 0 + cond fetch 16 0)))

-- the code of a cause; "Bit 4 is set exactly for a fetch with NXE = 1."
abbrev pub code : Settings → Way → Cause → ℕ
code s a cause = code_of (cause_present cause) (writes a) a.user (cause_reserved cause) (needs_fetch s a)

-- what is given where no page is found: an address, size 0, "with paging off 0" as memory type, no entry read
abbrev pub unpaged : PhysAddr → Translation
unpaged at = record { address = at; size = 0; memory_type = 0; reads = 0 }

-- what a walk is answered: 0 with the "physical address of a translation" and its size, 5 "page fault" with "error code" and "level",
-- 4 "table entry [..] outside memory" with "its address" and "level"
abbrev pub answered : Settings → VirtAddr → Way → Walked → Answer
answered s address a (Ok m) =
    Ok (record {
      address = plus m.base (offset address m.size);
      size = m.size;
      memory_type = memory_type m.size m.last;
      reads = m.reads;
    })
answered s address a (Err (Refused cause n)) = Err (Refusal.Fault (code s a cause) (cause_level cause) n)
answered s address a (Err (Outside at l n)) = Err (Refusal.Outside at l n)

-- what a question is answered by a fresh walk: size "0 when paging is off", entries read "0 where no walk was made"
abbrev pub fresh : Settings → VirtAddr → List ℕ → Result Asked Refusal → Answer
fresh s address memory (Err why) = Err why
fresh s address memory (Ok (Asked.Off at)) = Ok (unpaged at)
fresh s address memory (Ok (Asked.On a)) = answered s address a (walk_answer s address a memory)

-- memory after a fresh walk, if one is made
abbrev pub fresh_memory : Settings → VirtAddr → List ℕ → Result Asked Refusal → List ℕ
fresh_memory s address memory (Err why) = memory
fresh_memory s address memory (Ok (Asked.Off at)) = memory
fresh_memory s address memory (Ok (Asked.On a)) = walk_memory s address a memory

-- the answer of one uncached translation
unfoldable pub translated : Settings → VirtAddr → ℕ → ℕ → List ℕ → Answer
translated s address access mode memory = fresh s address memory (asked s address access mode)

-- memory after one uncached translation
unfoldable pub translated_memory : Settings → VirtAddr → ℕ → ℕ → List ℕ → List ℕ
translated_memory s address access mode memory = fresh_memory s address memory (asked s address access mode)

-- an answer and memory after it are those of one uncached translation
abbrev pub IsTranslation : Settings → VirtAddr → ℕ → ℕ → List ℕ → Answer → List ℕ → Type 0
IsTranslation s address access mode memory answer left =
    (answer ≡ translated s address access mode memory) × (left ≡ translated_memory s address access mode memory)

-- a refusal with no entry read: "Numbers added later have value and detail 0 unless a request says otherwise."
abbrev pub refusal : ℕ → Numbers
refusal number = record { answer = number; value = 0; detail = 0; reads = 0; memory_type = 0 }

-- "Numbers answered": number, value, detail and entries read of each answer
abbrev pub numbers : Answer → Numbers
numbers (Ok t) = record { answer = 0; value = t.address.0; detail = t.size; reads = t.reads; memory_type = t.memory_type }
numbers (Err Refusal.Unknown) = refusal 1
numbers (Err (Refusal.NotServed why)) = refusal (number why)
numbers (Err Refusal.Form) = refusal 3
numbers (Err (Refusal.Outside at l n)) = record { answer = 4; value = at.0; detail = l; reads = n; memory_type = 0 }
numbers (Err (Refusal.Fault c l n)) = record { answer = 5; value = c; detail = l; reads = n; memory_type = 0 }
numbers (Err Refusal.SpaceNumber) = refusal 12
