-- Demand 3, sentence by sentence: its two halves, and what any call that walks gives.
use Rattle.std.specs.Prelude.{ℕ, ◌+◌, ◌*◌, ◌/◌, ◌%◌, ◌≤◌, ◌≡◌, Bool, true, false, not, ◌&&◌, ◌||◌, List, [], ◌∷◌, eqb, length}
use Rattle.settings.specs.declared.Settings.{Settings}
use Rattle.settings.specs.Settings.{root, space_number}
use Rattle.address.specs.declared.VirtAddr.{VirtAddr}
use Rattle.address.specs.Address.{tag}
use Rattle.walk.specs.Answers.{Answer}
use Rattle.walk.specs.declared.Numbers.{Numbers}
use Rattle.walk.specs.Translate.{translated, translated_memory, numbers}
use Rattle.machine.specs.declared.Call.{Call}
use Rattle.machine.specs.Calls.{Result}
use Rattle.machine.specs.Series.{Event, call, stores, Stand, gives, leads, run, start}
use Rattle.machine.specs.History.{Walk, Latest, none, walk, walk_of, succeeded, asks, drops, latest}
use Rattle.machine.specs.Holds.{Holds}

-- what a translation gives where a series stands
abbrev pub ask : Stand → VirtAddr → ℕ → ℕ → Result
ask now address access mode = gives now (Call.Translate address access mode)

-- what a fresh walk is answered there, and the memory that it leaves: the rules of one uncached translation
abbrev pub fresh_answer : Stand → VirtAddr → ℕ → ℕ → Answer
fresh_answer now address access mode = translated now.machine.settings address access mode now.memory

abbrev pub fresh_memory : Stand → VirtAddr → ℕ → ℕ → List ℕ
fresh_memory now address access mode = translated_memory now.machine.settings address access mode now.memory

-- the present space number where a series stands
abbrev pub present_number : Stand → ℕ
present_number now = space_number now.machine.settings

-- "the page asked for has had no successful walk since it was last dropped; or the root is that of its latest such walk,
-- and each entry read then holds what that walk left, save Accessed or Dirty bits set since"
abbrev pub Premise : Stand → Latest → Type 0
Premise now none = Unit
Premise now (walk w) = (root now.machine.settings ≡ w.root) × Holds now.memory w.entries

-- "address and size, or refusal": number, value and detail of an answer, and not its entries read
abbrev pub without_reads : Answer → Numbers
without_reads r = record { answer = (numbers r).answer; value = (numbers r).value; detail = (numbers r).detail; reads = 0; memory_type = (numbers r).memory_type }

-- "Then address and size, or refusal, and the memory afterwards are those of a fresh walk."
abbrev pub AsFresh : Stand → VirtAddr → ℕ → ℕ → Type 0
AsFresh now address access mode =
    (without_reads (ask now address access mode).answer ≡ without_reads (fresh_answer now address access mode))
    × ((ask now address access mode).memory ≡ fresh_memory now address access mode)

-- the first half: "Take any series of calls from an empty cache, with any guest stores between", and any question;
-- "In the demands a page is 4,096 bytes of virtual address": its tag; "the walks meant are those of the present number or that left a G place"
abbrev pub FirstHalf : Type 0
FirstHalf =
    (s : Settings) (memory : List ℕ) (series : List Event) (address : VirtAddr) (access mode : ℕ)
    → Premise (run (start s memory) series) (latest (tag address) (present_number (run (start s memory) series)) (start s memory) series none)
    → AsFresh (run (start s memory) series) address access mode

-- "at most three other pages"
abbrev pub others : ℕ
others = 3

-- a page under a number: "another page walked under two numbers counts twice"
pub record Numbered : Type 0 where
  pub tag : ℕ
  pub number : ℕ

-- a page under a number is in a list
abbrev pub listed : Numbered → List Numbered → Bool
listed p [] = false
listed p (q ∷ qs) = (eqb p.tag q.tag && eqb p.number q.number) || listed p qs

-- where a call walks another page "of its set" with success (the set of page t: "tag mod 16"), that page under the present number is in the list
abbrev pub counted : ℕ → List Numbered → Settings → Call → Answer → Bool
counted t pages s (Call.Translate address access mode) r =
    not (succeeded r && eqb (tag address % 16) (t % 16)) || listed (record { tag = tag address; number = space_number s }) pages
counted t pages s (Call.Store at value) r = true
counted t pages s (Call.LoadRoot value) r = true
counted t pages s (Call.LoadSettings cr0 cr4 efer width) r = true
counted t pages s (Call.DropPage address) r = true
counted t pages s Call.DropAll r = true
counted t pages s (Call.Invpcid kind number address) r = true

-- "between, nothing dropped it, no other call asked for it, and" of the "other pages of its set" those of a list alone "were walked with success"
abbrev pub Between : ℕ → Walk → List Numbered → Stand → List Event → Type 0
Between t w pages now [] = Unit
Between t w pages now (call c ∷ es) =
    (drops now.machine.settings w c (gives now c).answer ≡ false)
    × (asks t c ≡ false)
    × (counted t pages now.machine.settings c (gives now c).answer ≡ true)
    × Between t w pages (leads now (call c)) es
Between t w pages now (stores other ∷ es) = Between t w pages (leads now (stores other)) es

-- the walk that a translation made
abbrev pub walk_by : Stand → VirtAddr → ℕ → ℕ → Walk
walk_by now address access mode = walk_of now.machine.settings address now.memory (ask now address access mode).memory

-- the frame and size of an earlier answer, at another address of the page, with "no entry read"
abbrev pub again : Numbers → VirtAddr → Numbers
again before address = record { answer = 0; value = before.value / 4096 * 4096 + address.0 % 4096; detail = before.detail; reads = 0; memory_type = before.memory_type }

-- "a page walked with success and later asked for in the same way reports no entry read": the same access and mode, any offset; "at its end both calls have one number";
-- "With paging on": with paging off no call reads an entry, so none has succeeded here
abbrev pub Remembered : Stand → Type 0
Remembered now =
    (first later : VirtAddr) (access mode : ℕ) (pages : List Numbered) (between : List Event)
    → succeeded (ask now first access mode).answer ≡ true
    → tag later ≡ tag first
    → length pages ≤ others
    → Between (tag first) (walk_by now first access mode) pages (leads now (call (Call.Translate first access mode))) between
    → present_number (run (leads now (call (Call.Translate first access mode))) between) ≡ present_number now
    → numbers (ask (run (leads now (call (Call.Translate first access mode))) between) later access mode).answer
    ≡ again (numbers (ask now first access mode).answer) later

-- the second half: after any series from an empty cache
abbrev pub SecondHalf : Type 0
SecondHalf = (s : Settings) (memory : List ℕ) (series : List Event) → Remembered (run (start s memory) series)

-- an answer that tells of no hit: any but 0 with no entry read
abbrev pub walks : Answer → Bool
walks r = not (eqb (numbers r).answer 0 && eqb (numbers r).reads 0)

-- besides, in any state whatever: a call that walks gives what a fresh walk gives, entries read too
abbrev pub AnyWalk : Type 0
AnyWalk =
    (now : Stand) (address : VirtAddr) (access mode : ℕ)
    → walks (ask now address access mode).answer ≡ true
    → ((ask now address access mode).answer ≡ fresh_answer now address access mode)
    × ((ask now address access mode).memory ≡ fresh_memory now address access mode)
