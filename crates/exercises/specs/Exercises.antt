-- "Exercises with known results": the starred lines, as one list.
use Rattle.std.specs.Prelude.{ℕ, zero, suc, ◌+◌, ◌-◌, ◌/◌, ◌%◌, ◌≡◌, List, [], ◌∷◌, ◌++◌, map, replicate}
use Rattle.word.specs.Bytes.{load}
use Rattle.settings.specs.declared.Settings.{Settings}
use Rattle.walk.specs.declared.Numbers.{Numbers}
use Rattle.walk.specs.Translate.{translated, translated_memory, numbers, refusal}

-- an entry of the exercises' memory: its address and its value
pub record Stored : Type 0 where
  pub address : ℕ
  pub value : ℕ

abbrev pub ◌holds◌ : ℕ → ℕ → Stored
address holds value = record { address = address; value = value }

infix 50 ◌holds◌
-- the bytes of a number, the lowest first
unfoldable pub bytes : ℕ → ℕ → List ℕ
bytes zero number = []
bytes (suc width) number = number % 256 ∷ bytes width (number / 256)

-- zeros from one address up to a length, with entries between, given by rising address
unfoldable pub laid : ℕ → ℕ → List Stored → List ℕ
laid length from [] = replicate (length - from) 0
laid length from (e ∷ es) = replicate (e.address - from) 0 ++ (bytes 8 e.value ++ laid length (e.address + 8) es)

-- "32,768 bytes. The entries: ..."
unfoldable pub memory : List ℕ
memory =
    laid 32768 0
    ((0x1000 holds 0x2007)
    ∷ (0x1008 holds 0x2005)
    ∷ (0x2000 holds 0x3007)
    ∷ (0x2008 holds 0x80000087)
    ∷ (0x2018 holds 0x9007)
    ∷ (0x3010 holds 0x4007)
    ∷ (0x3018 holds 0x800087)
    ∷ (0x3020 holds 0x802087)
    ∷ (0x3028 holds 0x801087)
    ∷ (0x4018 holds 0x5007)
    ∷ (0x4030 holds 0x6005)
    ∷ (0x4038 holds 0x8000000000007007)
    ∷ (0x4040 holds 0x10000008007)
    ∷ [])

-- "All use M = 40, CR0 0x80010001, CR4 0x20, EFER 0x900, root 0x1000"
abbrev pub usual : Settings
usual = record { cr0 = 0x80010001; cr3 = 0x1000; cr4 = 0x20; efer = 0x900; width = 40 }

-- the same with WP = 0, with NXE = 0, with M = 41
abbrev pub without_wp : Settings
without_wp = record { cr0 = 0x80000001; cr3 = 0x1000; cr4 = 0x20; efer = 0x900; width = 40 }

abbrev pub without_nxe : Settings
without_nxe = record { cr0 = 0x80010001; cr3 = 0x1000; cr4 = 0x20; efer = 0x100; width = 40 }

abbrev pub with_m41 : Settings
with_m41 = record { cr0 = 0x80010001; cr3 = 0x1000; cr4 = 0x20; efer = 0x900; width = 41 }

-- "Access is 0 read, 1 write, 2 fetch; mode is 0 supervisor, 1 user."
abbrev pub read : ℕ
read = 0

abbrev pub write : ℕ
write = 1

abbrev pub fetch : ℕ
fetch = 2

abbrev pub supervisor : ℕ
supervisor = 0

abbrev pub user : ℕ
user = 1

-- what comes out: the five numbers, and entries afterwards
pub record Outcome : Type 0 where
  pub numbers : Numbers
  pub afterwards : List Stored

-- an exercise: settings, a question, and what comes out
pub record Exercise : Type 0 where
  pub settings : Settings
  pub mode : ℕ
  pub access : ℕ
  pub address : ℕ
  pub gives : Outcome

abbrev pub ask : Settings → ℕ → ℕ → ℕ → Outcome → Exercise
ask settings mode access address gives =
    record { settings = settings; mode = mode; access = access; address = address; gives = gives }

-- the outcomes of document 01: an address with size, entries read and, by #104, its memory type, a fault or an entry outside with level and entries read, a form
abbrev pub typed : ℕ → ℕ → ℕ → ℕ → List Stored → Outcome
typed memory_type at size reads after =
    record { numbers = record { answer = 0; value = at; detail = size; reads = reads; memory_type = memory_type }; afterwards = after }

-- memory type 0, where PWT, PCD and PAT are clear
abbrev pub done : ℕ → ℕ → ℕ → List Stored → Outcome
done at size reads after = typed 0 at size reads after

abbrev pub fault : ℕ → ℕ → ℕ → Outcome
fault code level reads = record { numbers = record { answer = 5; value = code; detail = level; reads = reads; memory_type = 0 }; afterwards = [] }

abbrev pub outside : ℕ → ℕ → ℕ → Outcome
outside at level reads = record { numbers = record { answer = 4; value = at; detail = level; reads = reads; memory_type = 0 }; afterwards = [] }

abbrev pub form : Outcome
form = record { numbers = refusal 3; afterwards = [] }

-- memory after an exercise, by the rules
abbrev pub left : List ℕ → Exercise → List ℕ
left memory e = translated_memory e.settings (record { 0 = e.address }) e.access e.mode memory

-- what an exercise gives by the rules, with the entries afterwards that it names
unfoldable pub found : List ℕ → Exercise → Outcome
found memory e = record {
  numbers = numbers (translated e.settings (record { 0 = e.address }) e.access e.mode memory);
  afterwards = map (λ (s : Stored). s.address holds load 8 (left memory e) s.address) e.gives.afterwards;
}

-- the starred lines, in document 01's order; where a line leaves mode or access open, each is asked
unfoldable pub exercises : List Exercise
exercises =
    -- "user read 0x403ABC: 0x5ABC, size 1, 4 reads; 0x4018 becomes 0x5027"
    ask usual user read 0x403ABC (done 0x5ABC 1 4 ((0x4018 holds 0x5027) ∷ []))
    -- "user read 0x612345: 0x812345, size 2, 3 reads"
    ∷ ask usual user read 0x612345 (done 0x812345 2 3 [])
    -- "user read 0x52345678: 0x92345678, size 3, 2 reads"
    ∷ ask usual user read 0x52345678 (done 0x92345678 3 2 [])
    -- "user read 0x800000: fault 13, level 2; user read 0xA00010: 0x800010"
    ∷ ask usual user read 0x800000 (fault 13 2 3)
    ∷ ask usual user read 0xA00010 (typed 4 0x800010 2 3 [])
    -- "user write 0x406000: fault 7, level 1; supervisor: 3; supervisor, WP = 0: 0x6000, entry 0x6065"
    ∷ ask usual user write 0x406000 (fault 7 1 4)
    ∷ ask usual supervisor write 0x406000 (fault 3 1 4)
    ∷ ask without_wp supervisor write 0x406000 (done 0x6000 1 4 ((0x4030 holds 0x6065) ∷ []))
    -- "user write 0x8080000000: fault 6, level 3"
    ∷ ask usual user write 0x8080000000 (fault 6 3 2)
    -- "user fetch 0x407000: fault 21, level 1; user read with NXE = 0: 13"
    ∷ ask usual user fetch 0x407000 (fault 21 1 4)
    ∷ ask without_nxe user read 0x407000 (fault 13 1 4)
    -- "supervisor read 0x408000: fault 9; with M = 41: 0x10000008000"
    ∷ ask usual supervisor read 0x408000 (fault 9 1 4)
    ∷ ask with_m41 supervisor read 0x408000 (done 0x10000008000 1 4 [])
    -- "read 0xC0000000: answer 4, value 0x9000, level 2, 2 reads"
    ∷ ask usual supervisor read 0xC0000000 (outside 0x9000 2 2)
    ∷ ask usual user read 0xC0000000 (outside 0x9000 2 2)
    -- "0x0000800000000000: answer 3; supervisor read 0xFFFF800000000000: fault 0, level 4"
    ∷ ask usual supervisor read 0x0000800000000000 form
    ∷ ask usual supervisor write 0x0000800000000000 form
    ∷ ask usual supervisor fetch 0x0000800000000000 form
    ∷ ask usual user read 0x0000800000000000 form
    ∷ ask usual user write 0x0000800000000000 form
    ∷ ask usual user fetch 0x0000800000000000 form
    ∷ ask usual supervisor read 0xFFFF800000000000 (fault 0 4 1)
    ∷ []

-- each exercise comes out by the rules as document 01 says; "Each line starts afresh.": all are asked of the same memory
abbrev pub Right : Type 0
Right = map (found memory) exercises ≡ map (λ (e : Exercise). e.gives) exercises
