-- The host's call: "The host calls the uncached walk with numbers, guest memory and an answer buffer."
use Rattle.std.specs.Prelude.{ℕ, ◌≡◌, Bool, cond, List, ltb, length}
use Rattle.word.specs.Bytes.{store}
use Rattle.settings.specs.declared.Settings.{Settings}
use Rattle.walk.specs.declared.Numbers.{Numbers}
use Rattle.walk.specs.Translate.{translated, translated_memory, numbers}

-- "7 now means below 40 bytes"
abbrev pub short : List ℕ → Bool
short buffer = ltb (length buffer) 40

-- "the first [40] bytes become answer, value, detail and entries read", and the memory type, "the fifth number of the host's answer", as little-endian 64-bit numbers; "later bytes stay"
unfoldable pub written : Numbers → List ℕ → List ℕ
written n buffer =
    store 8 (store 8 (store 8 (store 8 (store 8 buffer 0 n.answer) 8 n.value) 16 n.detail) 24 n.reads) 32 n.memory_type

-- the host's numbers as a settings record
abbrev pub registers : ℕ → ℕ → ℕ → ℕ → ℕ → Settings
registers cr0 cr3 cr4 efer width = record { cr0 = cr0; cr3 = cr3; cr4 = cr4; efer = efer; width = width }

-- what the host hands over, in the order of its call
module _ (cr0 cr3 cr4 efer width address access mode : ℕ) (memory buffer : List ℕ) where
  -- the five numbers of one uncached translation
  abbrev pub answer_numbers : Numbers
  answer_numbers = numbers (translated (registers cr0 cr3 cr4 efer width) (record { 0 = address }) access mode memory)

  -- the result: "Below [40] bytes the call gives 7 [..]; this is tested first. Otherwise it returns the answer"
  abbrev pub result : ℕ
  result = cond (short buffer) 7 answer_numbers.answer

  -- guest memory after the call; for a short buffer "writes nothing"
  abbrev pub memory_after : List ℕ
  memory_after = cond (short buffer) memory (translated_memory (registers cr0 cr3 cr4 efer width) (record { 0 = address }) access mode memory)

  -- the answer buffer after the call; for a short buffer "writes nothing", else written "on refusals also"
  abbrev pub buffer_after : List ℕ
  buffer_after = cond (short buffer) buffer (written answer_numbers buffer)

  -- the result, and memory and buffer afterwards, are those of the call
  abbrev pub Walks : ℕ → List ℕ → List ℕ → Type 0
  Walks r memory' buffer' = (r ≡ result) × (memory' ≡ memory_after) × (buffer' ≡ buffer_after)
