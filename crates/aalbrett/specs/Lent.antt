-- The host's calls on a machine that it lends: a start, one card's step in place, and INVPCID.
use Rattle.std.specs.Prelude.{ℕ, ◌≡◌, cond, List}
use Rattle.settings.specs.declared.Settings.{Settings}
use Rattle.walk.specs.Answers.{Answer}
use Rattle.walk.specs.Translate.{numbers}
use Rattle.machine.specs.declared.Machine.{Machine}
use Rattle.machine.specs.declared.Stepped.{Stepped}
use Rattle.machine.specs.Calls.{started}
use Rattle.card.specs.Card.{Turned, stepped}
use Rattle.aalbrett.specs.Host.{short, written}

-- a start's number: 0, or that of what is wrong with the settings
abbrev pub start_number : Settings → ℕ
start_number s = (numbers (started s).answer).answer

-- the number and the machine are those of a start
abbrev pub Starts : Settings → ℕ → Machine → Type 0
Starts s n m = (n ≡ start_number s) × (m ≡ (started s).machine)

-- what the host hands over for one card, in the order of its call
module _ (m : Machine) (memory card buffer : List ℕ) where
  -- one card's step
  abbrev pub next : Turned
  next = stepped m memory card

  -- the result: 7 for a short buffer, "tested first"
  abbrev pub step_number : ℕ
  step_number = cond (short buffer) 7 next.numbers.answer

  -- the machine after the call: the cache is unchanged by 7
  abbrev pub machine_after : Machine
  machine_after = cond (short buffer) m next.machine

  -- guest memory after the call; for a short buffer as it was
  abbrev pub memory_after : List ℕ
  memory_after = cond (short buffer) memory next.memory

  -- the answer buffer after the call; for a short buffer as it was
  abbrev pub buffer_after : List ℕ
  buffer_after = cond (short buffer) buffer (written next.numbers buffer)

  -- the result, and machine, memory and buffer afterwards, are those of the call
  abbrev pub Steps : ℕ → Machine → List ℕ → List ℕ → Type 0
  Steps r m' memory' buffer' = (r ≡ step_number) × (m' ≡ machine_after) × (memory' ≡ memory_after) × (buffer' ≡ buffer_after)

-- a call that reads no memory: the machine before it, what it gives by the rules, and the answer buffer
module _ (m : Machine) (given : Stepped Answer) (buffer : List ℕ) where
  -- the result: 7 for a short buffer, "tested first"
  abbrev pub call_number : ℕ
  call_number = cond (short buffer) 7 (numbers given.answer).answer

  -- the machine after the call; for a short buffer as it was
  abbrev pub machine_called : Machine
  machine_called = cond (short buffer) m given.machine

  -- the answer buffer after the call; for a short buffer as it was
  abbrev pub buffer_called : List ℕ
  buffer_called = cond (short buffer) buffer (written (numbers given.answer) buffer)

  -- the result, and machine and buffer afterwards, are those of the call
  abbrev pub Calls : ℕ → Machine → List ℕ → Type 0
  Calls r m' buffer' = (r ≡ call_number) × (m' ≡ machine_called) × (buffer' ≡ buffer_called)
