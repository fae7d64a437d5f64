-- Demand 1 for the host's calls: a short buffer changes nothing at all, every refusal keeps every guest byte; a refused start.
use Rattle.std.specs.Prelude.{ℕ, ◌≡◌, true, not, List, eqb}
use Rattle.settings.specs.declared.Settings.{Settings}
use Rattle.machine.specs.declared.Machine.{Machine}
use Rattle.machine.specs.Calls.{initial_machine, started, invalidated}
use Rattle.aalbrett.specs.Host.{short, result, memory_after, buffer_after}
use Rattle.aalbrett.specs.Lent.{start_number, step_number, machine_after, call_number, machine_called, buffer_called}
use Rattle.aalbrett.specs.Lent as lent

-- the uncached walk: any refusal keeps every guest byte
abbrev pub WalkRefused : Type 0
WalkRefused =
    (cr0 cr3 cr4 efer width address access mode : ℕ) (memory buffer : List ℕ)
    → not (eqb (result cr0 cr3 cr4 efer width address access mode memory buffer) 0) ≡ true
    → memory_after cr0 cr3 cr4 efer width address access mode memory buffer ≡ memory

-- "Below [40] bytes the call gives 7 and writes nothing"
abbrev pub WalkShort : Type 0
WalkShort =
    (cr0 cr3 cr4 efer width address access mode : ℕ) (memory buffer : List ℕ) → short buffer ≡ true
    → (result cr0 cr3 cr4 efer width address access mode memory buffer ≡ 7)
    × (memory_after cr0 cr3 cr4 efer width address access mode memory buffer ≡ memory)
    × (buffer_after cr0 cr3 cr4 efer width address access mode memory buffer ≡ buffer)

-- a step in place: with a short buffer 7, and machine, memory and buffer as before; else it is the card's step, refused as the card is
pub record StepRefused (m : Machine) (memory card buffer : List ℕ) : Type 0 where
  pub when_short : short buffer ≡ true
      → (step_number m memory card buffer ≡ 7)
      × (machine_after m memory card buffer ≡ m)
      × (lent.memory_after m memory card buffer ≡ memory)
      × (lent.buffer_after m memory card buffer ≡ buffer)
  pub bytes : not (eqb (step_number m memory card buffer) 0) ≡ true → lent.memory_after m memory card buffer ≡ memory

-- "A refused start gives" its number "and an empty cache with all registers 0 and M = 40."
abbrev pub StartRefused : Type 0
StartRefused =
    (s : Settings) → not (eqb (start_number s) 0) ≡ true → (started s).machine ≡ initial_machine

-- INVPCID: any refusal leaves the machine, and a short buffer is left too
pub record InvpcidRefused (m : Machine) (kind number address : ℕ) (buffer : List ℕ) : Type 0 where
  pub when_short : short buffer ≡ true
      → (call_number m (invalidated m kind number (record { 0 = address })) buffer ≡ 7)
      × (buffer_called m (invalidated m kind number (record { 0 = address })) buffer ≡ buffer)
  pub unmoved : not (eqb (call_number m (invalidated m kind number (record { 0 = address })) buffer) 0) ≡ true
      → machine_called m (invalidated m kind number (record { 0 = address })) buffer ≡ m

-- the demand for the host's calls
pub record Demand1 : Type 0 where
  pub walk : WalkRefused
  pub walk_short : WalkShort
  pub step : (m : Machine) (memory card buffer : List ℕ) → StepRefused m memory card buffer
  pub start : StartRefused
  pub invpcid : (m : Machine) (kind number address : ℕ) (buffer : List ℕ) → InvpcidRefused m kind number address buffer
