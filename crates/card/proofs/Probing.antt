-- A call that the set of its page answers gives the answer's numbers, and changes nothing.
use Rattle.std.proofs.Common.{◌≡◌, ℕ, List, Ok, Some}
use Rattle.address.specs.declared.VirtAddr.{VirtAddr}
use Rattle.walk.specs.declared.Numbers.{Numbers}
use Rattle.walk.specs.Translate.{numbers}
use Rattle.machine.specs.declared.Call.{Call}
use Rattle.machine.specs.declared.Machine.{Machine}
use Rattle.machine.specs.declared.Probed.{Probed}
use Rattle.machine.specs.declared.Probed.TheVariants.{Answered, Walk}
use Rattle.machine.specs.Calls.{step, translated, probed_result}
use Rattle.card.specs.Card.{Turned, turned}
use Rattle.card.specs.Probe.{seen_by, seen}

module _ (m : Machine) (memory : List ℕ) (n : Numbers) where
  -- the numbers, with nothing changed
  abbrev unchanged : Turned
  unchanged = record { numbers = n; machine = m; memory = memory }

  probed_answers : (at : VirtAddr) (q : Probed) → seen_by q ≡ Some n
      → record { numbers = numbers (probed_result m memory at q).answer; machine = (probed_result m memory at q).machine; memory = (probed_result m memory at q).memory } ≡ unchanged
  probed_answers at (Answered r) h = cc
  probed_answers at (Walk a) h = cc

  pub seen_turned : (call : Call) → seen m call ≡ Some n → turned m memory (Ok call) ≡ unchanged
  unfolding step translated
  seen_turned (Call.Translate at a o) h = probed_answers at _ h
  seen_turned (Call.Store at v) h = cc
  seen_turned (Call.LoadRoot v) h = cc
  seen_turned (Call.LoadSettings a b e w) h = cc
  seen_turned (Call.DropPage at) h = cc
  seen_turned Call.DropAll h = cc
  seen_turned (Call.Invpcid k v at) h = cc
