-- What a card that is a call gives, from the parts of the call's own result.
use Prim.Native.Nat.{ℕ}
use mathlib.Core.Path.{◌≡◌, ap, ◌∙◌}
use mathlib.Core.List.{List}
use Rattle.std.specs.Prelude.{Ok}
use Rattle.walk.specs.declared.Numbers.{Numbers}
use Rattle.walk.specs.Answers.{Answer}
use Rattle.walk.specs.Translate.{numbers}
use Rattle.machine.specs.declared.Call.{Call}
use Rattle.machine.specs.declared.Machine.{Machine}
use Rattle.machine.specs.declared.Stepped.{Stepped}
use Rattle.machine.specs.Calls.{step}
use Rattle.machine.specs.Calls as calls
use Rattle.card.specs.Card.{Gives, decoded, stepped}

-- a card that is a call gives the numbers of what the call answers, and the machine and memory after it
pub called : (m : Machine) (memory card : List ℕ) (call : Call) → decoded card ≡ Ok call
    → (r : Stepped Answer) (memory' : List ℕ) → calls.Gives (step m memory call) r memory'
    → (n : Numbers) → n ≡ numbers r.answer → (m' : Machine) → m' ≡ r.machine → Gives m memory card n m' memory'
unfolding stepped
called m memory card call is r memory' given n the-numbers m' the-machine =
    rw is (the-numbers ∙ ap numbers given.0, the-machine ∙ given.1, given.2)
