-- Demand 1 holds of every card.
use Rattle.std.proofs.Common.{◌≡◌, ℕ, true, false, not, Result, Ok, Err, List, ◌∷◌, eqb, refl, arith}
use Rattle.cache.specs.Whole.{held}
use Rattle.machine.specs.declared.Call.{Call}
use Rattle.machine.specs.declared.Machine.{Machine}
use Rattle.machine.specs.Demand1.{among, refusals}
use Rattle.machine.proofs.Demand1 as machine
use Rattle.card.specs.declared.decode.Unread.{Unread}
use Rattle.card.specs.Card.{Turned, number, decoded, turned, stepped}
use Rattle.card.specs.Demand1.{Demand1, drops_by_card, leaves_by_card}

-- a card that is no call has the number 1 or 6
named : (why : Unread) → among (number why) (6 ∷ refusals) ≡ true
named Unread.Kind = refl
named Unread.Short = refl

-- what a refusal leaves, of what a card says
record Leaves (m : Machine) (memory : List ℕ) (d : Result Call Unread) (t : Turned) : Type 0 where
  number : among t.numbers.answer (6 ∷ refusals) ≡ true
  bytes : t.memory ≡ memory
  registers : t.machine.settings ≡ m.settings
  places : (i : ℕ) → held i t.machine.cache ≡ leaves_by_card m memory d (held i m.cache)
  otherwise : drops_by_card m memory d ≡ false → t.machine ≡ m

-- one more number in the list
among_more : (n k : ℕ) (ks : List ℕ) → among n ks ≡ true → among n (k ∷ ks) ≡ true
among_more n k ks h = grind arith

turned_leaves : (m : Machine) (memory : List ℕ) (d : Result Call Unread) → not (eqb (turned m memory d).numbers.answer 0) ≡ true
    → Leaves m memory d (turned m memory d)
turned_leaves m memory (Ok call) h =
    let k = machine.demand1 m memory call h in
    record { number = among_more (turned m memory (Ok call)).numbers.answer 6 refusals k.number; bytes = k.bytes; registers = k.registers; places = k.places; otherwise = k.otherwise }
turned_leaves m memory (Err why) h =
    record { number = named why; bytes = refl; registers = refl; places = λ i. refl; otherwise = λ no_drop. refl }

pub demand1 : Demand1
unfolding stepped
demand1 m memory card h =
    let k = turned_leaves m memory (decoded card) h in
    record { number = k.number; bytes = k.bytes; registers = k.registers; places = k.places; otherwise = k.otherwise }
