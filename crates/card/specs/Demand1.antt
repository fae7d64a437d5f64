-- Demand 1 for cards: a card that is no call (of an unknown kind, short) is refused with nothing changed, every other as its call is.
use Rattle.std.specs.Prelude.{ℕ, ◌≡◌, Bool, true, false, not, Result, Ok, Err, List, ◌∷◌, eqb}
use Rattle.cache.specs.declared.Place.{Place}
use Rattle.cache.specs.Whole.{held}
use Rattle.machine.specs.declared.Call.{Call}
use Rattle.machine.specs.declared.Machine.{Machine}
use Rattle.machine.specs.Calls.{step}
use Rattle.machine.specs.Demand1.{among, refusals, drops_asked, leaves}
use Rattle.card.specs.declared.decode.Unread.{Unread}
use Rattle.card.specs.Card.{decoded, stepped}

-- a card whose refusal "drops the page asked for"
abbrev pub drops_by_card : Machine → List ℕ → Result Call Unread → Bool
drops_by_card m memory (Ok call) = drops_asked call (step m memory call).answer
drops_by_card m memory (Err unread) = false

-- what a refused card leaves of a set's places
abbrev pub leaves_by_card : Machine → List ℕ → Result Call Unread → List Place → List Place
leaves_by_card m memory (Ok call) places = leaves m.settings call (step m memory call).answer places
leaves_by_card m memory (Err unread) places = places

-- a refused card: its number; every guest byte and the settings as before; the filled places of every set, and the whole machine where no page is dropped
pub record Refuses (m : Machine) (memory card : List ℕ) : Type 0 where
  pub number : among (stepped m memory card).numbers.answer (6 ∷ refusals) ≡ true
  pub bytes : (stepped m memory card).memory ≡ memory
  pub registers : (stepped m memory card).machine.settings ≡ m.settings
  pub places : (i : ℕ) → held i (stepped m memory card).machine.cache ≡ leaves_by_card m memory (decoded card) (held i m.cache)
  pub otherwise : drops_by_card m memory (decoded card) ≡ false → (stepped m memory card).machine ≡ m

-- the demand, for every machine, every memory and any bytes as a card
abbrev pub Demand1 : Type 0
Demand1 = (m : Machine) (memory card : List ℕ) → not (eqb (stepped m memory card).numbers.answer 0) ≡ true → Refuses m memory card
