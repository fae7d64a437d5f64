-- Demand 1: "Any numbers, any memory and any remembered state get an answer. A refusal names its number and changes no guest byte. It leaves the remembered state alone too, except that a page fault or a table outside memory drops the page asked for."
use Rattle.std.specs.Prelude.{ℕ, ◌≡◌, Bool, true, false, not, ◌||◌, cond, List, [], ◌∷◌, eqb}
use Rattle.settings.specs.declared.Settings.{Settings}
use Rattle.walk.specs.Answers.{Answer}
use Rattle.walk.specs.Translate.{numbers}
use Rattle.cache.specs.declared.Place.{Place}
use Rattle.cache.specs.Places.{left}
use Rattle.cache.specs.Sets.{keep}
use Rattle.cache.specs.Whole.{held}
use Rattle.machine.specs.declared.Call.{Call}
use Rattle.machine.specs.declared.Machine.{Machine}
use Rattle.machine.specs.Remember.{page_drop}
use Rattle.machine.specs.Calls.{step}

-- a number is in a list
abbrev pub among : ℕ → List ℕ → Bool
among n [] = false
among n (k ∷ ks) = eqb n k || among n ks

-- the numbers with which a call of the machine is refused
abbrev pub refusals : List ℕ
refusals = 1 ∷ 2 ∷ 3 ∷ 4 ∷ 5 ∷ 8 ∷ 9 ∷ 10 ∷ 11 ∷ 12 ∷ []

-- a refusal: any answer but 0
abbrev pub refused : Answer → Bool
refused r = not (eqb (numbers r).answer 0)

-- "a page fault or a table outside memory", read off the answer
abbrev pub faulted : Answer → Bool
faulted r = eqb (numbers r).answer 4 || eqb (numbers r).answer 5

-- a refused call that "drops the page asked for": a translation's 4 or 5
abbrev pub drops_asked : Call → Answer → Bool
drops_asked (Call.Translate address access mode) r = faulted r
drops_asked (Call.Store at value) r = false
drops_asked (Call.LoadRoot value) r = false
drops_asked (Call.LoadSettings cr0 cr4 efer width) r = false
drops_asked (Call.DropPage address) r = false
drops_asked Call.DropAll r = false
drops_asked (Call.Invpcid kind number address) r = false

-- what a refused call leaves of a set's places: each piece of "the present number's and G places" that covers the address is dropped, "no other place may go"; or all stay
abbrev pub leaves : Settings → Call → Answer → List Place → List Place
leaves s (Call.Translate address access mode) r places = cond (faulted r) (keep (left (page_drop s address)) places) places
leaves s (Call.Store at value) r places = places
leaves s (Call.LoadRoot value) r places = places
leaves s (Call.LoadSettings cr0 cr4 efer width) r places = places
leaves s (Call.DropPage address) r places = places
leaves s Call.DropAll r places = places
leaves s (Call.Invpcid kind number address) r places = places

-- a refused call: its number; every guest byte and the settings as before; the filled places of every set, and the whole machine where no page is dropped
pub record Refuses (m : Machine) (memory : List ℕ) (call : Call) : Type 0 where
  pub number : among (numbers (step m memory call).answer).answer refusals ≡ true
  pub bytes : (step m memory call).memory ≡ memory
  pub registers : (step m memory call).machine.settings ≡ m.settings
  pub places : (i : ℕ) → held i (step m memory call).machine.cache ≡ leaves m.settings call (step m memory call).answer (held i m.cache)
  pub otherwise : drops_asked call (step m memory call).answer ≡ false → (step m memory call).machine ≡ m

-- the demand, for every machine, every memory and every call; that each has an answer is that step is a function
abbrev pub Demand1 : Type 0
Demand1 = (m : Machine) (memory : List ℕ) (call : Call) → refused (step m memory call).answer ≡ true → Refuses m memory call
