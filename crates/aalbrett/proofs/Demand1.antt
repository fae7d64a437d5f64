-- Demand 1 holds of the host's calls.
use Rattle.std.proofs.Common.{◌≡◌, ℕ, Bool, true, false, not, cond, List, [], eqb, refl}
use Rattle.settings.specs.declared.Settings.{Settings}
use Rattle.settings.specs.Settings.{Service, initial, judged_from}
use Rattle.address.specs.declared.VirtAddr.{VirtAddr}
use Rattle.walk.specs.declared.Way.{Way}
use Rattle.walk.specs.declared.Asked.{Asked}
use Rattle.walk.specs.Answers.{Walked}
use Rattle.walk.specs.Access.{writes}
use Rattle.walk.specs.Path.{Path}
use Rattle.walk.specs.Translate.{asked, answered, fresh, fresh_memory, translated, translated_memory, numbers}
use Rattle.walk.specs.Walk.{after, walk_path, walk_answer}
use Rattle.walk.proofs.Laws.{after_err}
use Rattle.cache.specs.Whole.{empty_cache}
use Rattle.machine.specs.declared.Machine.{Machine}
use Rattle.machine.specs.declared.Call.TheVariants as Call
use Rattle.machine.specs.Calls.{load_answer, if_served, initial_machine, invalidated, step}
use Rattle.machine.proofs.Demand1 as machine
use Rattle.card.proofs.Demand1 as cards
use Rattle.aalbrett.specs.Host.{short, registers}
use Rattle.aalbrett.specs.Demand1.{Demand1, WalkRefused, WalkShort, StepRefused, StartRefused, InvpcidRefused}
use Rattle.walk.specs.declared.Refusal.{Refusal}
use Rattle.std.specs.Prelude.{Result, Ok, Err}

-- an uncached translation that is refused leaves memory as it was
walked_bytes : (s : Settings) (address : VirtAddr) (a : Way) (write : Bool) (p : Path) (memory : List ℕ) (w : Walked)
    → not (eqb (numbers (answered s address a w)).answer 0) ≡ true → after write p memory w ≡ memory
unfolding after
walked_bytes s address a write p memory (Ok found) h = cc
walked_bytes s address a write p memory (Err why) h = after_err write p memory why

asked_bytes : (s : Settings) (address : VirtAddr) (memory : List ℕ) (q : Result Asked Refusal) → not (eqb (numbers (fresh s address memory q)).answer 0) ≡ true
    → fresh_memory s address memory q ≡ memory
asked_bytes s address memory (Err why) h = refl
asked_bytes s address memory (Ok (Asked.Off at)) h = refl
asked_bytes s address memory (Ok (Asked.On a)) h = walked_bytes s address a (writes a) (walk_path s address memory) memory (walk_answer s address a memory) h

translated_bytes : (s : Settings) (address : VirtAddr) (access mode : ℕ) (memory : List ℕ)
    → not (eqb (numbers (translated s address access mode memory)).answer 0) ≡ true → translated_memory s address access mode memory ≡ memory
unfolding translated translated_memory
translated_bytes s address access mode memory h = asked_bytes s address memory (asked s address access mode) h

-- with a short buffer a call leaves all as it was; else it leaves what a refused one leaves
short_or_refused : {A : Type 0} (b : Bool) (answer : ℕ) (before after : A) → (not (eqb answer 0) ≡ true → after ≡ before)
    → not (eqb (cond b 7 answer) 0) ≡ true → cond b before after ≡ before
short_or_refused true answer before after leaves h = refl
short_or_refused false answer before after leaves h = leaves h

walk_refused : WalkRefused
walk_refused cr0 cr3 cr4 efer width address access mode memory buffer =
    short_or_refused (short buffer) _ memory _ (translated_bytes (registers cr0 cr3 cr4 efer width) (record { 0 = address }) access mode memory)

walk_short : WalkShort
walk_short cr0 cr3 cr4 efer width address access mode memory buffer h = (rw h, rw h, rw h)

step_refused : (m : Machine) (memory card buffer : List ℕ) → StepRefused m memory card buffer
step_refused m memory card buffer =
    record { when_short = λ h. (rw h, rw h, rw h, rw h); bytes = short_or_refused (short buffer) _ memory _ (λ h. (cards.demand1 m memory card h).bytes) }

start_refused : StartRefused
start_refused s = go (judged_from initial s)
  where
    go : (x : Service) → not (eqb (numbers (load_answer x)).answer 0) ≡ true
        → if_served x (record { settings = s; cache = empty_cache }) initial_machine ≡ initial_machine
    go (Ok tt) h = cc
    go (Err why) h = refl

-- INVPCID that is refused by the rules leaves the machine
invpcid_unmoved : (m : Machine) (kind number : ℕ) (address : VirtAddr) → not (eqb (numbers (invalidated m kind number address).answer).answer 0) ≡ true
    → (invalidated m kind number address).machine ≡ m
unfolding step
invpcid_unmoved m kind number address h = (machine.demand1 m [] (Call.Invpcid kind number address) h).otherwise refl

invpcid_refused : (m : Machine) (kind number address : ℕ) (buffer : List ℕ) → InvpcidRefused m kind number address buffer
invpcid_refused m kind number address buffer =
    record { when_short = λ h. (rw h, rw h); unmoved = short_or_refused (short buffer) _ m _ (invpcid_unmoved m kind number (record { 0 = address })) }

pub demand1 : Demand1
demand1 =
    record { walk = walk_refused; walk_short = walk_short; step = step_refused; start = start_refused; invpcid = invpcid_refused }
