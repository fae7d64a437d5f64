-- The first exercise, for any series of calls: press once, move the driver's page, press again. What a batch was reflashed for.
use Rattle.std.specs.Prelude.{ℕ, ◌≡◌, true, List, [], ◌∷◌, ◌++◌}
use Rattle.settings.specs.declared.Settings.{Settings}
use Rattle.address.specs.declared.VirtAddr.{VirtAddr}
use Rattle.address.specs.Address.{canonical, tag}
use Rattle.walk.specs.Translate.{numbers}
use Rattle.machine.specs.declared.Call.TheVariants as Call
use Rattle.machine.specs.Series.{Event, call, stores, Stand, leads, run, start}
use Rattle.machine.specs.History.{succeeded}
use Rattle.machine.specs.Demand3.{ask, AsFresh, again}

-- "press once": the press is asked for, and the guest's stores "move the page"
abbrev pub pressed_and_moved : Stand → VirtAddr → ℕ → ℕ → List ℕ → Stand
pressed_and_moved now press access mode moved = leads (leads now (call (Call.Translate press access mode))) (stores moved)

-- after a drop of its page, whatever was stored before or after, the next press goes where the tables say: address, size or refusal, and memory, of a fresh walk
abbrev pub PressArrives : Type 0
PressArrives =
    (s : Settings) (memory : List ℕ) (before : List Event) (page : VirtAddr) (moved : List ℕ) (press : VirtAddr) (access mode : ℕ)
    → canonical page ≡ true → tag press ≡ tag page
    → AsFresh (run (start s memory) (before ++ (call (Call.DropPage page) ∷ stores moved ∷ []))) press access mode

-- a press remembered before the page was moved, with no drop between, still goes to the old page, with no entry read
abbrev pub PressLost : Type 0
PressLost =
    (s : Settings) (memory : List ℕ) (before : List Event) (moved : List ℕ) (press : VirtAddr) (access mode : ℕ)
    → succeeded (ask (run (start s memory) before) press access mode).answer ≡ true
    → numbers (ask (pressed_and_moved (run (start s memory) before) press access mode moved) press access mode).answer
    ≡ again (numbers (ask (run (start s memory) before) press access mode).answer) press
