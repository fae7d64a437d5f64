-- A series of calls on the machine, with guest stores between.
use Rattle.std.specs.Prelude.{ℕ, cond, List, [], ◌∷◌, eqb, length}
use Rattle.settings.specs.declared.Settings.{Settings}
use Rattle.machine.specs.declared.Call.{Call}
use Rattle.machine.specs.declared.Machine.{Machine}
use Rattle.machine.specs.Calls.{Result, step, started}

-- what happens in a series: a call of the machine, or guest stores, which leave any bytes in memory;
-- "The host's uncached walk is no call of a series [..]; the bits it sets are guest stores there."
pub data Event : Type 0 where
  call : Call → Event
  stores : List ℕ → Event

-- where a series stands: the machine and memory
pub record Stand : Type 0 where
  pub machine : Machine
  pub memory : List ℕ

-- memory after guest stores: any other of the same length, for "a series keeps one memory length"
abbrev pub replaced : List ℕ → List ℕ → List ℕ
replaced memory other = cond (eqb (length other) (length memory)) other memory

-- what a call gives where a series stands: answer, machine and memory
abbrev pub gives : Stand → Call → Result
gives now c = step now.machine now.memory c

-- where an event leads; "settings change only by the loads"
abbrev pub leads : Stand → Event → Stand
leads now (call c) = record { machine = (gives now c).machine; memory = (gives now c).memory }
leads now (stores other) = record { machine = now.machine; memory = replaced now.memory other }

-- where a series leads
unfoldable pub run : Stand → List Event → Stand
run now [] = now
run now (e ∷ es) = run (leads now e) es

-- "from an empty cache": any start, accepted or refused
abbrev pub start : Settings → List ℕ → Stand
start s memory = record { machine = (started s).machine; memory = memory }
