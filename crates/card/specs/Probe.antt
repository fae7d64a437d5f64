-- A device of the proofs: what a call finds in the set of its page, before the machine is stepped.
use Rattle.std.specs.Prelude.{Option, None, Some}
use Rattle.address.specs.Address.{tag}
use Rattle.walk.specs.declared.Numbers.{Numbers}
use Rattle.walk.specs.Translate.{numbers}
use Rattle.cache.specs.Places.{set_index}
use Rattle.cache.specs.Whole.{set_at}
use Rattle.machine.specs.declared.Call.{Call}
use Rattle.machine.specs.declared.Machine.{Machine}
use Rattle.machine.specs.declared.Probed.{Probed}
use Rattle.machine.specs.declared.Probed.TheVariants.{Answered, Walk}
use Rattle.machine.specs.Probe.{probed}

-- a translation that the page's set answers changes nothing
abbrev pub seen_by : Probed → Option Numbers
seen_by (Answered r) = Some (numbers r)
seen_by (Walk a) = None

-- the numbers of a call that the set of its page answers; only a translation asks one
abbrev pub seen : Machine → Call → Option Numbers
seen m (Call.Translate address access mode) = seen_by (probed m.settings (set_at (set_index (tag address)) m.cache) address access mode)
seen m (Call.Store at value) = None
seen m (Call.LoadRoot value) = None
seen m (Call.LoadSettings cr0 cr4 efer width) = None
seen m (Call.DropPage address) = None
seen m Call.DropAll = None
seen m (Call.Invpcid kind number address) = None
