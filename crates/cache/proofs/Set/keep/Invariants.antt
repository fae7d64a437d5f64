-- The places that the filter has given so far stand in front, in their order.
use Rattle.std.proofs.Common.{◌≡◌, length, List}
use Rattle.std.specs.Iterator.{Yields}
use Rattle.std.specs.Iterator.Adapters.{filter_steps, copied_steps}
use Rattle.std.specs.Slice.Iter.{iter_steps}
use Rattle.cache.specs.declared.Place.{Place}
use Rattle.cache.specs.Sets.{four}
use Rattle.cache.proofs.Set.keep.Given as goal

abbrev pub invariant-loop-slot : goal.invariant-loop-slot
invariant-loop-slot g l =
    (given : List Place) × (length given ≡ l.slot-index) × (l.slot-items ≡ four given)
    × Yields (filter_steps (copied_steps iter_steps) g.F.FnMut) l.initial.passing given l.passing
