-- The sets before an index are those that the drop leaves, and those from there on are as they were.
use Rattle.std.proofs.Common.{◌≡◌, ℕ, ◌<◌, ◌≤◌, length, get_or, []}
use Rattle.cache.specs.Sets.{drop_set}
use Rattle.cache.specs.Whole.{set_at}
use Rattle.cache.proofs.Cache.drop.Given as goal

abbrev pub invariant-loop-i : goal.invariant-loop-i
invariant-loop-i l =
    (length l.set-items ≡ 16)
    × ((k : ℕ) → k < l.i → get_or l.set-items k (record { places = [] }) ≡ drop_set k l.drop (set_at k l.fn.self))
    × ((k : ℕ) → l.i ≤ k → get_or l.set-items k (record { places = [] }) ≡ set_at k l.fn.self)
