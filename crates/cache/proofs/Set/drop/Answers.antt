-- `Set::drop` meets its contract.
use Rattle.std.proofs.Common.{ap, ◌∙◌, arith, rules, tests}
use Rattle.cache.specs.Places.{filled_in, left}
use Rattle.cache.specs.Sets.{set_of, drop_set}
use Rattle.cache.proofs.Lists.{both}
use Rattle.cache.proofs.Steps.{kept_of_filled}
use Rattle.cache.proofs.Set.drop.Goals as goal

pub returns : goal.returns
unfolding drop_set
returns c =
    let a = c.args in
    c.keep.ensures (both (filled_in a.set) (left a.drop)) (λ p b f called. search (rules, tests))
    ∙ ap set_of (kept_of_filled a.set (left a.drop) a.self (omega arith))
