-- `Set::fill` meets its contract.
use Rattle.std.proofs.Common.{sym, ◌∙◌, arith, rules, tests}
use Rattle.std.proofs.lemmas.Iterator.{YieldsList-from_slice}
use Rattle.std.proofs.lemmas.Iterator.Search.{all_from_yields_List}
use Rattle.cache.specs.Places.{filled_in, spares}
use Rattle.cache.specs.Sets.{fill_set}
use Rattle.cache.proofs.Lists.{both}
use Rattle.cache.proofs.Steps.{kept_of_filled, all_kept}
use Rattle.cache.proofs.Set.fill.Goals as goal

pub returns-then-all : goal.returns-then-all
unfolding fill_set
returns-then-all c =
    let a = c.args in
    let stays = both (filled_in a.set) (spares a.place) in
    let all = all_from_yields_List stays _ _ c.all.result c.all.ensures.ran (YieldsList-from_slice a.self.places cc) (λ p b f called. search (rules, tests)) in
    let whole = sym (all_kept stays a.self.places (sym all ∙ c.if-all.true)) ∙ kept_of_filled a.set (spares a.place) a.self (omega arith) in
    rw (← whole) (search rules)

pub returns : goal.returns
unfolding fill_set
returns c =
    let a = c.args in
    let kept = c.keep.ensures (both (filled_in a.set) (spares a.place)) (λ p b f called. search (rules, tests)) in
    let whole = kept_of_filled a.set (spares a.place) a.self (omega arith) in
    rw (← whole) (search (rules, kept))
