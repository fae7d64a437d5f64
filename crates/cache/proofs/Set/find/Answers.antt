-- `Set::find` meets its contract.
use Rattle.std.proofs.Common.{◌&&◌, ◌∙◌, rules, tests, arith}
use Rattle.std.proofs.lemmas.Iterator.{YieldsList-from_slice}
use Rattle.std.proofs.lemmas.Iterator.Search.{find_from_yields_List}
use Rattle.cache.specs.Places.{filled_in, serves}
use Rattle.cache.proofs.Steps.{find_first}
use Rattle.cache.proofs.Set.find.Goals as goal

pub returns : goal.returns
returns c =
    let a = c.args in
    let first = find_from_yields_List (λ p. serves a.wanted p && filled_in a.set p) _ _ c.find.result c.find.ensures.ran (YieldsList-from_slice a.self.places cc) (λ x b q k. search (rules, tests)) in
    c.copied.ensures ∙ first ∙ find_first a.set a.wanted a.self (omega arith)
