-- `Question::walk` meets its contract.
use mathlib.Core.Path.{ap, ◌∙◌}
use Rattle.entry.specs.Masks.{forbidden}
use Rattle.walk.proofs.Top.{whole_walk}
use Rattle.walk.proofs.Question.walk.Goals as goal

pub returns : goal.returns
returns c =
    let q = c.args.self in
    whole_walk q.settings q.address q.way c.args.memory.now c.forbidden.result (c.forbidden.ensures ∙ ap (forbidden q.settings.width) c.nxe.ensures)
    c.needed.result c.needed.ensures c.writes.result c.writes.ensures c.root.result c.root.ensures c.descend.result c.descend.new.memory c.descend.ensures
