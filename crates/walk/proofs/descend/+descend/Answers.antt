-- `descend` meets its contract.
use Rattle.std.proofs.Common.{rules, sym, ◌∙◌}
use Rattle.entry.specs.Masks.{under}
use Rattle.walk.proofs.Laws.{ret_outside, ret_missing, ret_reserved, ret_page, ret_mapped, ret_unmapped}
use Rattle.walk.proofs.descend.+descend.Goals as goal

pub returns-in_err-at : goal.returns-in_err-at
returns-in_err-at t c =
    let a = c.args in
    let s = a.sought.now in
    ret_outside (under s.forbidden) s a.held a.level c.requires.from c.requires.to a.base a.memory.now c.in_err-at.field-0.0
    (sym c.read.ensures ∙ c.in_err-at.was) c.from_residual.result (search rules)

pub returns-in-Missing : goal.returns-in-Missing
returns-in-Missing t c =
    let a = c.args in
    let s = a.sought.now in
    ret_missing (under s.forbidden) s a.held a.level c.requires.from c.requires.to a.base a.memory.now c.in_ok-at.at c.in_ok-at.value
    (sym c.read.ensures ∙ c.in_ok-at.was) (sym c.under.ensures ∙ c.in-Missing.is)

pub returns-in-Reserved : goal.returns-in-Reserved
returns-in-Reserved t c =
    let a = c.args in
    let s = a.sought.now in
    ret_reserved (under s.forbidden) s a.held a.level c.requires.from c.requires.to a.base a.memory.now c.in_ok-at.at c.in_ok-at.value
    (sym c.read.ensures ∙ c.in_ok-at.was) (sym c.under.ensures ∙ c.in-Reserved.is)

pub returns-in-Page : goal.returns-in-Page
returns-in-Page t c =
    let a = c.args in
    let s = a.sought.now in
    ret_page (under s.forbidden) s a.held a.level c.requires.from c.requires.to a.base a.memory.now c.in_ok-at.at c.in_ok-at.value
    (sym c.read.ensures ∙ c.in_ok-at.was) c.in-Page.page (sym c.under.ensures ∙ c.in-Page.is) c.end.result c.end.new.memory c.end.ensures

pub returns-in-Ok : goal.returns-in-Ok
returns-in-Ok t c =
    let a = c.args in
    let s = a.sought.now in
    ret_mapped (under s.forbidden) s a.held a.level c.requires.from c.requires.to a.base a.memory.now c.in_ok-at.at c.in_ok-at.value
    (sym c.read.ensures ∙ c.in_ok-at.was) c.in-Table.table (sym c.under.ensures ∙ c.in-Table.is) c.own-own.result c.own-own.ensures
    c.descend.result c.descend.new.memory c.descend.ensures c.in-Ok.found c.in-Ok.is c.mark.new.memory c.mark.ensures

pub returns-in-Err : goal.returns-in-Err
returns-in-Err t c =
    let a = c.args in
    let s = a.sought.now in
    ret_unmapped (under s.forbidden) s a.held a.level c.requires.from c.requires.to a.base a.memory.now c.in_ok-at.at c.in_ok-at.value
    (sym c.read.ensures ∙ c.in_ok-at.was) c.in-Table.table (sym c.under.ensures ∙ c.in-Table.is) c.own-own.result c.own-own.ensures
    c.descend.result c.descend.new.memory c.descend.ensures c.in-Err.unmapped c.in-Err.is c.above.result c.above.ensures
