use Rattle.std.proofs.Common.{sym, ap, ◌∙◌}
use Rattle.std.proofs.lemmas.Bool.{cond-false, ne_eqb}
use Rattle.tables.specs.Places.{unless_register}
use Rattle.tables.proofs.Finding.{parent_at, parent_nowhere}
use Rattle.tables.proofs.elders.parent_of.Goals as goal

pub returns-in_err-parent : goal.returns-in_err-parent
returns-in_err-parent c = c.from_residual.ensures ∙ ap unless_register (parent_nowhere c.args.rows.now c.args.entry c.in_err-parent.ensures)

pub returns-then-parent-eq0 : goal.returns-then-parent-eq0
returns-then-parent-eq0 c =
    let its = c.in_ok-parent.ensures in
    ap unless_register (sym c.if-parent-eq0.true ∙ parent_at c.args.rows.now c.args.entry c.in_ok-parent.field-0 _ its.inside its.its_own its.first)

pub returns-else-parent-eq0 : goal.returns-else-parent-eq0
returns-else-parent-eq0 c =
    let its = c.in_ok-parent.ensures in
    sym (cond-false _ _ _ (ne_eqb _ _ c.if-parent-eq0.false)) ∙ ap unless_register (parent_at c.args.rows.now c.args.entry c.in_ok-parent.field-0 _ its.inside its.its_own its.first)
