use Rattle.std.proofs.Common.{sym, ◌∙◌, arith}
use Rattle.std.proofs.lemmas.Bool.{eq-eqb}
use Rattle.rules.specs.Entries.{its_parent}
use Rattle.tables.proofs.Finding.{told_parent, untold_parent}
use Rattle.tables.proofs.InOrder.{told, none_from_above, none_at_top, parent_below, up_to_parent}
use Rattle.tables.proofs.elders.Entries.+is_elder.Goals as goal

pub returns-then-entry-elder : goal.returns-then-entry-elder
returns-then-entry-elder t c =
    let s = c.args.self.now in
    let listed = none_from_above s.rows.now s.in_order c.args.entry c.args.elder c.if-entry-elder.true in
    record { listed = listed; related = told s.rows.now s.in_order c.args.entry c.args.elder _ listed }

pub returns-in-None-clause-related : goal.returns-in-None-clause-related
returns-in-None-clause-related t c =
    let s = c.args.self.now in
    told s.rows.now s.in_order c.args.entry c.args.elder _ (none_at_top s.rows.now s.in_order c.args.entry c.args.elder (untold_parent _ (sym c.in-None.is ∙ c.parent_of.ensures)))

pub is_elder-requires : goal.is_elder-requires
is_elder-requires t c =
    let parent = told_parent _ c.in-Some.parent (sym c.in-Some.is ∙ c.parent_of.ensures) in
    let below = parent_below c.args.self.now.rows.now c.args.self.now.in_order c.args.entry (λ z. parent.1 (parent.0 ∙ z)) in
    omega (arith, below, parent.0, c.decreases)

pub returns-then-parent-elder-clause-related : goal.returns-then-parent-elder-clause-related
returns-then-parent-elder-clause-related t c =
    let parent = told_parent _ c.in-Some.parent (sym c.in-Some.is ∙ c.parent_of.ensures) in
    (λ _. its_parent (sym parent.0 ∙ c.if-parent-elder.true) (λ z. parent.1 (c.if-parent-elder.true ∙ z)), λ _. eq-eqb _ _ c.if-parent-elder.true)

pub returns-else-parent-elder : goal.returns-else-parent-elder
returns-else-parent-elder t c =
    let s = c.args.self.now in
    let parent = told_parent _ c.in-Some.parent (sym c.in-Some.is ∙ c.parent_of.ensures) in
    let listed = c.is_elder.ensures.listed ∙ up_to_parent s.rows.now s.in_order c.args.entry c.args.elder c.in-Some.parent parent.0 parent.1 c.if-parent-elder.false in
    record { listed = listed; related = told s.rows.now s.in_order c.args.entry c.args.elder _ listed }
