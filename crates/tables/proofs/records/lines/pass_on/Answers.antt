use Rattle.std.proofs.Common.{◌∙◌}
use Rattle.tables.proofs.Passing.{passed, left}
use Rattle.tables.proofs.records.lines.pass_on.Goals as goal
use Rattle.tables.proofs.records.lines.pass_on.Goals.{then-line-from, else-line-from}

pub loop-line-preserved : goal.loop-line-preserved
loop-line-preserved g c =
    let at = c.loop-line in
    elim c.if-line-from.branch [
      | then-line-from w ↦ w.line-items-is ∙ passed c.args.from c.args.to c.args.lines.now at.line-items at.line-index at.invariant c.loop-line-test.true c.line-item.result c.line-item.is w.if-line-from.true
      | else-line-from w ↦ w.line-items-is ∙ left c.args.from c.args.to c.args.lines.now at.line-items at.line-index at.invariant c.loop-line-test.true c.line-item.result c.line-item.is w.if-line-from.false
    ]
