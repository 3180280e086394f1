use Rattle.tables.proofs.Passing.{Passing}
use Rattle.tables.proofs.records.lines.pass_on.Given as goal

abbrev pub invariant-loop-line : goal.invariant-loop-line
invariant-loop-line g l = Passing l.from l.to l.initial.line-items l.line-items l.line-index
