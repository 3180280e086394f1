use Rattle.tables.specs.Closing.{Answered}
use Rattle.tables.proofs.Closing.{ClosingUp}
use Rattle.tables.proofs.records.close_up.Given as goal

abbrev pub invariant-loop-i : goal.invariant-loop-i
invariant-loop-i g l = ClosingUp (Answered g.F.Fn l.fn.stays) l.fn.items l.items l.kept l.i
