use Rattle.std.proofs.Common.{rules}
use Rattle.cells.proofs.Places.{stands_anywhere}
use Rattle.cells.proofs.sequences.crosses_each.Goals as goal

-- the loop has come to the end, so each is crossed, and the crossing law of the kind does the rest
pub returns-clause-anywhere : goal.returns-clause-anywhere
returns-clause-anywhere g c _ = stands_anywhere (g.met.K.Kind.crossing c.args.kind.now) c.args.posting c.args.others.now (search rules)
