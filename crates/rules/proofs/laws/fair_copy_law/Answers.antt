use Rattle.rules.proofs.Law.{fair_copy_law}
use Rattle.rules.proofs.laws.fair_copy_law.Goals as goal

-- by the crossing law that the kind shows
pub returns : goal.returns
returns g c = fair_copy_law (g.K.Kind.rules c.args.kind.now) (g.met.K.Kind.crossing c.args.kind.now)
