use Rattle.rules.proofs.Refusing.{refusal_law}
use Rattle.rules.proofs.laws.refusal_law.Goals as goal

-- by the crossing law that the kind shows
pub returns : goal.returns
returns g c = refusal_law (g.K.Kind.rules c.args.kind.now) (g.met.K.Kind.crossing c.args.kind.now)
