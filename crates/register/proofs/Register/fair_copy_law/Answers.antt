use Rattle.register.specs.Views.{view}
use Rattle.register.proofs.Promising.{stands_by_law}
use Rattle.register.proofs.Register.fair_copy_law.Goals as goal

pub returns : goal.returns
returns g c = stands_by_law (g.K.Kind.rules c.args.kind.now) (g.met.K.Kind.crossing c.args.kind.now) (view c.args.self.now)
