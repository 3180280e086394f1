use Rattle.std.proofs.Common.{refl}
use Rattle.rules.specs.declared.calls.Call.TheVariants.{Abandon}
use Rattle.rules.specs.declared.calls.Reply.TheVariants.{Done}
use Rattle.register.specs.Views.{view}
use Rattle.register.proofs.Promising.{grown_in, refused, took}
use Rattle.register.proofs.Register.abandon.Goals as goal

pub returns-in_err-stands-clause-promised : goal.returns-in_err-stands-clause-promised
returns-in_err-stands-clause-promised g c = refused (g.K.Kind.rules c.args.kind.now) (g.met.K.Kind.crossing c.args.kind.now) (view c.args.self.now) (grown_in c.args.self.now) (Abandon c.args.entry) (λ _. Done) c.from_residual.result c.in_err-stands.field-0.0 c.from_residual.ensures.1 c.in_err-stands.ensures

pub returns-clause-promised : goal.returns-clause-promised
returns-clause-promised g c = took (g.K.Kind.rules c.args.kind.now) (g.met.K.Kind.crossing c.args.kind.now) (view c.args.self.now) (grown_in c.args.self.now) (Abandon c.args.entry) c.in_ok-stands.ensures _ _ refl c.drop_inside.ensures.state
