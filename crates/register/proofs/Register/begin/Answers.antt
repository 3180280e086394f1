use Rattle.std.proofs.Common.{Ok, ap}
use Rattle.rules.specs.declared.calls.Call.TheVariants.{Begin}
use Rattle.rules.specs.declared.calls.Reply.TheVariants.{Entry}
use Rattle.register.specs.Views.{view}
use Rattle.register.proofs.Promising.{grown_in, refused, took}
use Rattle.register.proofs.Register.begin.Goals as goal

pub returns-in_err-may_begin-clause-promised : goal.returns-in_err-may_begin-clause-promised
returns-in_err-may_begin-clause-promised g c = refused (g.K.Kind.rules c.args.kind.now) (g.met.K.Kind.crossing c.args.kind.now) (view c.args.self.now) (grown_in c.args.self.now) (Begin c.args.parent) Entry c.from_residual.result c.in_err-may_begin.field-0.0 c.from_residual.ensures.1 c.in_err-may_begin.ensures

pub returns-clause-promised : goal.returns-clause-promised
returns-clause-promised g c = took (g.K.Kind.rules c.args.kind.now) (g.met.K.Kind.crossing c.args.kind.now) (view c.args.self.now) (grown_in c.args.self.now) (Begin c.args.parent) c.in_ok-may_begin.ensures _ _ (ap (λ n. Ok (Entry n)) c.enter.ensures.number) c.enter.ensures.state
