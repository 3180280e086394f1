use Rattle.std.proofs.Common.{refl}
use Rattle.rules.specs.declared.calls.Call.TheVariants as call
use Rattle.rules.specs.declared.calls.Reply.TheVariants as reply
use Rattle.rules.specs.Cells.{value_at}
use Rattle.register.specs.Views.{view}
use Rattle.register.proofs.Promising.{grown_in, by_shown}
use Rattle.register.proofs.Register.value.Goals as goal

pub returns : goal.returns
returns g c = by_shown (g.K.Kind.rules c.args.kind.now) (g.met.K.Kind.crossing c.args.kind.now) (view c.args.self.now) (grown_in c.args.self.now) (call.Value c.args.cell) (value_at (view c.args.self.now).values c.args.cell) reply.Value refl c.may_show.result c.may_show.ensures
