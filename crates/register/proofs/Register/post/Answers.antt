use Rattle.std.proofs.Common.{Ok, Err, refl}
use Rattle.rules.specs.declared.calls.Call.TheVariants.{Post}
use Rattle.rules.specs.declared.calls.Reply.TheVariants.{Posted}
use Rattle.rules.specs.Calls.{seen}
use Rattle.register.specs.Views.{view}
use Rattle.register.proofs.Promising.{grown_in, handed_on, by_value}
use Rattle.register.proofs.Register.post.Goals as goal

pub returns-in_err-seen-clause-promised : goal.returns-in_err-seen-clause-promised
returns-in_err-seen-clause-promised g c =
    let R = g.K.Kind.rules c.args.kind.now in
    let law = g.met.K.Kind.crossing c.args.kind.now in
    let call = Post c.args.entry c.args.cell c.args.posting in
    handed_on R law (view c.args.self.now) (grown_in c.args.self.now) call Posted c.from_residual.result c.in_err-seen.field-0.0 c.from_residual.ensures.1 (by_value R law (view c.args.self.now) (grown_in c.args.self.now) call (seen R (view c.args.self.now) c.args.entry c.args.cell) _ refl (Err c.in_err-seen.field-0.0) c.in_err-seen.ensures)

pub returns-clause-promised : goal.returns-clause-promised
returns-clause-promised g c =
    let R = g.K.Kind.rules c.args.kind.now in
    let law = g.met.K.Kind.crossing c.args.kind.now in
    let call = Post c.args.entry c.args.cell c.args.posting in
    rw (c.answer.ensures, c.add_line.ensures.state) (by_value R law (view c.args.self.now) (grown_in c.args.self.now) call (seen R (view c.args.self.now) c.args.entry c.args.cell) _ refl (Ok c.in_ok-seen.seen) c.in_ok-seen.ensures)
