use Rattle.std.proofs.Common.{sym, refl, ap, ◌∙◌}
use Rattle.std.proofs.lemmas.Bool.{eq-eqb, ne_eqb}
use Rattle.rules.specs.declared.calls.Call.TheVariants.{Keep}
use Rattle.rules.specs.declared.calls.Reply.TheVariants.{Done}
use Rattle.rules.specs.Entries.{parent_of}
use Rattle.tables.specs.Places.{unless_register}
use Rattle.tables.proofs.Finding.{told_parent, untold_parent}
use Rattle.register.specs.Views.{view}
use Rattle.register.proofs.Promising.{grown_in, refused, took}
use Rattle.register.proofs.Register.keep.Goals as goal

pub returns-in_err-stands_alone-clause-promised : goal.returns-in_err-stands_alone-clause-promised
returns-in_err-stands_alone-clause-promised g c = refused (g.K.Kind.rules c.args.kind.now) (g.met.K.Kind.crossing c.args.kind.now) (view c.args.self.now) (grown_in c.args.self.now) (Keep c.args.entry) (λ _. Done) c.from_residual.result c.in_err-stands_alone.field-0.0 c.from_residual.ensures.1 c.in_err-stands_alone.ensures

pub returns-in-Some-clause-promised : goal.returns-in-Some-clause-promised
returns-in-Some-clause-promised g c =
    let e = c.args.entry in
    let rows = (view c.args.self.now).rows in
    let asked = c.parent_of.ensures ∙ ap (λ rs. unless_register (parent_of rs e)) c.as_slice.ensures in
    let parent = told_parent (parent_of rows e) c.in-Some.parent (sym c.in-Some.is ∙ asked) in
    took (g.K.Kind.rules c.args.kind.now) (g.met.K.Kind.crossing c.args.kind.now) (view c.args.self.now) (grown_in c.args.self.now) (Keep e) c.in_ok-stands_alone.ensures _ _ refl
    (rw (ne_eqb (parent_of rows e) 0 (λ z. parent.1 (parent.0 ∙ z)), ← parent.0) c.pass_on.ensures.state)

pub returns-in-None-clause-promised : goal.returns-in-None-clause-promised
returns-in-None-clause-promised g c =
    let e = c.args.entry in
    let rows = (view c.args.self.now).rows in
    let asked = c.parent_of.ensures ∙ ap (λ rs. unless_register (parent_of rs e)) c.as_slice.ensures in
    took (g.K.Kind.rules c.args.kind.now) (g.met.K.Kind.crossing c.args.kind.now) (view c.args.self.now) (grown_in c.args.self.now) (Keep e) c.in_ok-stands_alone.ensures _ _ refl
    (rw (eq-eqb (parent_of rows e) 0 (untold_parent (parent_of rows e) (sym c.in-None.is ∙ asked))) c.commit.ensures.state)
