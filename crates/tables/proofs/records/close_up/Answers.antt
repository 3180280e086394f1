use Rattle.std.proofs.Common.{take, refl, subst}
use Rattle.tables.specs.Closing.{Answered}
use Rattle.tables.proofs.Closing.{stayed, went}
use Rattle.tables.proofs.records.close_up.Goals as goal
use Rattle.tables.proofs.records.close_up.Goals.{then-stays, else-stays}

pub loop-i-preserved : goal.loop-i-preserved
loop-i-preserved g c =
    let Says = Answered g.F.Fn c.args.stays in
    let at = c.loop-i in
    let x = c.index-items-i.result in
    let said : Says (take at.kept at.items) x c.stays.result = record { front = _; item = _; shows = (refl, refl); says = record { met = c.stays.ensures } } in
    elim c.if-stays.branch [
      | then-stays w ↦ rw (w.items-is, w.kept-is) (stayed Says c.args.items.now at.items at.kept at.i at.invariant x c.loop-i-test.true c.index-items-i.is (subst (Says (take at.kept at.items) x) w.if-stays.true said))
      | else-stays w ↦ rw (w.items-is, w.kept-is) (went Says c.args.items.now at.items at.kept at.i at.invariant x c.loop-i-test.true c.index-items-i.is (subst (Says (take at.kept at.items) x) w.if-stays.false said))
    ]
