use Rattle.register.specs.Views.{view}
use Rattle.round.proofs.Turns.{all_gone_through}
use Rattle.round.proofs.rounds.perform_steps.Goals as goal

pub returns : goal.returns
returns g c =
    let R = g.K.Kind.rules c.args.kind.now in
    all_gone_through R (g.met.K.Kind.crossing c.args.kind.now) (view c.args.register.now) (view c.loop-step.register) c.args.steps.now c.loop-step.step-index c.loop-step-test.false c.loop-step.invariant
