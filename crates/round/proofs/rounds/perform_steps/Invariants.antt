use Rattle.std.proofs.Common.{◌≡◌, drop}
use Rattle.register.specs.Views.{view}
use Rattle.round.specs.Rounds.{calls_of, state_after}
use Rattle.round.proofs.rounds.perform_steps.Given as goal

-- the steps that are left take the register as it is to where all of them take it from where it was
abbrev pub invariant-loop-step : goal.invariant-loop-step
invariant-loop-step g l = state_after (g.K.Kind.rules l.kind) (view l.register) (calls_of (drop l.step-index l.steps)) ≡ state_after (g.K.Kind.rules l.kind) (view l.initial.register) (calls_of l.steps)
