-- What it is to go through steps on a register. Assumes nothing.
use Rattle.std.specs.Prelude.{◌≡◌, ℕ, List, [], ◌∷◌, ◌++◌, map, fold}
use Rattle.cells.specs.Kinds.{Rules}
use Rattle.rules.specs.declared.calls.Call.{Call}
use Rattle.rules.specs.States.{State}
use Rattle.rules.specs.Calls.{step}
use Rattle.rules.specs.FairCopy.{Event}
use Rattle.register.specs.Promises.{LedTo, HasFairCopy}
use Rattle.round.specs.declared.steps.Step.{Step}

-- what the steps ask of the register, whoever asks it
abbrev pub calls_of : {P : Type 0} → List (Step P) → List (Call P)
calls_of steps = map (λ x. x.call) steps

module _ {V P O : Type 0} (R : Rules V P O) where
  -- where the rules lead: what the register holds after the calls, made in turn from s on
  abbrev pub state_after : State V P → List (Call P) → State V P
  state_after s calls = fold (λ t call. (step R t call).state) s calls

  -- the calls in turn from s on, each with the answer that the rules give to it
  abbrev pub answered_in_turn : State V P → List (Call P) → List (Event V P O)
  answered_in_turn s [] = []
  answered_in_turn s (call ∷ calls) = record { call = call; answer = (step R s call).answer } ∷ answered_in_turn (step R s call).state calls

-- The register held s before the calls and holds t after them.
pub record GoneThrough {V P O : Type 0} (R : Rules V P O) (s : State V P) (calls : List (Call P)) (t : State V P) : Type 0 where
  -- every value, row and line is where the rules lead
  pub state_is : t ≡ state_after R s calls
  -- every history that led from set-up to s leads to t once the calls and the rules' answers are added to it ..
  pub leads_on : (first : List V) (row_room line_room : ℕ) (history : List (Event V P O)) → LedTo R first row_room line_room history s → LedTo R first row_room line_room (history ++ answered_in_turn R s calls) t
  -- .. and the fair copy of that holds
  pub fair_copy : (first : List V) (row_room line_room : ℕ) (history : List (Event V P O)) → LedTo R first row_room line_room history s → HasFairCopy R first row_room line_room (history ++ answered_in_turn R s calls) t
