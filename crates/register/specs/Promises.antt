-- What is promised of every call, whatever was done before. Assumes nothing.
use Rattle.std.specs.Prelude.{◌≡◌, ℕ, ◌<◌, List, [], ◌∷◌, ◌++◌, Ok, Err}
use Rattle.cells.specs.Kinds.{Rules}
use Rattle.rules.specs.declared.calls.Call.{Call}
use Rattle.rules.specs.declared.calls.Reply.{Reply}
use Rattle.rules.specs.declared.refusals.Refusal.{Refusal}
use Rattle.rules.specs.Refusals.{number_of}
use Rattle.rules.specs.States.{State, set_up}
use Rattle.rules.specs.Calls.{Answer, step}
use Rattle.rules.specs.Books.{new_book}
use Rattle.rules.specs.FairCopy.{Event, Leads, book_of, blocks_added, FairCopyHolds}
use Rattle.rules.specs.TurnedAway.{Fails}

-- ---- histories of a register

module _ {V P O : Type 0} (R : Rules V P O) (first : List V) (row_room line_room : ℕ) where
  -- A register was set up over these first values with this room for rows and lines; the history, which is the calls since then
  -- with their answers, led from there to the state s.
  abbrev pub LedTo : List (Event V P O) → State V P → Type 0
  LedTo history s = Leads R (set_up R first row_room line_room) history s

  -- The fair copy of the history holds at s: posted line by line on the first values it gives each line the answer that the
  -- register gave and ends in the committed values; for every standing entry the copies of its elders, eldest first, and then its
  -- own, posted next, get the answers given; and what else `FairCopyHolds` says.
  abbrev pub HasFairCopy : List (Event V P O) → State V P → Type 0
  HasFairCopy history s = FairCopyHolds R first s (book_of history) (blocks_added R (set_up R first row_room line_room) new_book history)

-- the history with one call more, and its answer
abbrev pub and_then : {V P O : Type 0} → List (Event V P O) → Call P → Answer V O → List (Event V P O)
and_then history call answer = history ++ (record { call = call; answer = answer } ∷ [])

-- whatever history led to s has a fair copy that holds there
abbrev pub FairCopyStands : {V P O : Type 0} → Rules V P O → State V P → Type 0
FairCopyStands {V} {P} {O} R s =
    (first : List V) (row_room line_room : ℕ) (history : List (Event V P O)) → LedTo R first row_room line_room history s → HasFairCopy R first row_room line_room history s

-- ---- one call

-- The register held s when the call was made; the call got the answer, and the register holds t.
pub record Promised {V P O : Type 0} (R : Rules V P O) (s : State V P) (call : Call P) (answer : Answer V O) (t : State V P) : Type 0 where
  -- the answer is the one that the rules give, and every value, row and line is as the rules leave it
  pub answer_is : answer ≡ (step R s call).answer
  pub state_is : t ≡ (step R s call).state
  -- a call that is turned away leaves all as it was ..
  pub leaves_all : (refusal : Refusal) → answer ≡ Err refusal → t ≡ s
  -- .. and is told a question that it fails, the first of them
  pub says_why : (refusal : Refusal) → answer ≡ Err refusal → Fails R s refusal call
  pub says_first : (refusal : Refusal) → answer ≡ Err refusal → (other : Refusal) → number_of other < number_of refusal → Fails R s other call → ⊥
  -- a call that is taken fails none
  pub fails_none : (reply : Reply V O) → answer ≡ Ok reply → (refusal : Refusal) → Fails R s refusal call → ⊥
  -- every history that led from set-up to s leads to t once the call and its answer are added to it ..
  pub leads_on : (first : List V) (row_room line_room : ℕ) (history : List (Event V P O)) → LedTo R first row_room line_room history s → LedTo R first row_room line_room (and_then history call answer) t
  -- .. and the fair copy of that holds
  pub fair_copy : (first : List V) (row_room line_room : ℕ) (history : List (Event V P O)) → LedTo R first row_room line_room history s → HasFairCopy R first row_room line_room (and_then history call answer) t
