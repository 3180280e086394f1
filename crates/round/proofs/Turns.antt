-- Calls made in turn: where what is left of them leads, and the history that they make.
use Rattle.std.proofs.Common.{◌≡◌, ℕ, ◌≤◌, List, [], ◌∷◌, ◌++◌, length, drop, sym, refl, ◌∙◌, subst}
use Rattle.std.proofs.lemmas.List.{at_drop_all}
use Rattle.cells.specs.Kinds.{Rules, CrossingLaw}
use Rattle.rules.specs.declared.calls.Call.{Call}
use Rattle.rules.specs.States.{State}
use Rattle.rules.specs.Calls.{step}
use Rattle.rules.specs.FairCopy.{Event, Leads}
use Rattle.rules.proofs.Histories.{leads_append}
use Rattle.rules.proofs.Law.{fair_copy_law}
use Rattle.register.specs.Promises.{LedTo}
use Rattle.round.specs.Rounds.{calls_of, state_after, answered_in_turn, GoneThrough}
use Rattle.round.specs.declared.steps.Step.{Step}

module _ {V P O : Type 0} (R : Rules V P O) where
  -- calls with the rules' answers lead where the rules lead
  all_lead : (s : State V P) (calls : List (Call P)) → Leads R s (answered_in_turn R s calls) (state_after R s calls)
  all_lead s [] = refl
  all_lead s (call ∷ calls) = (refl, all_lead (step R s call).state calls)

  gone_through : CrossingLaw R → (s t : State V P) (calls : List (Call P)) → t ≡ state_after R s calls → GoneThrough R s calls t
  gone_through law s t calls is =
      let more = answered_in_turn R s calls in
      let arrives : Leads R s more t = subst (Leads R s more) (sym is) (all_lead s calls) in
      let led_on : (first : List V) (row_room line_room : ℕ) (history : List (Event V P O)) → LedTo R first row_room line_room history s → LedTo R first row_room line_room (history ++ more) t = λ first row_room line_room history led. leads_append R _ s t history more led arrives in
      record {
        state_is = is;
        leads_on = led_on;
        fair_copy = λ first row_room line_room history led. fair_copy_law R law first row_room line_room (history ++ more) t (led_on first row_room line_room history led);
      }

  -- nothing is left of the steps at i
  pub all_gone_through : CrossingLaw R → (s t : State V P) (steps : List (Step P)) (i : ℕ) → length steps ≤ i → state_after R t (calls_of (drop i steps)) ≡ state_after R s (calls_of steps) → GoneThrough R s (calls_of steps) t
  all_gone_through law s t steps i past ends = gone_through law s t (calls_of steps) (sym (at_drop_all (λ rest. state_after R t (calls_of rest)) steps i past) ∙ ends)
