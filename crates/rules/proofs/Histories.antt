-- Histories one after another.
use Rattle.std.proofs.Common.{List, [], ◌∷◌, ◌++◌, sym, subst}
use Rattle.cells.specs.Kinds.{Rules}
use Rattle.rules.specs.States.{State}
use Rattle.rules.specs.Calls.{step}
use Rattle.rules.specs.FairCopy.{Event, Leads}

pub leads_append : {V P O : Type 0} (R : Rules V P O) (z s t : State V P) (history more : List (Event V P O)) → Leads R z history s → Leads R s more t → Leads R z (history ++ more) t
leads_append R z s t [] more leads on = subst (λ u. Leads R u more t) (sym leads) on
leads_append R z s t (x ∷ history) more leads on = (leads.0, leads_append R (step R z x.call).state s t history more leads.1 on)
