-- What the questions to a call come to. Assumes nothing.
use Rattle.std.specs.Prelude.{List, Some, None, Ok, Err, Option, Result}
use Rattle.rules.specs.declared.refusals.Refusal.{Refusal}
use Rattle.rules.specs.declared.refusals.Refusal.TheVariants.{NoSuchCell}
use Rattle.rules.specs.Calls.{first_no}

-- the first no, or x where there is none
abbrev pub unless : {X : Type 0} → X → Option Refusal → Result X Refusal
unless x None = Ok x
unless x (Some refusal) = Err refusal

-- all of the questions are passed, or the first no
abbrev pub passed : List (Option Refusal) → Result (Unit {0}) Refusal
passed qs = unless tt (first_no qs)

-- the value that a posting sees, where no question turns it away; question 4 has made sure that there is one
abbrev pub seen_unless : {V : Type 0} → Option V → Option Refusal → Result V Refusal
seen_unless (Some v) no_to = unless v no_to
seen_unless None None = Err NoSuchCell
seen_unless None (Some refusal) = Err refusal
