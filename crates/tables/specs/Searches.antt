-- What a posting meets on its way through the standing lines. Assumes nothing.
use Rattle.std.specs.Prelude.{ℕ, Some, None, Ok, Err, Option, Result}
use Rattle.rules.specs.declared.refusals.Refusal.{Refusal}
use Rattle.rules.specs.declared.refusals.Refusal.TheVariants.{InTheWay}

-- the value seen, unless a line is in the way: then the refusal that names its holder
abbrev pub met : {V : Type 0} → V → Option ℕ → Result V Refusal
met v None = Ok v
met v (Some holder) = Err (InTheWay holder)
