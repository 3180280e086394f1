-- What a day's readings come to. Assumes nothing.
use Rattle.std.specs.Prelude.{List, map, filter}
use Rattle.cells.specs.Kinds.{Rules}
use Rattle.cells.specs.Sequences.{after_all}
use Rattle.day.specs.declared.readings.Reading.{Reading}

-- the value after what the lawful ones of the readings post, in their order
abbrev pub closing : {V P O : Type 0} → Rules V P O → V → List (Reading P) → V
closing R morning readings = after_all R morning (filter R.posting_lawful (map (λ reading. reading.posting) readings))
