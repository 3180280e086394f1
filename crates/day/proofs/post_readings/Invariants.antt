use Rattle.std.proofs.Common.{◌≡◌, drop}
use Rattle.day.specs.Closing.{closing}
use Rattle.day.proofs.post_readings.Given as goal

-- the readings that are left take the value so far to where all of them take the first value
abbrev pub invariant-loop-reading : goal.invariant-loop-reading
invariant-loop-reading g l = closing (g.K.Kind.rules l.kind) l.value (drop l.reading-index l.readings) ≡ closing (g.K.Kind.rules l.kind) l.initial.value l.readings
