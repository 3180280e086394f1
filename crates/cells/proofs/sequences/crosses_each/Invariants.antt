use Rattle.std.proofs.Common.{◌≡◌, true}
use Rattle.std.specs.List.{AllWithin}
use Rattle.cells.proofs.sequences.crosses_each.Given as goal

-- the posting crosses each of the others so far
abbrev pub invariant-loop-other : goal.invariant-loop-other
invariant-loop-other g l = AllWithin (λ p. (g.K.Kind.rules l.kind).crosses l.posting p ≡ true) l.others 0 l.other-index
