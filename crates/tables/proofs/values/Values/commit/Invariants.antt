use Rattle.std.proofs.Common.{◌≡◌, drop}
use Rattle.rules.specs.Calls.{commit, held_by}
use Rattle.tables.proofs.values.Values.commit.Given as goal

-- what is left of the lines makes of the values what all of them make of the first ones
abbrev pub invariant-loop-line : goal.invariant-loop-line
invariant-loop-line g l =
    let R = g.K.Kind.rules l.kind in
    (commit R l.self.cells.now (held_by l.entry (drop l.line-index l.lines)) ≡ commit R l.initial.self.cells.now (held_by l.entry l.lines))
    × (l.self.cells.ghost_name ≡ l.initial.self.cells.ghost_name)
