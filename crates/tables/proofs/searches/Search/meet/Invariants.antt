use Rattle.tables.proofs.Searching.{OnTheWay}
use Rattle.tables.proofs.searches.Search.meet.Given as goal

abbrev pub invariant-loop-place : goal.invariant-loop-place
invariant-loop-place g l = OnTheWay (g.K.Kind.rules l.self.kind.now) l.self.entries.rows.now l.wanted.holder l.wanted.cell l.wanted.posting l.initial.seen l.self.lines.now l.seen l.place
