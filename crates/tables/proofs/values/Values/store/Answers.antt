use Rattle.tables.proofs.Cells.{change_at_set, change_at_past}
use Rattle.tables.proofs.values.Values.store.Goals as goal

pub returns-then-cell-self : goal.returns-then-cell-self
returns-then-cell-self g c = rw (c.after.ensures, change_at_set (λ v. (g.K.Kind.rules c.args.kind.now).after v c.args.posting))

pub returns-else-cell-self : goal.returns-else-cell-self
returns-else-cell-self g c = rw (change_at_past _ c.args.self.now.cells.now c.args.cell c.if-cell-self.false)
