-- What clauses see of the tables over handed-over slices. Assumes nothing.
use Rattle.std.specs.Prelude.{ℕ, List, length, take}
use Rattle.std.specs.Borrow.{GName}
use Rattle.tables.specs.declared.records.Table.{Table}
use Rattle.tables.specs.declared.values.Values.{Values}

-- a table of records
pub record Records (T : Type 0) : Type 0 where
  -- the records that stand, in the order in which they came
  pub standing : List T
  -- how many there is room for
  pub room : ℕ
  -- the slice that the host handed over
  pub slice : GName

-- the committed values
pub record Cells (V : Type 0) : Type 0 where
  -- the value of each cell
  pub values : List V
  -- the slice that the host handed over
  pub slice : GName

abbrev pub records_of : {T : Type 0} → Table T → Records T
records_of t = record { standing = take t.filled t.places.now; room = length t.places.now; slice = t.places.ghost_name }

abbrev pub cells_of : {V : Type 0} → Values V → Cells V
cells_of vs = record { values = vs.cells.now; slice = vs.cells.ghost_name }
