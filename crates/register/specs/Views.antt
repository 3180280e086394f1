-- What a register holds, as the rules speak of it, and what its calls return. Assumes nothing.
use Rattle.std.specs.Prelude.{◌≡◌, Ok, Err, Result}
use Rattle.std.specs.Borrow.{GName}
use Rattle.rules.specs.declared.calls.Reply.{Reply}
use Rattle.rules.specs.declared.refusals.Refusal.{Refusal}
use Rattle.rules.specs.States.{State}
use Rattle.rules.specs.Calls.{Answer}
use Rattle.tables.specs.Tables.{cells_of, records_of}
use Rattle.register.specs.declared.Register.{Register}

module _ {V P : Type 0} where
  abbrev pub view : Register V P → State V P
  view g = record {
    sound = g.sound;
    values = (cells_of g.values).values;
    rows = (records_of g.rows).standing;
    lines = (records_of g.lines).standing;
    begun = g.begun;
    row_room = (records_of g.rows).room;
    line_room = (records_of g.lines).room;
  }

  -- the tables are these three slices
  pub record IsOver (g : Register V P) (values rows lines : GName) : Type 0 where
    pub values_slice : (cells_of g.values).slice ≡ values
    pub rows_slice : (records_of g.rows).slice ≡ rows
    pub lines_slice : (records_of g.lines).slice ≡ lines

  -- the tables are still the three slices that the host handed over
  pub record SameTables (g h : Register V P) : Type 0 where
    pub values : (cells_of g.values).slice ≡ (cells_of h.values).slice
    pub rows : (records_of g.rows).slice ≡ (records_of h.rows).slice
    pub lines : (records_of g.lines).slice ≡ (records_of h.lines).slice

-- what a call returned, as an answer of the rules: `reply` makes a reply of what a taken call returns
abbrev pub answered : {X V O : Type 0} → (X → Reply V O) → Result X Refusal → Answer V O
answered reply (Ok x) = Ok (reply x)
answered reply (Err refusal) = Err refusal
