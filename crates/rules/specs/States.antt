-- What a register holds. Assumes nothing.
use Rattle.std.specs.Prelude.{ℕ, Bool, ◌&&◌, List, [], length, nat_le, nat_lt}
use Rattle.std.specs.List.{list_all}
use Rattle.cells.specs.Kinds.{Rules}
use Rattle.rules.specs.declared.rows.Row.{Row}
use Rattle.rules.specs.declared.lines.Line.{Line}

pub record State (V P : Type 0) : Type 0 where
  -- were the three tables within their sizes at set-up, and all first values lawful?
  pub sound : Bool
  -- the committed values, one for each cell
  pub values : List V
  -- the standing entries, first begun to last begun
  pub rows : List Row
  -- the standing lines, first posted to last posted
  pub lines : List (Line P)
  -- how many begins have been taken
  pub begun : ℕ
  -- how many rows and lines the tables have room for
  pub row_room : ℕ
  pub line_room : ℕ

-- a table has at least one place, and not too many
abbrev pub size_within : ℕ → ℕ → Bool
size_within n most = nat_lt 0 n && nat_le n most

module _ {V P O : Type 0} (R : Rules V P O) where
  abbrev pub all_lawful : List V → Bool
  all_lawful vs = list_all R.value_lawful vs

  -- 1 to 4,096 cells, 1 to 256 rows, 1 to 4,096 lines, and lawful first values
  abbrev pub sound_for : List V → ℕ → ℕ → Bool
  sound_for first rows lines = size_within (length first) 4096 && (size_within rows 256 && (size_within lines 4096 && all_lawful first))

  -- setting up frees all rows and lines and leaves the values
  abbrev pub set_up : List V → ℕ → ℕ → State V P
  set_up first rows lines = record {
    sound = sound_for first rows lines;
    values = first;
    rows = [];
    lines = [];
    begun = 0;
    row_room = rows;
    line_room = lines;
  }
