-- Where an entry's row stands. Assumes nothing.
use Rattle.std.specs.Prelude.{if◌then◌else◌, ◌==◌, Option, Some, None, ◌≡◌, ℕ, ◌<◌, List, length, ◌≢◌, slice_index_or}
use Rattle.rules.specs.declared.rows.Row.{Row}

-- a row that stands for none, where rows are read past their end
abbrev pub no_row : Row
no_row = record { entry = 0; parent = 0 }

-- none of the first rows, up to a place, is of the entry
abbrev pub NoneBefore : List Row → ℕ → ℕ → Type 0
NoneBefore rows entry place = (k : ℕ) → k < place → (slice_index_or rows k no_row).entry ≢ entry

-- the entry's row stands at the place, and none stands before it
pub record HasItsRow (rows : List Row) (entry place : ℕ) : Type 0 where
  pub inside : place < length rows
  pub its_own : (slice_index_or rows place no_row).entry ≡ entry
  pub first : NoneBefore rows entry place

-- no row is of the entry
abbrev pub HasNoRow : List Row → ℕ → Type 0
HasNoRow rows entry = NoneBefore rows entry (length rows)

-- an entry, where the number is not 0, the register's own
abbrev pub unless_register : ℕ → Option ℕ
unless_register n = if n == 0 then None else Some n
