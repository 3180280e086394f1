-- Rows as begins and ends leave them. Assumes nothing.
use Rattle.std.specs.Prelude.{ℕ, Bool, true, ◌&&◌, ◌||◌, List, [], ◌∷◌, ◌==◌, nat_le, nat_lt}
use Rattle.rules.specs.declared.rows.Row.{Row}
use Rattle.rules.specs.Entries.{stands}

-- the numbers rise from row to row, all of them above n
abbrev pub rising_from : ℕ → List Row → Bool
rising_from n [] = true
rising_from n (r ∷ rows) = nat_lt n r.entry && rising_from r.entry rows

-- the parent of each is 0, or has a lower number and a row among `all`
abbrev pub placed_in : List Row → List Row → Bool
placed_in all [] = true
placed_in all (r ∷ rows) = (r.parent == 0 || (nat_lt r.parent r.entry && stands all r.parent)) && placed_in all rows

-- entries stand in the order in which they were begun, and each one under 0 or under an entry that was begun before it and stands
abbrev pub are_in_order : List Row → Bool
are_in_order rows = rising_from 0 rows && placed_in rows rows

-- no number is above n
abbrev pub numbered_to : ℕ → List Row → Bool
numbered_to n [] = true
numbered_to n (r ∷ rows) = nat_le r.entry n && numbered_to n rows
