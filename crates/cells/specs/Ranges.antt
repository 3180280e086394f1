-- The ranges of the numbers that cells hold. Assumes nothing.
use Rattle.std.specs.Prelude.{Bool, ◌&&◌, ℤ, pos, negsuc, int_le}

-- from `low` to `high`, both included
abbrev pub within : ℤ → ℤ → ℤ → Bool
within low high n = int_le low n && int_le n high

-- -2,147,483,648 to 2,147,483,647 (`negsuc n` is the number -n - 1)
abbrev pub level_range : ℤ → Bool
level_range = within (negsuc 2147483647) (pos 2147483647)

-- 0 to 999,999,999
abbrev pub total_range : ℤ → Bool
total_range = within (pos 0) (pos 999999999)
