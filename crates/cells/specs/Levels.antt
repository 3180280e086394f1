-- The rules of levels. Assumes nothing.
use Rattle.std.specs.Prelude.{Bool, true, false, ℤ}
use Rattle.cells.specs.Kinds.{Rules}
use Rattle.cells.specs.Ranges.{level_range}
use Rattle.cells.specs.declared.answers.Answer.{Answer}
use Rattle.cells.specs.declared.answers.Answer.TheVariants.{Seen, Done}
use Rattle.cells.specs.declared.levels.LevelPosting.{LevelPosting}
use Rattle.cells.specs.declared.levels.LevelPosting.TheVariants.{Look, Set}

-- a look is always lawful
abbrev lawful : LevelPosting → Bool
lawful Look = true
lawful (Set n) = level_range n

-- a look keeps the level, a set stores its own
abbrev after : ℤ → LevelPosting → ℤ
after v Look = v
after v (Set n) = n

-- a look answers the level that it finds, a set only that it is done
abbrev answer : ℤ → LevelPosting → Answer ℤ
answer v Look = Seen v
answer v (Set n) = Done

-- only looks cross
abbrev crosses : LevelPosting → LevelPosting → Bool
crosses Look Look = true
crosses Look (Set m) = false
crosses (Set n) Look = false
crosses (Set n) (Set m) = false

abbrev pub level_rules : Rules ℤ LevelPosting (Answer ℤ)
level_rules = record {
  value_lawful = level_range;
  posting_lawful = lawful;
  after = after;
  answer = answer;
  crosses = crosses;
}
