-- The rules of marks. Assumes nothing.
use Rattle.std.specs.Prelude.{Bool, true, false, ℤ}
use Rattle.std.specs.Int.{int_max}
use Rattle.cells.specs.Kinds.{Rules}
use Rattle.cells.specs.Ranges.{level_range}
use Rattle.cells.specs.declared.answers.Answer.{Answer}
use Rattle.cells.specs.declared.answers.Answer.TheVariants.{Seen, Done}
use Rattle.cells.specs.declared.marks.MarkPosting.{MarkPosting}
use Rattle.cells.specs.declared.marks.MarkPosting.TheVariants.{Look, Raise}

-- a look is always lawful
abbrev lawful : MarkPosting → Bool
lawful Look = true
lawful (Raise n) = level_range n

-- a look keeps the mark, a raise stores the larger of the mark and its own level
abbrev after : ℤ → MarkPosting → ℤ
after v Look = v
after v (Raise n) = int_max v n

-- a look answers the mark that it finds, a raise only that it is done
abbrev answer : ℤ → MarkPosting → Answer ℤ
answer v Look = Seen v
answer v (Raise n) = Done

-- looks cross looks, and raises cross raises: a raise never crosses a look, even one below the present mark
abbrev crosses : MarkPosting → MarkPosting → Bool
crosses Look Look = true
crosses Look (Raise m) = false
crosses (Raise n) Look = false
crosses (Raise n) (Raise m) = true

abbrev pub mark_rules : Rules ℤ MarkPosting (Answer ℤ)
mark_rules = record {
  value_lawful = level_range;
  posting_lawful = lawful;
  after = after;
  answer = answer;
  crosses = crosses;
}
