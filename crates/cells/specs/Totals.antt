-- The rules of totals. Assumes nothing.
use Rattle.std.specs.Prelude.{Bool, true, false, ℤ, pos, ◌+ℤ◌}
use Rattle.std.specs.Int.{int_rem_euclid}
use Rattle.cells.specs.Kinds.{Rules}
use Rattle.cells.specs.Ranges.{total_range}
use Rattle.cells.specs.declared.answers.Answer.{Answer}
use Rattle.cells.specs.declared.answers.Answer.TheVariants.{Seen, Done}
use Rattle.cells.specs.declared.totals.TotalPosting.{TotalPosting}
use Rattle.cells.specs.declared.totals.TotalPosting.TheVariants.{Look, Add}

-- a look is always lawful
abbrev lawful : TotalPosting → Bool
lawful Look = true
lawful (Add n) = total_range n

-- a look keeps the total; an addition stores the remainder of the sum by 1,000,000,000, which is never negative
abbrev after : ℤ → TotalPosting → ℤ
after v Look = v
after v (Add n) = int_rem_euclid (v +ℤ n) (pos 1000000000)

-- a look answers the total that it finds, an addition only that it is done
abbrev answer : ℤ → TotalPosting → Answer ℤ
answer v Look = Seen v
answer v (Add n) = Done

-- looks cross looks, and additions cross additions
abbrev crosses : TotalPosting → TotalPosting → Bool
crosses Look Look = true
crosses Look (Add m) = false
crosses (Add n) Look = false
crosses (Add n) (Add m) = true

abbrev pub total_rules : Rules ℤ TotalPosting (Answer ℤ)
total_rules = record {
  value_lawful = total_range;
  posting_lawful = lawful;
  after = after;
  answer = answer;
  crosses = crosses;
}
