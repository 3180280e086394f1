-- Postings and answers as scripts and answer lines write them, in bytes. Assumes nothing.
use Rattle.std.specs.Prelude.{ℕ, List, ◌++◌, ℤ, codes}
use Rattle.std.specs.Fmt.{signed_decimal}
use Rattle.cells.specs.declared.answers.Answer.{Answer}
use Rattle.cells.specs.declared.answers.Answer.TheVariants as answers
use Rattle.cells.specs.declared.levels.LevelPosting.{LevelPosting}
use Rattle.cells.specs.declared.levels.LevelPosting.TheVariants as levels
use Rattle.cells.specs.declared.marks.MarkPosting.{MarkPosting}
use Rattle.cells.specs.declared.marks.MarkPosting.TheVariants as marks
use Rattle.cells.specs.declared.totals.TotalPosting.{TotalPosting}
use Rattle.cells.specs.declared.totals.TotalPosting.TheVariants as totals

abbrev pub answer_text : Answer ℤ → List ℕ
answer_text (answers.Seen v) = codes "(seen " ++ (signed_decimal v ++ codes ")")
answer_text answers.Done = codes "(done)"

abbrev pub level_posting_text : LevelPosting → List ℕ
level_posting_text levels.Look = codes "(look)"
level_posting_text (levels.Set n) = codes "(set " ++ (signed_decimal n ++ codes ")")

abbrev pub total_posting_text : TotalPosting → List ℕ
total_posting_text totals.Look = codes "(look)"
total_posting_text (totals.Add n) = codes "(add " ++ (signed_decimal n ++ codes ")")

abbrev pub mark_posting_text : MarkPosting → List ℕ
mark_posting_text marks.Look = codes "(look)"
mark_posting_text (marks.Raise n) = codes "(raise " ++ (signed_decimal n ++ codes ")")
