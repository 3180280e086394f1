-- The number of each refusal, and the holder that it names. Assumes nothing.
use Rattle.std.specs.Prelude.{ℕ}
use Rattle.rules.specs.declared.refusals.Refusal.{Refusal}
use Rattle.rules.specs.declared.refusals.Refusal.TheVariants.{Unsound, NotStanding, HasChild, NoSuchCell, UnlawfulPosting, InTheWay, HeldByElder, NoFreeRow, NoFreeLine, NoNumberLeft}

-- the number of the question that the call failed
abbrev pub number_of : Refusal → ℕ
number_of Unsound = 1
number_of NotStanding = 2
number_of HasChild = 3
number_of NoSuchCell = 4
number_of UnlawfulPosting = 5
number_of (InTheWay h) = 6
number_of (HeldByElder h) = 7
number_of NoFreeRow = 8
number_of NoFreeLine = 9
number_of NoNumberLeft = 10

-- the holder that it names: at 6 and 7 that of a line which is not crossed, and 0 at every other question
abbrev pub holder_of : Refusal → ℕ
holder_of Unsound = 0
holder_of NotStanding = 0
holder_of HasChild = 0
holder_of NoSuchCell = 0
holder_of UnlawfulPosting = 0
holder_of (InTheWay h) = h
holder_of (HeldByElder h) = h
holder_of NoFreeRow = 0
holder_of NoFreeLine = 0
holder_of NoNumberLeft = 0
