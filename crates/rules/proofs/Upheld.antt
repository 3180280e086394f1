-- What ties the register to the book, and stays true at every call; and what the answers to a call's questions say.
use Rattle.std.proofs.Common.{◌≡◌, ℕ, ◌+◌, ◌<◌, Bool, true, false, List, [], ◌∷◌, map, Some, None, Err, Option, refl}
use Rattle.std.specs.List.{AllByRecursion as All}
use Rattle.cells.specs.Kinds.{Rules}
use Rattle.rules.specs.declared.calls.Call.{Call}
use Rattle.rules.specs.declared.calls.Call.TheVariants.{Begin}
use Rattle.rules.specs.declared.refusals.Refusal.{Refusal}
use Rattle.rules.specs.Entries.{stands}
use Rattle.rules.specs.States.{State}
use Rattle.rules.specs.Calls.{Outcome, ask, ask_holder, first_no, turned_away, at_value, unless_refused}
use Rattle.rules.specs.Books.{Copied, lines_of, Book, rows_of, copy_of, write}
use Rattle.rules.specs.FairCopy.{post_line, GetsItsAnswer}
use Rattle.rules.proofs.Holdings.{Held}
use Rattle.rules.proofs.Standing.{Core}
use Rattle.rules.proofs.Stores.{LawfulValues, LawfulLine, Crosses, bare}

-- the lines of an entry's copy
abbrev pub lines_at : {P O : Type 0} → Book P O → ℕ → List (Copied P O)
lines_at b e = lines_of (copy_of b.pages e)

pub record Upheld {V P O : Type 0} (R : Rules V P O) (first : List V) (s : State V P) (b : Book P O) : Type 0 where
  -- the standing lines with their answers
  pub table : List (Held (Copied P O))
  pub lines_are : s.lines ≡ map bare table
  pub rows_are : rows_of b.pages ≡ s.rows
  pub numbered : (e : ℕ) → stands s.rows e ≡ true → e < s.begun + 1
  pub core : Core (post_line R) (GetsItsAnswer R) (LawfulValues R) (LawfulLine R) (Crosses R) first s.rows table (lines_at b) s.values (lines_of b.fair)

-- ---- questions

pub ask_yes : (b : Bool) (refusal : Refusal) → ask b refusal ≡ None → b ≡ true
ask_yes true refusal h = refl
ask_yes false refusal h = cc

pub ask_holder_yes : (o : Option ℕ) (refusal : ℕ → Refusal) → ask_holder o refusal ≡ None → o ≡ None
ask_holder_yes None refusal h = refl
ask_holder_yes (Some holder) refusal h = cc

abbrev pub AllYes : List (Option Refusal) → Type 0
AllYes qs = All (λ q. q ≡ None) qs

-- a call is turned away and all is as before, or every question was answered yes
pub asked : {V P O : Type 0} (R : Rules V P O) (Z : Outcome V P O → Type 0) (s : State V P) (outcome : Outcome V P O) → ((refusal : Refusal) → Z (turned_away s refusal)) → (qs : List (Option Refusal)) → (AllYes qs → Z outcome) → Z (unless_refused R s (first_no qs) outcome)
asked R Z s outcome away [] f = f tt
asked R Z s outcome away (None ∷ qs) f = asked R Z s outcome away qs (λ ys. f (refl, ys))
asked R Z s outcome away (Some refusal ∷ qs) f = away refusal

pub valued : {V P O : Type 0} (Z : Outcome V P O → Type 0) (s : State V P) (o : Option V) (outcome : V → Outcome V P O) → ((refusal : Refusal) → Z (turned_away s refusal)) → ((v : V) → o ≡ Some v → Z (outcome v)) → Z (at_value s o outcome)
valued Z s None outcome away f = away _
valued Z s (Some v) outcome away f = f v refl

-- for a call that is turned away the book writes nothing
pub unwritten : (V : Type 0) {P O : Type 0} (b : Book P O) (call : Call P) (refusal : Refusal) → write {V = V} b call (Err refusal) ≡ b
unwritten V b (Begin q) r = refl
unwritten V b call r = refl
