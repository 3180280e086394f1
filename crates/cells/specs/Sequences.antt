-- Postings one after another, and what it means that the place of one among others makes no difference. Assumes nothing.
use Rattle.std.specs.Prelude.{◌≡◌, ℕ, true, if◌then◌else◌, List, [], ◌∷◌, ◌++◌, length, take, drop, fold, Some, None, Option}
use Rattle.std.specs.List.{AllWithin}
use Rattle.cells.specs.Kinds.{Rules}

module _ {V P O : Type 0} (R : Rules V P O) where
  -- one posting on a value: its answer, and the value that it leaves; an unlawful one gets none and leaves the value
  abbrev pub answer_to : V → P → Option O
  answer_to v p = if R.posting_lawful p then Some (R.answer v p) else None

  abbrev pub value_left : V → P → V
  value_left v p = if R.posting_lawful p then R.after v p else v

  -- the value after all of a list of postings, made in their order
  abbrev pub after_all : V → List P → V
  after_all = fold R.after

  -- the answers that they get
  abbrev pub answers_of : V → List P → List O
  answers_of v [] = []
  answers_of v (p ∷ ps) = R.answer v p ∷ answers_of (R.after v p) ps

  -- at every place of the list a lawful posting
  abbrev pub EachLawful : List P → Type 0
  EachLawful ps = AllWithin (λ p. R.posting_lawful p ≡ true) ps 0 (length ps)

  -- at every place of the list a posting that q crosses
  abbrev pub CrossesEach : P → List P → Type 0
  CrossesEach q ps = AllWithin (λ p. R.crosses q p ≡ true) ps 0 (length ps)

-- The posting q is made at the place i among ps: after the first i of them and before the rest, from the value v on.
pub record IndifferentAt {V P O : Type 0} (R : Rules V P O) (v : V) (q : P) (ps : List P) (i : ℕ) : Type 0 where
  -- q gets the answer that it gets before all of them
  pub own_answer : R.answer (after_all R v (take i ps)) q ≡ R.answer v q
  -- those after it get the answers that they get without it
  pub other_answers : answers_of R (R.after (after_all R v (take i ps)) q) (drop i ps) ≡ answers_of R (after_all R v (take i ps)) (drop i ps)
  -- the value at the end is the one that q leaves after all of them
  pub end_value : after_all R v (take i ps ++ (q ∷ drop i ps)) ≡ R.after (after_all R v ps) q

-- From every lawful value, and at every place among the postings, where all of them are lawful.
abbrev pub StandsAnywhere : {V P O : Type 0} → Rules V P O → P → List P → Type 0
StandsAnywhere {V} R q ps = R.posting_lawful q ≡ true → EachLawful R ps → (v : V) → R.value_lawful v ≡ true → (i : ℕ) → IndifferentAt R v q ps i
