-- What a kind of cell gives, and the law that it must show. Assumes nothing.
use Rattle.std.specs.Prelude.{◌≡◌, Bool, true}

-- Over a kind's values, postings and answers: which values and postings are lawful, the value after a posting, its answer
-- at the value that it finds, and whether two postings cross (commute).
pub record Rules (V P O : Type 0) : Type 0 where
  pub value_lawful : V → Bool
  pub posting_lawful : P → Bool
  pub after : V → P → V
  pub answer : V → P → O
  pub crosses : P → P → Bool

pub record CrossingLaw {V P O : Type 0} (R : Rules V P O) : Type 0 where
  -- a lawful posting takes a lawful value to a lawful value
  pub stays_lawful : (v : V) (p : P) → R.value_lawful v ≡ true → R.posting_lawful p ≡ true → R.value_lawful (R.after v p) ≡ true
  -- if p crosses q, then q crosses p
  pub both_ways : (p q : P) → R.crosses p q ≡ true → R.crosses q p ≡ true
  -- where two lawful postings cross, both orders end in one value
  pub one_end : (v : V) (p q : P) → R.value_lawful v ≡ true → R.posting_lawful p ≡ true → R.posting_lawful q ≡ true → R.crosses p q ≡ true → R.after (R.after v p) q ≡ R.after (R.after v q) p
  -- .. and p gets the same answer before q and after it; so does q, since q crosses p
  pub same_answer : (v : V) (p q : P) → R.value_lawful v ≡ true → R.posting_lawful p ≡ true → R.posting_lawful q ≡ true → R.crosses p q ≡ true → R.answer v p ≡ R.answer (R.after v q) p
