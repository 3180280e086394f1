-- Searches through the standing lines.
use Rattle.std.specs.Prelude.{position}
use Rattle.std.specs.List.{position_or_len}
use Rattle.std.proofs.lemmas.List.Sums.{fails_before_first}
use Rattle.std.proofs.lemmas.List.Quantifiers.{position-Some}
use Rattle.std.proofs.lemmas.List.Recursion.{found_at, found_nowhere}
use Rattle.std.proofs.Common.{inl, inr, refl, arith, ◌≡◌, ℕ, Bool, List, [], ◌∷◌, length, get_or, drop, Some, None, sym}
use Rattle.std.proofs.lemmas.Bool.{cases_lt, lt-ltb}
use Rattle.cells.specs.Kinds.{Rules}
use Rattle.rules.specs.declared.lines.Line.{Line}
use Rattle.rules.specs.declared.rows.Row.{Row}
use Rattle.rules.specs.Calls.{earliest_holder}
use Rattle.rules.specs.Calls.{changed_by_own, stops_posting_in}

-- ---- the earliest line that passes a test, by its place
module _ {P : Type 0} (test : Line P → Bool) where
  pub at_place : (ls : List (Line P)) (i : ℕ) (d : Line P) → Some i ≡ position test ls → Some (get_or ls i d).holder ≡ earliest_holder test ls
  at_place ls i d is =
      let at = position-Some test ls i d (sym is) in
      sym (found_at (earliest_holder test) test (λ x. Some x.holder) None refl (λ x xs. refl) ls i d at.0 at.2 at.1)

  pub at_no_place : (ls : List (Line P)) → None ≡ position test ls → None ≡ earliest_holder test ls
  at_no_place [] is = refl
  at_no_place (x ∷ ls) is = elim (cases_lt (position_or_len test (x ∷ ls)) (length (x ∷ ls))) [
    | inl l ↦ cc (is, lt-ltb _ _ l)
    | inr l ↦ sym (found_nowhere (earliest_holder test) test (λ y. Some y.holder) None refl (λ y ys. refl) (x ∷ ls) x (λ k h. fails_before_first test (x ∷ ls) k x (omega arith)))
  ]

-- ---- the way of a posting

module _ {V P O : Type 0} (R : Rules V P O) (rows : List Row) (e c : ℕ) (p : P) where
  -- from the line i on, v comes to what the first value comes to on the whole way, and the same line is the first in the way
  abbrev pub OnTheWay : V → List (Line P) → V → ℕ → Type 0
  OnTheWay start ls v i =
      (changed_by_own R rows e c v (drop i ls) ≡ changed_by_own R rows e c start ls)
      × (earliest_holder (stops_posting_in R rows e c p) (drop i ls) ≡ earliest_holder (stops_posting_in R rows e c p) ls)
