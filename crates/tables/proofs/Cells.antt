-- Values of cells, by index.
use Rattle.std.proofs.Common.{◌≡◌, ℕ, zero, suc, ◌≤◌, List, [], ◌∷◌, length, get_or, set, refl, ap, arith}
use Rattle.rules.specs.Cells.{change_at}

module _ {V : Type 0} (f : V → V) where
  -- a write to a cell
  pub change_at_set : (vs : List V) (i : ℕ) (d : V) → set vs i (f (get_or vs i d)) ≡ change_at f vs i
  change_at_set [] i d = refl
  change_at_set (v ∷ vs) zero d = refl
  change_at_set (v ∷ vs) (suc i) d = ap (λ l. v ∷ l) (change_at_set vs i d)

  pub change_at_past : (vs : List V) (i : ℕ) → length vs ≤ i → change_at f vs i ≡ vs
  change_at_past [] i h = refl
  change_at_past (v ∷ vs) zero h = absurd (omega arith)
  change_at_past (v ∷ vs) (suc i) h = ap (λ l. v ∷ l) (change_at_past vs i (omega arith))
