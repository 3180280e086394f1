-- The values of cells, which are numbered from 0, and postings on them. Assumes nothing.
use Rattle.std.specs.Prelude.{ℕ, zero, suc, List, [], ◌∷◌, Some, None, Option}
use Rattle.cells.specs.Kinds.{Rules}

-- the value of a cell; there is none past the last one
abbrev pub value_at : {V : Type 0} → List V → ℕ → Option V
value_at [] c = None
value_at (v ∷ vs) zero = Some v
value_at (v ∷ vs) (suc c) = value_at vs c

-- what a function makes of a value, where there is one
abbrev pub of_value : {V W : Type 0} → (V → W) → Option V → Option W
of_value f None = None
of_value f (Some v) = Some (f v)

-- the values after a change of one cell
abbrev pub change_at : {V : Type 0} → (V → V) → List V → ℕ → List V
change_at f [] c = []
change_at f (v ∷ vs) zero = f v ∷ vs
change_at f (v ∷ vs) (suc c) = v ∷ change_at f vs c

module _ {V P O : Type 0} (R : Rules V P O) where
  -- a posting is answered at its cell's value
  abbrev pub answer_at : List V → ℕ → P → Option O
  answer_at vs c p = of_value (λ v. R.answer v p) (value_at vs c)

  -- .. and the value after it is stored
  abbrev pub store : List V → ℕ → P → List V
  store vs c p = change_at (λ v. R.after v p) vs c
