-- The standing entries: which one stands under which, and which is an elder of which. Assumes nothing.
use Rattle.std.specs.Prelude.{◌≡◌, ℕ, zero, suc, Bool, false, if◌then◌else◌, not, ◌||◌, List, [], ◌∷◌, filter, ◌==◌, ◌≢◌}
use Rattle.std.specs.List.{list_all}
use Rattle.rules.specs.declared.rows.Row.{Row}

-- does an entry stand?
abbrev pub stands : List Row → ℕ → Bool
stands [] e = false
stands (r ∷ rows) e = r.entry == e || stands rows e

-- has it no standing child?
abbrev pub childless : List Row → ℕ → Bool
childless rows e = list_all (λ r. not (r.parent == e)) rows

-- its parent, which is 0 (the register itself) for a top entry; also 0 where it does not stand
abbrev pub parent_of : List Row → ℕ → ℕ
parent_of [] e = 0
parent_of (r ∷ rows) e = if r.entry == e then r.parent else parent_of rows e

-- x is an elder of e: an elder of an entry is its parent, where that is not 0, or an elder of its parent
pub data Elder (rows : List Row) (x : ℕ) : ℕ → Type 0 where
  its_parent : {e : ℕ} → parent_of rows e ≡ x → (x ≢ 0) → Elder rows x e
  of_its_parent : {e : ℕ} → Elder rows x (parent_of rows e) → Elder rows x e

-- the same as a list, the parent first and the eldest last, as far as n steps up from e lead
abbrev pub up_from : ℕ → List Row → ℕ → List ℕ
up_from zero rows e = []
up_from (suc n) rows e = if parent_of rows e == 0 then [] else parent_of rows e ∷ up_from n rows (parent_of rows e)

-- a parent's number is below its child's, so that e steps lead up from e to its eldest
abbrev pub elders : List Row → ℕ → List ℕ
elders rows e = up_from e rows e

abbrev pub is_among : List ℕ → ℕ → Bool
is_among [] x = false
is_among (y ∷ ys) x = x == y || is_among ys x

-- is x the entry e itself or one of its elders?
abbrev pub is_own_or_elder : List Row → ℕ → ℕ → Bool
is_own_or_elder rows e x = is_among (e ∷ elders rows e) x

-- the rows that are left once an entry has ended
abbrev pub without : ℕ → List Row → List Row
without e rows = filter (λ r. not (r.entry == e)) rows

-- .. and once it has ended with every entry that has it as an elder
abbrev pub outside : ℕ → List Row → List Row
outside e rows = filter (λ r. not (is_own_or_elder rows r.entry e)) rows
