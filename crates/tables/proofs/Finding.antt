-- What the place of an entry's row says of the look-ups in rows.
use Rattle.std.proofs.Common.{inl, inr, arith, ◌∙◌, ◌≡◌, ℕ, ◌<◌, true, false, eqb, List, length, get_or, is_some, Some, None, Option, sym, refl, MatchOption}
use Rattle.std.proofs.lemmas.Bool.{cases_eq, eq-eqb, ne_eqb}
use Rattle.std.proofs.lemmas.List.Recursion.{or_at, or_from_places, found_at, found_nowhere}
use Rattle.rules.specs.declared.rows.Row.{Row}
use Rattle.rules.specs.Entries.{stands, parent_of}
use Rattle.tables.specs.Places.{no_row, HasItsRow, HasNoRow, unless_register}

module _ (rows : List Row) (e : ℕ) where
  pub stands_at : (n : ℕ) (d : Row) → n < length rows → (get_or rows n d).entry ≡ e → stands rows e ≡ true
  stands_at n d l i = or_at (λ rs. stands rs e) (λ r. eqb r.entry e) refl (λ r rs. refl) rows n d l (eq-eqb _ e i)

  stands_nowhere : HasNoRow rows e → stands rows e ≡ false
  stands_nowhere none = or_from_places (λ rs. stands rs e) (λ r. eqb r.entry e) refl (λ r rs. refl) rows no_row (λ k l. ne_eqb _ e (none k l))

  pub parent_at : (n : ℕ) (d : Row) → n < length rows → (get_or rows n d).entry ≡ e → ((k : ℕ) → k < n → (get_or rows k d).entry ≡ e → ⊥) → (get_or rows n d).parent ≡ parent_of rows e
  parent_at n d l i none = sym (found_at (λ rs. parent_of rs e) (λ r. eqb r.entry e) (λ r. r.parent) 0 refl (λ r rs. refl) rows n d l (λ k h. ne_eqb _ e (none k h)) (eq-eqb _ e i))

  pub parent_nowhere : HasNoRow rows e → 0 ≡ parent_of rows e
  parent_nowhere none = sym (found_nowhere (λ rs. parent_of rs e) (λ r. eqb r.entry e) (λ r. r.parent) 0 refl (λ r rs. refl) rows no_row (λ k l. ne_eqb _ e (none k l)))

  -- to have a place is to stand
  pub placed_stands : (o : Option ℕ) → MatchOption o (HasNoRow rows e) (HasItsRow rows e) → is_some o ≡ stands rows e
  placed_stands None none = sym (stands_nowhere none)
  placed_stands (Some n) its = sym (stands_at n no_row its.inside its.its_own)

-- a parent that is told of is an entry and the row's own; where none is told of, the row has 0
pub told_parent : (n q : ℕ) → Some q ≡ unless_register n → (q ≡ n) × (q ≡ 0 → ⊥)
told_parent n q h = elim (cases_eq n 0) [
  | inl z ↦ (let no : ◌≡◌ {A = ℕ} 0 1 = cc (h, z) in absurd (omega arith))
  | inr d ↦ (let is : q ≡ n = cc (h, ne_eqb n 0 d) in (is, λ z. d (sym is ∙ z)))
]

pub untold_parent : (n : ℕ) → None ≡ unless_register n → n ≡ 0
untold_parent n h = elim (cases_eq n 0) [
  | inl z ↦ z
  | inr d ↦ (let no : ◌≡◌ {A = ℕ} 0 1 = cc (h, ne_eqb n 0 d) in absurd (omega arith))
]
