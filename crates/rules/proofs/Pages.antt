-- The pages of a book: whose they are and which copy each has, once one is added, written on or taken out.
use Rattle.std.proofs.Common.{◌≡◌, ℕ, Bool, true, false, cond, ◌||◌, eqb, List, [], ◌∷◌, ◌++◌, filter, sym, refl, ap, ◌∙◌}
use Rattle.std.proofs.lemmas.Bool.{cond-true, cond-false, or_parts, eqb-true, ne_eqb, cond_both}
use Rattle.std.proofs.lemmas.List.{map_push}
use Rattle.std.proofs.lemmas.Simd.{map-map}
use Rattle.rules.specs.declared.rows.Row.{Row}
use Rattle.rules.specs.Entries.{stands}
use Rattle.rules.specs.Books.{Copy, empty, Page, rows_of, copy_of, write_on}
use Rattle.rules.proofs.Pairs.{filter_map_swap}
use Rattle.rules.proofs.Kinship.{found_left, rest}

module _ {P O : Type 0} where
  abbrev row_of : Page P O → Row
  row_of g = record { entry = g.entry; parent = g.parent }

  pub copy_none : (pages : List (Page P O)) (e : ℕ) → stands (rows_of pages) e ≡ false → copy_of pages e ≡ empty
  copy_none [] e d = refl
  copy_none (g ∷ pages) e d = let ds = or_parts (eqb g.entry e) (stands (rows_of pages) e) d in cond-false _ _ _ ds.0 ∙ copy_none pages e ds.1

  -- an empty page is added
  pub rows_pushed : (pages : List (Page P O)) (n q : ℕ) → rows_of (pages ++ (record { entry = n; parent = q; copy = empty } ∷ [])) ≡ rows_of pages ++ (record { entry = n; parent = q } ∷ [])
  rows_pushed pages n q = map_push row_of pages (record { entry = n; parent = q; copy = empty })

  pub copy_pushed : (pages : List (Page P O)) (n q e : ℕ) → copy_of (pages ++ (record { entry = n; parent = q; copy = empty } ∷ [])) e ≡ copy_of pages e
  copy_pushed [] n q e = cond_both (eqb n e) empty empty (λ copy. copy ≡ empty) (λ t. refl) (λ f. refl)
  copy_pushed (g ∷ pages) n q e = ap (cond (eqb g.entry e) g.copy) (copy_pushed pages n q e)

  -- a page is written on
  abbrev written : ℕ → (Copy P O → Copy P O) → Page P O → Page P O
  written e more g = record { entry = g.entry; parent = g.parent; copy = cond (eqb g.entry e) (more g.copy) g.copy }

  pub rows_written : (e : ℕ) (more : Copy P O → Copy P O) (pages : List (Page P O)) → rows_of (write_on e more pages) ≡ rows_of pages
  rows_written e more pages = map-map row_of (written e more) pages

  pub copy_written : (e : ℕ) (more : Copy P O → Copy P O) (pages : List (Page P O)) → stands (rows_of pages) e ≡ true → copy_of (write_on e more pages) e ≡ more (copy_of pages e)
  copy_written e more [] s = cc
  copy_written e more (g ∷ pages) s =
      elim (eqb g.entry e) as (λ b. (b || stands (rows_of pages) e) ≡ true → cond b (cond b (more g.copy) g.copy) (copy_of (write_on e more pages) e) ≡ more (cond b g.copy (copy_of pages e)))
      [ true ↦ λ t. refl | false ↦ λ t. copy_written e more pages t ] s

  pub copy_unwritten : (e : ℕ) (more : Copy P O → Copy P O) (pages : List (Page P O)) (x : ℕ) → (x ≡ e → ⊥) → copy_of (write_on e more pages) x ≡ copy_of pages x
  copy_unwritten e more [] x ne = refl
  copy_unwritten e more (g ∷ pages) x ne =
      cond_both (eqb g.entry x) (cond (eqb g.entry e) (more g.copy) g.copy) (copy_of (write_on e more pages) x) (λ c. c ≡ copy_of (g ∷ pages) x)
      (λ t. cond-false _ _ _ (ne_eqb g.entry e (λ j. ne (sym (eqb-true g.entry x t) ∙ j))) ∙ sym (cond-true _ _ _ t))
      (λ f. copy_unwritten e more pages x ne ∙ sym (cond-false _ _ _ f))

  -- only the pages of entries that pass the test k are left
  module _ (k : ℕ → Bool) where
    abbrev pub left_pages : List (Page P O) → List (Page P O)
    left_pages pages = filter (λ g. k g.entry) pages

    pub rows_left : (pages : List (Page P O)) → rows_of (left_pages pages) ≡ rest k (rows_of pages)
    rows_left pages = sym (filter_map_swap row_of (λ r. k r.entry) pages)

    pub copy_left : (pages : List (Page P O)) (e : ℕ) → k e ≡ true → copy_of (left_pages pages) e ≡ copy_of pages e
    copy_left pages e h = found_left (λ gs. copy_of gs e) (λ g. eqb g.entry e) (λ g. g.copy) (λ g gs. refl) (λ g. k g.entry) (λ g t. ap k (eqb-true g.entry e t) ∙ h) pages
