-- What stays of rows in order where each is asked for its parent among those that stay before it.
use Rattle.std.proofs.Common.{◌≡◌, ℕ, ◌<◌, Bool, true, not, ◌&&◌, ◌||◌, eqb, List, [], ◌∷◌, ◌++◌, length, get_or, sym, ap, ◌∙◌, subst, inl, inr, arith}
use mathlib.Core.Bool.{and-true}
use Rattle.std.proofs.lemmas.List.{length-append, get_or_append_left}
use Rattle.std.proofs.Math.Seq.{get_or-append_seam}
use Rattle.std.proofs.lemmas.Bool.{cases_eq, cases_lt, ne_eqb, eq-eqb}
use Rattle.rules.specs.declared.rows.Row.{Row}
use Rattle.rules.specs.Entries.{stands, parent_of, outside}
use Rattle.rules.proofs.Kinship.{rest, is_outside, stands_left}
use Rattle.tables.specs.Order.{are_in_order}
use Rattle.tables.specs.Closing.{StayInTurn}
use Rattle.tables.proofs.Closing.{sifted}
use Rattle.tables.proofs.Finding.{stands_at}
use Rattle.tables.proofs.InOrder.{Rising, rising, grown, own_parent, of_standing, parent_below, none_at_top, by_parent}

-- does a row stay, where these have stayed before it?
abbrev pub stays_after : ℕ → List Row → Row → Bool
stays_after e kept r = not (eqb r.entry e) && (eqb r.parent 0 || stands kept r.parent)

module _ (rows front : List Row) (r : Row) (more : List Row) (is : rows ≡ front ++ r ∷ more) where
  here : (d : Row) → get_or rows (length front) d ≡ r
  here d = ap (λ l. get_or l (length front) d) is ∙ get_or-append_seam front r more d

  -- who stands with a lower number than this one's stands in front of it
  stands_before : Rising rows → (q : ℕ) → stands rows q ≡ true → q < r.entry → stands front q ≡ true
  stands_before rises = of_standing (λ q. q < r.entry → stands front q ≡ true) rows (λ k d l less. elim (cases_lt k (length front)) [
    | inl before ↦ stands_at front (get_or rows k d).entry k d before (sym (ap (λ l. (get_or l k d).entry) is ∙ ap (λ x. x.entry) (get_or_append_left front (r ∷ more) d k before)))
    | inr past ↦ absurd (elim (cases_eq k (length front)) [
      | inl same ↦ omega (arith, ap (λ j. (get_or rows j d).entry) same, ap (λ x. x.entry) (here d))
      | inr further ↦ omega (arith, rises (length front) k d (omega arith) l, ap (λ x. x.entry) (here d))
    ])
  ])

module _ (rows : List Row) (order : are_in_order rows ≡ true) (e : ℕ) where
  module _ (front : List Row) (r : Row) (more : List Row) (is : rows ≡ front ++ r ∷ more) where
    abbrev stayed : List Row
    stayed = rest (is_outside rows e) front

    its_own : parent_of rows r.entry ≡ r.parent
    its_own = subst (λ x. parent_of rows x.entry ≡ x.parent) (here rows front r more is r) (own_parent rows (rising rows order) (length front) r (omega (arith, ap length is, length-append front (r ∷ more))))

    -- a parent that is not 0 stayed just where it is outside e
    parent_stayed : (parent_of rows r.entry ≡ 0 → ⊥) → stands stayed r.parent ≡ is_outside rows e r.parent
    parent_stayed n =
        let stood : stands rows (parent_of rows r.entry) ≡ true = elim ((grown rows order).rooted r.entry) [ inl z ↦ absurd (n z) | inr s ↦ s ] in
        let before : stands front r.parent ≡ true = subst (λ q. stands front q ≡ true) its_own (stands_before rows front r more is (rising rows order) (parent_of rows r.entry) stood (parent_below rows order r.entry n)) in
        stands_left (is_outside rows e) front r.parent ∙ ap (λ b. is_outside rows e r.parent && b) before ∙ and-true (is_outside rows e r.parent)

    -- of the rows in front of it those stay that are outside e: then it stays just where it is outside e itself
    pub as_outside : stays_after e stayed r ≡ is_outside rows e r.entry
    as_outside = elim (cases_eq r.entry e) [
      | inl own ↦ simp (eq-eqb r.entry e own, eq-eqb e r.entry (sym own))
      | inr other ↦ simp (ne_eqb r.entry e other, ne_eqb e r.entry (λ i. other (sym i))) (elim (cases_eq r.parent 0) [
        | inl z ↦ simp (eq-eqb r.parent 0 z, sym (none_at_top rows order r.entry e (its_own ∙ z)))
        | inr n ↦ simp (ne_eqb r.parent 0 n, by_parent rows order r.entry e r.parent (sym its_own) n) (parent_stayed (λ z. n (sym its_own ∙ z)))
      ])
    ]

  pub stay_outside : (Answers : List Row → Row → Bool → Type 0) → ((kept : List Row) (r : Row) (b : Bool) → Answers kept r b → b ≡ stays_after e kept r) → (all : List Row) → StayInTurn Answers [] rows all → all ≡ outside e rows
  stay_outside Answers says = sifted Answers (λ r. is_outside rows e r.entry) rows (λ front r more b is h. says (rest (is_outside rows e) front) r b h ∙ as_outside front r more is)
