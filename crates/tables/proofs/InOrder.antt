-- Rows in order: what it says of look-ups and elders, and that begins and ends keep it.
use Rattle.std.proofs.Common.{◌≡◌, ℕ, suc, ◌+◌, ◌<◌, ◌≤◌, Bool, true, false, ◌&&◌, ◌||◌, eqb, ltb, leb, ◌⊎◌, List, [], ◌∷◌, ◌++◌, get_or, Decides, filter, sym, refl, ap, ◌∙◌, subst, inl, inr, arith}
use Rattle.std.specs.List.{All, AllPairs}
use Rattle.std.proofs.lemmas.List.Elements.{All-nil, All-cons, All-head, All-tail, All-weaker, All-push, All-filter}
use Rattle.std.proofs.lemmas.List.Kept.{AllPairs-cons, AllPairs-filter}
use Rattle.std.proofs.lemmas.List.Quantifiers.{all_pairs_push}
use Rattle.std.proofs.lemmas.Bool.{or_cases, leb-true, le-leb, eqb-true, ne_eqb, cases_eq, false_from_ne_true}
use Rattle.std.proofs.lemmas.Bool.Decides.{Decides-eqb, Decides-ltb, Decides-and, Decides-or, Decides-like, Decides-at, Decides-by_and}
use Rattle.rules.specs.declared.rows.Row.{Row}
use Rattle.rules.specs.Entries.{stands, childless, parent_of, Elder, elders, is_among, without, outside}
use Rattle.rules.proofs.Kinship.{Grown, Closed, rest, parent_own, parent_other, stands_or_top, parent_falls, elders_top, elders_inner, elders_are, among_elder, elder_below, grown_rest, others, closed_others, is_outside, closed_outside, grown_joined}
use Rattle.tables.specs.Order.{rising_from, placed_in, are_in_order, numbered_to}
use Rattle.tables.proofs.Finding.{stands_at, parent_at}

-- ---- numbers up to n

abbrev pub UpTo : ℕ → Row → Type 0
UpTo n r = r.entry ≤ n

pub numbered_means : (n : ℕ) (rows : List Row) → Decides (numbered_to n rows) (All (UpTo n) rows)
numbered_means n rows = Decides-by_and (λ r. leb r.entry n) (UpTo n) (numbered_to n) (λ r. (leb-true r.entry n, le-leb r.entry n)) refl (λ r rs. refl) rows

pub numbered_push : (n : ℕ) (rows : List Row) (r : Row) → numbered_to n rows ≡ true → r.entry ≡ n + 1 → numbered_to (n + 1) (rows ++ (r ∷ [])) ≡ true
numbered_push n rows r h i = (numbered_means (n + 1) (rows ++ (r ∷ []))).1 (All-push (UpTo (n + 1)) rows r (All-weaker (UpTo n) (UpTo (n + 1)) (λ x m. omega arith) rows ((numbered_means n rows).0 h)) (omega arith))

pub numbered_kept : (p : Row → Bool) (n : ℕ) (rows : List Row) → numbered_to n rows ≡ true → numbered_to n (filter p rows) ≡ true
numbered_kept p n rows h = (numbered_means n (filter p rows)).1 (All-filter p (UpTo n) rows ((numbered_means n rows).0 h))

-- ---- what the tests of order mean

abbrev Precedes : Row → Row → Type 0
Precedes r x = r.entry < x.entry

-- the numbers rise from row to row
abbrev pub Rising : List Row → Type 0
Rising = AllPairs Precedes

rising_means : (n : ℕ) (rows : List Row) → Decides (rising_from n rows) (All (λ r. n < r.entry) rows × Rising rows)
rising_means n [] = (λ h. (All-nil (λ r. n < r.entry), λ i j d l k. absurd (omega arith)), λ h. refl)
rising_means n (r ∷ rows) =
    Decides-like _
    (λ h. (All-cons (λ x. n < x.entry) r rows h.0 (All-weaker (Precedes r) (λ x. n < x.entry) (λ x k. omega (arith, h.0)) rows h.1.0), AllPairs-cons Precedes r rows h.1.0 h.1.1))
    (λ h. (h.0 0 r (omega arith), ((λ k d l. h.1 0 (suc k) d (omega arith) (omega arith)), λ i j d l k. h.1 (suc i) (suc j) d (omega arith) (omega arith))))
    (Decides-and (ltb n r.entry) (rising_from r.entry rows) (Decides-ltb n r.entry) (rising_means r.entry rows))

-- an entry's parent is 0, or was begun before it and stands
abbrev Rooted : List Row → ℕ → ℕ → Type 0
Rooted all e q = (q ≡ 0) ⊎ ((q < e) × (stands all q ≡ true))

placed_means : (all rows : List Row) → Decides (placed_in all rows) (All (λ r. Rooted all r.entry r.parent) rows)
placed_means all rows =
    Decides-by_and (λ r. eqb r.parent 0 || (ltb r.parent r.entry && stands all r.parent)) (λ r. Rooted all r.entry r.parent) (placed_in all)
    (λ r. Decides-or _ _ (Decides-eqb r.parent 0) (Decides-and _ _ (Decides-ltb r.parent r.entry) (λ s. s, λ s. s))) refl (λ r rs. refl) rows

-- what holds of each row's entry and parent holds of who stands and its parent ..
looked_up : (P : ℕ → ℕ → Type 0) (rows : List Row) → All (λ r. P r.entry r.parent) rows → (e : ℕ) → stands rows e ≡ true → P e (parent_of rows e)
looked_up P [] each e s = cc
looked_up P (r ∷ rows) each e s = elim (cases_eq r.entry e) [
  | inl i ↦ subst (P e) (sym (parent_own r rows e i)) (subst (λ x. P x r.parent) i (All-head (λ x. P x.entry x.parent) r rows each))
  | inr d ↦ subst (P e) (sym (parent_other r rows e d)) (looked_up P rows (All-tail (λ x. P x.entry x.parent) r rows each) e (elim (or_cases (eqb r.entry e) (stands rows e) s) [ inl i ↦ absurd (d (eqb-true r.entry e i)) | inr t ↦ t ]))
]

-- .. and what holds of each row's entry alone
pub of_standing : (P : ℕ → Type 0) (rows : List Row) → All (λ r. P r.entry) rows → (e : ℕ) → stands rows e ≡ true → P e
of_standing P = looked_up (λ e q. P e)

module _ (rows : List Row) (rises : Rising rows) where
  -- each row is the one that a look-up of its entry finds
  pub own_parent : All (λ r. parent_of rows r.entry ≡ r.parent) rows
  own_parent i d l = sym (parent_at rows (get_or rows i d).entry i d l refl (λ k h is. (let m : (get_or rows k d).entry < (get_or rows i d).entry = rises k i d h l in omega arith)))

  grown_from_rows : All (λ r. 0 < r.entry) rows → All (λ r. Rooted rows r.entry r.parent) rows → Grown rows
  grown_from_rows positive rooted =
      let above_zero : (e : ℕ) → stands rows e ≡ true → 0 < e = of_standing (λ e. 0 < e) rows positive in
      let cases : (e : ℕ) → stands rows e ≡ true → Rooted rows e (parent_of rows e) = looked_up (Rooted rows) rows rooted in
      record {
        zero_free = λ s. omega (arith, above_zero 0 s);
        falls = λ e s. elim (cases e s) [ inl z ↦ omega (arith, above_zero e s) | inr k ↦ k.0 ];
        rooted = λ e. elim (stands_or_top rows e) [ inl s ↦ elim (cases e s) [ inl z ↦ inl z | inr k ↦ inr k.1 ] | inr z ↦ inl z ];
      }

  module _ (g : Grown rows) where
    each_stands : All (λ r. stands rows r.entry ≡ true) rows
    each_stands i d l = stands_at rows (get_or rows i d).entry i d l refl

    each_positive : All (λ r. 0 < r.entry) rows
    each_positive i d l = elim (cases_eq (get_or rows i d).entry 0) [ inl z ↦ absurd (g.zero_free (ap (stands rows) (sym z) ∙ each_stands i d l)) | inr n ↦ omega arith ]

    each_rooted : All (λ r. Rooted rows r.entry r.parent) rows
    each_rooted i d l =
        let e = (get_or rows i d).entry in
        subst (Rooted rows e) (own_parent i d l) (elim (g.rooted e) [ inl z ↦ inl z | inr s ↦ inr (g.falls e (each_stands i d l), s) ])

-- rows in order rise, and are as begins make them
in_order_means : (rows : List Row) → Decides (are_in_order rows) (Rising rows × Grown rows)
in_order_means rows =
    Decides-like _
    (λ h. (h.0.1, grown_from_rows rows h.0.1 h.0.0 h.1))
    (λ h. ((each_positive rows h.0 h.1, h.0), each_rooted rows h.0 h.1))
    (Decides-and (rising_from 0 rows) (placed_in rows rows) (rising_means 0 rows) (placed_means rows rows))

-- ---- rows in order

module _ (rows : List Row) (o : are_in_order rows ≡ true) where
  pub rising : Rising rows
  rising = ((in_order_means rows).0 o).0

  pub grown : Grown rows
  grown = ((in_order_means rows).0 o).1

  -- an entry's parent, where that is not 0, has a lower number
  pub parent_below : (e : ℕ) → (parent_of rows e ≡ 0 → ⊥) → parent_of rows e < e
  parent_below e d = elim (parent_falls rows grown e) [ inl z ↦ absurd (d z) | inr f ↦ f ]

  -- ---- ends

  in_order_rest : (k : ℕ → Bool) → Closed k rows → are_in_order (rest k rows) ≡ true
  in_order_rest k closed = (in_order_means (rest k rows)).1 (AllPairs-filter Precedes (λ r. k r.entry) rows rising, grown_rest k rows grown closed)

  pub in_order_without : (e : ℕ) → childless rows e ≡ true → are_in_order (without e rows) ≡ true
  in_order_without e ch = in_order_rest (others e) (closed_others rows grown e ch)

  pub in_order_outside : (e : ℕ) → are_in_order (outside e rows) ≡ true
  in_order_outside e = in_order_rest (is_outside rows e) (closed_outside rows grown e)

  -- ---- a begin

  pub in_order_push : (n : ℕ) (r : Row) → numbered_to n rows ≡ true → r.entry ≡ n + 1 → (eqb r.parent 0 || stands rows r.parent) ≡ true → are_in_order (rows ++ (r ∷ [])) ≡ true
  in_order_push n r t i q =
      let numbered : All (λ x. x.entry < r.entry) rows = All-weaker (UpTo n) (λ x. x.entry < r.entry) (λ x m. omega arith) rows ((numbered_means n rows).0 t) in
      (in_order_means (rows ++ (r ∷ []))).1 (
        all_pairs_push Precedes rows r rising numbered,
        grown_joined rows r.entry r.parent (of_standing (λ e. e < r.entry) rows numbered) grown (omega arith) (elim (or_cases (eqb r.parent 0) (stands rows r.parent) q) [ inl z ↦ inl (eqb-true r.parent 0 z) | inr s ↦ inr s ]),
      )

-- ---- the elder test, step by step

module _ (rows : List Row) (o : are_in_order rows ≡ true) (e x : ℕ) where
  -- what the list of elders says, the relation says
  pub told : (b : Bool) → b ≡ is_among (elders rows e) x → Decides b (Elder rows x e)
  told b i = Decides-at b _ i (elders_are rows (grown rows o) e x)

  pub none_from_above : e ≤ x → false ≡ is_among (elders rows e) x
  none_from_above l = sym (false_from_ne_true (is_among (elders rows e) x) (λ h. (let k : x < e = elder_below rows (grown rows o) (among_elder rows (grown rows o) e x h) in omega arith)))

  pub none_at_top : parent_of rows e ≡ 0 → false ≡ is_among (elders rows e) x
  none_at_top z = sym (ap (λ es. is_among es x) (elders_top rows e z))

  module _ (q : ℕ) (is : q ≡ parent_of rows e) (d : q ≡ 0 → ⊥) where
    pub by_parent : is_among (elders rows e) x ≡ (eqb x q || is_among (elders rows q) x)
    by_parent = ap (λ es. is_among es x) (elders_inner rows (grown rows o) e (λ z. d (is ∙ z))) ∙ ap (λ p. eqb x p || is_among (elders rows p) x) (sym is)

    pub up_to_parent : (q ≡ x → ⊥) → is_among (elders rows q) x ≡ is_among (elders rows e) x
    up_to_parent n = sym (by_parent ∙ ap (λ b. b || is_among (elders rows q) x) (ne_eqb x q (λ i. n (sym i))))
