-- Who is whose elder, by what is looked up of the standing entries: the order of their rows makes no difference.
use Rattle.std.proofs.Common.{◌≡◌, ℕ, zero, suc, ◌<◌, ◌≤◌, Bool, true, false, cond, not, ◌&&◌, ◌||◌, eqb, ◌⊎◌, List, [], ◌∷◌, ◌++◌, Decides, filter, sym, refl, ap, ◌∙◌, subst, inl, inr, arith}
use Rattle.std.specs.List.{list_any}
use Rattle.std.proofs.lemmas.List.Recursion.{same_from_clauses, or_push, found_push_other}
use Rattle.std.proofs.lemmas.Map.Views.{any-filter_same}
use Rattle.std.proofs.lemmas.Bool.{cond_both, cond-true, cond-false, eqb-true, eqb-false, eq-eqb, ne_eqb, or_cases, or_left, or_right, cases_Bool, cases_eq, and_parts, and_from, not-true, not_from_false, false_from_ne_true, both_ways}
use Rattle.rules.specs.declared.rows.Row.{Row}
use Rattle.rules.specs.Entries.{stands, childless, parent_of, Elder, its_parent, of_its_parent, up_from, elders, is_among, is_own_or_elder}
use Rattle.rules.proofs.Numbers.{among_self, among_more, among_cases, all_from_among, Falls}

-- ---- look-ups in rows

stands_any : (rows : List Row) (e : ℕ) → stands rows e ≡ list_any (λ r. eqb r.entry e) rows
stands_any rows e = same_from_clauses (λ rs. stands rs e) (list_any (λ r. eqb r.entry e)) (λ r b. eqb r.entry e || b) refl (λ r rs. refl) (λ r rs. refl) rows

pub stands_own : (r : Row) (rows : List Row) (e : ℕ) → r.entry ≡ e → stands (r ∷ rows) e ≡ true
stands_own r rows e s = or_left (eqb r.entry e) (stands rows e) (eq-eqb r.entry e s)

pub stands_more : (r : Row) (rows : List Row) (e : ℕ) → stands rows e ≡ true → stands (r ∷ rows) e ≡ true
stands_more r rows e s = or_right (eqb r.entry e) (stands rows e) s

pub parent_own : (r : Row) (rows : List Row) (e : ℕ) → r.entry ≡ e → parent_of (r ∷ rows) e ≡ r.parent
parent_own r rows e h = cond-true _ _ _ (eq-eqb r.entry e h)

pub parent_other : (r : Row) (rows : List Row) (e : ℕ) → (r.entry ≡ e → ⊥) → parent_of (r ∷ rows) e ≡ parent_of rows e
parent_other r rows e h = cond-false _ _ _ (ne_eqb r.entry e h)

-- who does not stand has no parent
pub parent_none : (rows : List Row) (e : ℕ) → (stands rows e ≡ true → ⊥) → parent_of rows e ≡ 0
parent_none [] e d = refl
parent_none (r ∷ rows) e d = parent_other r rows e (λ i. d (stands_own r rows e i)) ∙ parent_none rows e (λ s. d (stands_more r rows e s))

pub stands_or_top : (rows : List Row) (e : ℕ) → (stands rows e ≡ true) ⊎ (parent_of rows e ≡ 0)
stands_or_top rows e = elim (cases_Bool (stands rows e)) [ inl s ↦ inl s | inr s ↦ inr (parent_none rows e (both_ways _ s)) ]

-- a look-up among what passes the test k, of something that passes it
pub found_left : {G Y : Type 0} (F : List G → Y) (is : G → Bool) (value : G → Y) → ((g : G) (gs : List G) → F (g ∷ gs) ≡ cond (is g) (value g) (F gs))
    → (k : G → Bool) → ((g : G) → is g ≡ true → k g ≡ true) → (gs : List G) → F (filter k gs) ≡ F gs
found_left F is value step k passes [] = refl
found_left F is value step k passes (g ∷ gs) =
    let on = found_left F is value step k passes gs in
    cond_both (k g) (g ∷ filter k gs) (filter k gs) (λ l. F l ≡ F (g ∷ gs))
    (λ t. step g (filter k gs) ∙ ap (cond (is g) (value g)) on ∙ sym (step g gs))
    (λ f. on ∙ sym (step g gs ∙ cond-false _ _ _ (false_from_ne_true _ (λ i. both_ways _ f (passes g i)))))

-- who has no standing child is no one's parent
pub no_child : (rows : List Row) (e f : ℕ) → childless rows e ≡ true → stands rows f ≡ true → parent_of rows f ≡ e → ⊥
no_child [] e f c s i = cc
no_child (r ∷ rows) e f c s i =
    let cs = and_parts (not (eqb r.parent e)) (childless rows e) c in
    elim (eqb r.entry f) as (λ b. (b || stands rows f) ≡ true → cond b r.parent (parent_of rows f) ≡ e → ⊥)
    [ true ↦ λ t. eqb-false r.parent e (not-true _ cs.0) | false ↦ λ t. no_child rows e f cs.1 t ] s i

-- ---- rows as begins make them

pub record Grown (rows : List Row) : Type 0 where
  -- 0 is no entry's number
  pub zero_free : stands rows 0 ≡ true → ⊥
  -- an entry was begun after its parent
  pub falls : (e : ℕ) → stands rows e ≡ true → parent_of rows e < e
  -- a parent is 0 or stands
  pub rooted : (e : ℕ) → (parent_of rows e ≡ 0) ⊎ (stands rows (parent_of rows e) ≡ true)

-- no parent: the way up ends
up_top : (rows : List Row) (n e : ℕ) → parent_of rows e ≡ 0 → up_from n rows e ≡ []
up_top rows zero e h = refl
up_top rows (suc n) e h = cond-true _ _ _ (eq-eqb (parent_of rows e) 0 h)

up_inner : (rows : List Row) (n e : ℕ) → (parent_of rows e ≡ 0 → ⊥) → up_from (suc n) rows e ≡ parent_of rows e ∷ up_from n rows (parent_of rows e)
up_inner rows n e d = cond-false _ _ _ (ne_eqb (parent_of rows e) 0 d)

pub elders_top : (rows : List Row) (e : ℕ) → parent_of rows e ≡ 0 → elders rows e ≡ []
elders_top rows e h = up_top rows e e h

-- whom the list names is an elder
up_elder : (rows : List Row) (n e x : ℕ) → is_among (up_from n rows e) x ≡ true → Elder rows x e
up_elder rows zero e x h = cc
up_elder rows (suc n) e x h =
    let q = parent_of rows e in
    cond_both (eqb q 0) [] (q ∷ up_from n rows q) (λ l. is_among l x ≡ true → Elder rows x e)
    (λ z m. cc)
    (λ d m. elim (among_cases x q (up_from n rows q) m) [ inl i ↦ its_parent (sym i) (λ z. eqb-false q 0 d (sym i ∙ z)) | inr k ↦ of_its_parent (up_elder rows n q x k) ])
    h

-- where the parents are the same of all of whom Q holds, and Q holds of the parents too, the ways up are the same
up_agree : (other rows : List Row) (Q : ℕ → Type 0) → ((e : ℕ) → Q e → parent_of other e ≡ parent_of rows e) → ((e : ℕ) → Q e → (parent_of rows e ≡ 0) ⊎ Q (parent_of rows e))
    → (n e : ℕ) → Q e → up_from n other e ≡ up_from n rows e
up_agree other rows Q same up zero e k = refl
up_agree other rows Q same up (suc n) e k =
    let q = parent_of rows e in
    elim (up e k) [
      | inl z ↦ up_top other (suc n) e (same e k ∙ z) ∙ sym (up_top rows (suc n) e z)
      | inr l ↦ ap (λ x. cond (eqb x 0) [] (x ∷ up_from n other x)) (same e k) ∙ ap (λ xs. cond (eqb q 0) [] (q ∷ xs)) (up_agree other rows Q same up n q l)
    ]

pub elder_trans : {rows : List Row} {x y e : ℕ} → Elder rows x y → Elder rows y e → Elder rows x e
elder_trans {rows} {x} h (its_parent i z) = of_its_parent (subst (Elder rows x) (sym i) h)
elder_trans h (of_its_parent k) = of_its_parent (elder_trans h k)

module _ (rows : List Row) (g : Grown rows) where
  pub parent_falls : (e : ℕ) → (parent_of rows e ≡ 0) ⊎ (parent_of rows e < e)
  parent_falls e = elim (stands_or_top rows e) [ inl s ↦ inr (g.falls e s) | inr z ↦ inl z ]

  parent_of_zero : parent_of rows 0 ≡ 0
  parent_of_zero = parent_none rows 0 g.zero_free

  up_from_zero : (m e : ℕ) → e ≡ 0 → up_from m rows e ≡ []
  up_from_zero m e z = up_top rows m e (ap (parent_of rows) z ∙ parent_of_zero)

  -- as many steps as an entry's number lead to the eldest, and more lead no further
  up_enough : (n m e : ℕ) → e ≤ n → e ≤ m → up_from n rows e ≡ up_from m rows e
  up_enough zero m e l k = sym (up_from_zero m e (omega arith))
  up_enough (suc n) zero e l k = up_from_zero (suc n) e (omega arith)
  up_enough (suc n) (suc m) e l k = elim (parent_falls e) [
    | inl z ↦ up_top rows (suc n) e z ∙ sym (up_top rows (suc m) e z)
    | inr f ↦ ap (λ l. cond (eqb (parent_of rows e) 0) [] (parent_of rows e ∷ l)) (up_enough n m (parent_of rows e) (omega arith) (omega arith))
  ]

  pub elders_inner : (e : ℕ) → (parent_of rows e ≡ 0 → ⊥) → elders rows e ≡ parent_of rows e ∷ elders rows (parent_of rows e)
  elders_inner e d =
      let q = parent_of rows e in
      let below : q < e = elim (parent_falls e) [ inl z ↦ absurd (d z) | inr f ↦ f ] in
      up_enough e (suc e) e (omega arith) (omega arith) ∙ up_inner rows e e d ∙ ap (λ l. q ∷ l) (up_enough e q q (omega arith) (omega arith))

  no_elder_of_zero : {x e : ℕ} → e ≡ 0 → Elder rows x e → ⊥
  no_elder_of_zero i (its_parent p z) = z (sym p ∙ ap (parent_of rows) i ∙ parent_of_zero)
  no_elder_of_zero i (of_its_parent k) = no_elder_of_zero (ap (parent_of rows) i ∙ parent_of_zero) k

  -- an elder is named by the list
  pub elder_among : {x e : ℕ} → Elder rows x e → is_among (elders rows e) x ≡ true
  elder_among {x} {e} (its_parent i z) =
      subst (λ l. is_among l x ≡ true) (sym (elders_inner e (λ w. z (sym i ∙ w)))) (or_left _ _ (eq-eqb x (parent_of rows e) (sym i)))
  elder_among {x} {e} (of_its_parent k) =
      subst (λ l. is_among l x ≡ true) (sym (elders_inner e (λ w. no_elder_of_zero w k)))
      (among_more x (parent_of rows e) (elders rows (parent_of rows e)) (elder_among k))

  pub among_elder : (e x : ℕ) → is_among (elders rows e) x ≡ true → Elder rows x e
  among_elder e x h = up_elder rows e e x h

  pub elders_are : (e x : ℕ) → Decides (is_among (elders rows e) x) (Elder rows x e)
  elders_are e x = (among_elder e x, elder_among)

  pub elder_below : {x e : ℕ} → Elder rows x e → x < e
  elder_below {x} {e} (its_parent i z) = elim (parent_falls e) [ inl w ↦ absurd (z (sym i ∙ w)) | inr f ↦ subst (λ y. y < e) i f ]
  elder_below {x} {e} (of_its_parent k) = let l : x < parent_of rows e = elder_below k in elim (parent_falls e) [ inl w ↦ omega arith | inr f ↦ omega arith ]

  pub elder_stands : {x e : ℕ} → Elder rows x e → stands rows x ≡ true
  elder_stands {x} {e} (its_parent i z) = elim (g.rooted e) [ inl w ↦ absurd (z (sym i ∙ w)) | inr s ↦ subst (λ y. stands rows y ≡ true) i s ]
  elder_stands (of_its_parent k) = elder_stands k

  pub childless_no_elder : {x e : ℕ} → childless rows x ≡ true → Elder rows x e → ⊥
  childless_no_elder {x} {e} c (its_parent i z) = elim (stands_or_top rows e) [ inl s ↦ no_child rows x e c s i | inr w ↦ z (sym i ∙ w) ]
  childless_no_elder c (of_its_parent k) = childless_no_elder c k

  -- ---- an entry and its elders

  pub kin_cases : (e x : ℕ) → is_own_or_elder rows e x ≡ true → (x ≡ e) ⊎ Elder rows x e
  kin_cases e x h = elim (among_cases x e (elders rows e) h) [ inl i ↦ inl i | inr k ↦ inr (among_elder e x k) ]

  pub kin_self : (e : ℕ) → is_own_or_elder rows e e ≡ true
  kin_self e = among_self e (elders rows e)

  pub kin_elder : {x e : ℕ} → Elder rows x e → is_own_or_elder rows e x ≡ true
  kin_elder {x} {e} k = among_more x e (elders rows e) (elder_among k)

  pub kin_trans : (e y x : ℕ) → is_own_or_elder rows e y ≡ true → is_own_or_elder rows y x ≡ true → is_own_or_elder rows e x ≡ true
  kin_trans e y x hy hx = elim (kin_cases e y hy) [
    | inl i ↦ subst (λ f. is_own_or_elder rows f x ≡ true) i hx
    | inr k ↦ elim (kin_cases y x hx) [
      | inl j ↦ subst (λ w. is_own_or_elder rows e w ≡ true) (sym j) hy
      | inr m ↦ kin_elder (elder_trans m k)
    ]
  ]

  pub kin_below : (e x : ℕ) → is_own_or_elder rows e x ≡ true → x ≤ e
  kin_below e x h = elim (kin_cases e x h) [ inl i ↦ omega arith | inr k ↦ (let l : x < e = elder_below k in omega arith) ]

  pub kin_stands : (e x : ℕ) → stands rows e ≡ true → is_own_or_elder rows e x ≡ true → stands rows x ≡ true
  kin_stands e x s h = elim (kin_cases e x h) [ inl i ↦ subst (λ y. stands rows y ≡ true) (sym i) s | inr k ↦ elder_stands k ]

  -- who has no child is no other's elder
  pub kin_childless : (e f h : ℕ) → childless rows e ≡ true → h ≡ e → is_own_or_elder rows f h ≡ true → f ≡ e
  kin_childless e f h c i m = elim (kin_cases f h m) [ inl j ↦ sym j ∙ i | inr k ↦ absurd (childless_no_elder (ap (childless rows) i ∙ c) k) ]

  up_falls : (n e : ℕ) → Falls (e ∷ up_from n rows e)
  up_falls zero e = (tt, tt)
  up_falls (suc n) e =
      let q = parent_of rows e in
      (all_from_among (λ y. y < e) (up_from (suc n) rows e) (λ y h. elder_below (up_elder rows (suc n) e y h)), cond_both (eqb q 0) [] (q ∷ up_from n rows q) Falls (λ z. tt) (λ d. up_falls n q))

  pub kin_falls : (e : ℕ) → Falls (e ∷ elders rows e)
  kin_falls e = up_falls e e

-- ---- entries end: those that pass the test k are left

module _ (k : ℕ → Bool) where
  abbrev pub rest : List Row → List Row
  rest rows = filter (λ r. k r.entry) rows

  pub parent_rest : (rows : List Row) (e : ℕ) → k e ≡ true → parent_of (rest rows) e ≡ parent_of rows e
  parent_rest rows e h = found_left (λ rs. parent_of rs e) (λ r. eqb r.entry e) (λ r. r.parent) (λ r rs. refl) (λ r. k r.entry) (λ r t. ap k (eqb-true r.entry e t) ∙ h) rows

  pub stands_left : (rows : List Row) (e : ℕ) → stands (rest rows) e ≡ (k e && stands rows e)
  stands_left rows e = stands_any (rest rows) e ∙ any-filter_same (λ r. eqb r.entry e) (λ r. k r.entry) (k e) (λ r t. ap k (eqb-true r.entry e t)) rows ∙ ap (λ b. k e && b) (sym (stands_any rows e))

  pub stands_rest : (rows : List Row) (e : ℕ) → stands rows e ≡ true → k e ≡ true → stands (rest rows) e ≡ true
  stands_rest rows e s h = stands_left rows e ∙ and_from (k e) (stands rows e) h s

  -- who is left stood before
  pub stood : (rows : List Row) (e : ℕ) → stands (rest rows) e ≡ true → (stands rows e ≡ true) × (k e ≡ true)
  stood rows e s = let both = and_parts (k e) (stands rows e) (sym (stands_left rows e) ∙ s) in (both.1, both.0)

  -- who passes the test stays, and so do all its elders
  abbrev pub Closed : List Row → Type 0
  Closed rows = (e x : ℕ) → k e ≡ true → is_own_or_elder rows e x ≡ true → k x ≡ true

  module _ (rows : List Row) (closed : Closed rows) where
    -- an entry's parent is the first of its elders, but for 0, which has none
    stays_named : (e : ℕ) → (k e ≡ true) × (e ≡ 0 → ⊥) → (parent_of rows e ≡ 0) ⊎ ((k (parent_of rows e) ≡ true) × (parent_of rows e ≡ 0 → ⊥))
    stays_named zero stays = absurd (stays.1 refl)
    stays_named (suc n) stays =
        let q = parent_of rows (suc n) in
        elim (cases_eq q 0) [
          | inl z ↦ inl z
          | inr d ↦ inr (closed (suc n) q stays.0 (among_more q (suc n) (elders rows (suc n)) (subst (λ l. is_among l q ≡ true) (sym (up_inner rows n (suc n) d)) (among_self q (up_from n rows q)))), d)
        ]

    pub elders_rest : (e : ℕ) → k e ≡ true → elders (rest rows) e ≡ elders rows e
    elders_rest zero h = refl
    elders_rest (suc n) h = up_agree (rest rows) rows (λ x. (k x ≡ true) × (x ≡ 0 → ⊥)) (λ x stays. parent_rest rows x stays.0) stays_named (suc n) (suc n) (h, λ z. absurd (omega arith))

  module _ (rows : List Row) (g : Grown rows) (closed : Closed rows) where
    stays_rooted : (e : ℕ) → k e ≡ true → (parent_of rows e ≡ 0) ⊎ (k (parent_of rows e) ≡ true)
    stays_rooted e h = elim (cases_eq (parent_of rows e) 0) [ inl z ↦ inl z | inr d ↦ inr (closed e (parent_of rows e) h (kin_elder rows g (its_parent refl d))) ]

    pub grown_rest : Grown (rest rows)
    grown_rest = record {
      zero_free = λ s. g.zero_free (stood rows 0 s).0;
      falls = λ e s. (let so = stood rows e s in subst (λ q. q < e) (sym (parent_rest rows e so.1)) (g.falls e so.0));
      rooted = λ e. elim (stands_or_top (rest rows) e) [
        | inr z ↦ inl z
        | inl s ↦
            let so = stood rows e s in
            subst (λ p. (p ≡ 0) ⊎ (stands (rest rows) p ≡ true)) (sym (parent_rest rows e so.1))
            (elim (stays_rooted e so.1) [
              | inl z ↦ inl z
              | inr h ↦ elim (g.rooted e) [ inl z ↦ inl z | inr t ↦ inr (stands_rest rows (parent_of rows e) t h) ]
            ])
      ];
    }

-- who is not e
abbrev pub others : ℕ → ℕ → Bool
others e x = not (eqb x e)

pub not_other : (e x : ℕ) → (x ≡ e → ⊥) → others e x ≡ true
not_other e x d = not_from_false (eqb x e) (ne_eqb x e d)

pub other_not : (e x : ℕ) → others e x ≡ true → x ≡ e → ⊥
other_not e x o = eqb-false x e (not-true (eqb x e) o)

-- who is neither e nor inside it
abbrev pub is_outside : List Row → ℕ → ℕ → Bool
is_outside rows e f = not (is_own_or_elder rows f e)

module _ (rows : List Row) (g : Grown rows) (e : ℕ) where
  -- with an entry that stays its elders stay, where one without children ends ..
  pub closed_others : childless rows e ≡ true → Closed (others e) rows
  closed_others ch f x k m = not_other e x (λ i. other_not e f k (kin_childless rows g e f x ch i m))

  -- .. and where one ends with all that are inside it
  pub closed_outside : Closed (is_outside rows e) rows
  closed_outside f x k m = not_from_false _ (false_from_ne_true _ (λ h. both_ways _ (not-true _ k) (kin_trans rows g f x e m h)))

-- ---- a new entry stands under q

module _ (rows : List Row) (n q : ℕ) (above : (e : ℕ) → stands rows e ≡ true → e < n) where
  abbrev new : Row
  new = record { entry = n; parent = q }

  abbrev pub joined : List Row
  joined = rows ++ (new ∷ [])

  stands_joined : (e : ℕ) → stands joined e ≡ (stands rows e || eqb n e)
  stands_joined e = or_push (λ rs. stands rs e) (λ r. eqb r.entry e) refl (λ r rs. refl) rows new

  pub joined_old : (e : ℕ) → stands rows e ≡ true → stands joined e ≡ true
  joined_old e s = stands_joined e ∙ or_left (stands rows e) (eqb n e) s

  pub joined_cases : (e : ℕ) → stands joined e ≡ true → (e ≡ n) ⊎ (stands rows e ≡ true)
  joined_cases e s = elim (or_cases (stands rows e) (eqb n e) (sym (stands_joined e) ∙ s)) [ inl t ↦ inr t | inr i ↦ inl (sym (eqb-true n e i)) ]

  parent_old : (e : ℕ) → stands rows e ≡ true → parent_of joined e ≡ parent_of rows e
  parent_old e s =
      let l : e < n = above e s in
      found_push_other (λ rs. parent_of rs e) (λ r. eqb r.entry e) (λ r. r.parent) 0 refl (λ r rs. refl) rows new (ne_eqb n e (λ i. omega arith))

  push_parent_new : (rs : List Row) → (stands rs n ≡ true → ⊥) → parent_of (rs ++ (new ∷ [])) n ≡ q
  push_parent_new [] d = parent_own new [] n refl
  push_parent_new (r ∷ rs) d = parent_other r (rs ++ (new ∷ [])) n (λ i. d (stands_own r rs n i)) ∙ push_parent_new rs (λ s. d (stands_more r rs n s))

  parent_new : parent_of joined n ≡ q
  parent_new = push_parent_new rows (λ s. (let l : n < n = above n s in omega arith))

  pub elders_joined : Grown rows → (e : ℕ) → stands rows e ≡ true → elders joined e ≡ elders rows e
  elders_joined g e s = up_agree joined rows (λ x. stands rows x ≡ true) parent_old (λ x t. g.rooted x) e e s

  module _ (g : Grown rows) (positive : 0 < n) (under : (q ≡ 0) ⊎ (stands rows q ≡ true)) where
    q_below : q < n
    q_below = elim under [ inl z ↦ omega arith | inr s ↦ above q s ]

    joined_root : (p : ℕ) → (p ≡ 0) ⊎ (stands rows p ≡ true) → (e : ℕ) → parent_of joined e ≡ p → (parent_of joined e ≡ 0) ⊎ (stands joined (parent_of joined e) ≡ true)
    joined_root p root e is = elim root [ inl z ↦ inl (is ∙ z) | inr s ↦ inr (ap (stands joined) is ∙ joined_old p s) ]

    pub grown_joined : Grown joined
    grown_joined = record {
      zero_free = λ s. elim (joined_cases 0 s) [ inl i ↦ omega arith | inr t ↦ g.zero_free t ];
      falls = λ e s. elim (joined_cases e s) [
        | inl i ↦ (let is : parent_of joined e ≡ q = ap (parent_of joined) i ∙ parent_new in omega (arith, q_below))
        | inr t ↦ subst (λ p. p < e) (sym (parent_old e t)) (g.falls e t)
      ];
      rooted = λ e. elim (stands_or_top joined e) [
        | inr z ↦ inl z
        | inl s ↦ elim (joined_cases e s) [ inl i ↦ joined_root q under e (ap (parent_of joined) i ∙ parent_new) | inr t ↦ joined_root (parent_of rows e) (g.rooted e) e (parent_old e t) ]
      ];
    }

    -- the new entry's elders are its parent, if that is one, and the parent's
    pub elders_new_top : q ≡ 0 → elders joined n ≡ []
    elders_new_top z = elders_top joined n (parent_new ∙ z)

    pub elders_new_inner : stands rows q ≡ true → elders joined n ≡ q ∷ elders rows q
    elders_new_inner s =
        let is : parent_of joined n ≡ q = parent_new in
        elders_inner joined grown_joined n (λ z. g.zero_free (subst (λ x. stands rows x ≡ true) (sym is ∙ z) s))
        ∙ ap (λ p. p ∷ elders joined p) is
        ∙ ap (λ l. q ∷ l) (elders_joined g q s)
