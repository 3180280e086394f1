-- A table of held things: what the holders that pass a test hold, in the table's order.
use Rattle.std.proofs.Common.{◌≡◌, ℕ, Bool, true, false, cond, ◌&&◌, List, [], ◌∷◌, ◌++◌, map, filter, refl, ap}
use Rattle.std.specs.List.{AllByRecursion as All}
use Rattle.std.proofs.lemmas.Bool.{cond_both}
use Rattle.rules.proofs.Each.{All-weaker, all_both}
use Rattle.rules.proofs.Exchanges.{Same, same_nil, same_cons, same_trans, same_past}
use Rattle.rules.proofs.Bools.{Parts, first, second, neither}
use Rattle.rules.proofs.Pairs.{Pairs}

pub record Held (X : Type 0) : Type 0 where
  pub holder : ℕ
  pub item : X

abbrev pub held : {X : Type 0} → (ℕ → Bool) → List (Held X) → List X
held t [] = []
held t (g ∷ gs) = cond (t g.holder) (g.item ∷ held t gs) (held t gs)

module _ {X : Type 0} where
  pub held_all : (P : X → Type 0) (t : ℕ → Bool) (gs : List (Held X)) → All (λ g. t g.holder ≡ true → P g.item) gs → All P (held t gs)
  held_all P t [] p = tt
  held_all P t (g ∷ gs) p = let on = held_all P t gs p.1 in cond_both (t g.holder) (g.item ∷ held t gs) (held t gs) (All P) (λ y. (p.0 y, on)) (λ n. on)

  pub held_none : (gs : List (Held X)) → held (λ h. false) gs ≡ []
  held_none [] = refl
  held_none (g ∷ gs) = held_none gs

  pub held_agree : (t u : ℕ → Bool) (gs : List (Held X)) → All (λ g. t g.holder ≡ u g.holder) gs → held t gs ≡ held u gs
  held_agree t u [] p = refl
  held_agree t u (g ∷ gs) p = λ i. cond (p.0 i) (g.item ∷ held_agree t u gs p.1 i) (held_agree t u gs p.1 i)

  -- a table with something more at its end
  pub held_push : (t : ℕ → Bool) (gs : List (Held X)) (m : Held X) → held t (gs ++ (m ∷ [])) ≡ held t gs ++ held t (m ∷ [])
  held_push t [] m = refl
  held_push t (g ∷ gs) m =
      elim (t g.holder) as (λ b. cond b (g.item ∷ held t (gs ++ (m ∷ []))) (held t (gs ++ (m ∷ []))) ≡ cond b (g.item ∷ held t gs) (held t gs) ++ held t (m ∷ []))
      [ true ↦ ap (λ w. g.item ∷ w) (held_push t gs m) | false ↦ held_push t gs m ]

  -- only some holders' things left
  pub held_kept : (k t : ℕ → Bool) (gs : List (Held X)) → held t (filter (λ g. k g.holder) gs) ≡ held (λ h. k h && t h) gs
  held_kept k t [] = refl
  held_kept k t (g ∷ gs) =
      let kept = filter (λ m. k m.holder) gs in
      let left = held (λ h. k h && t h) gs in
      elim (k g.holder) as (λ b. held t (cond b (g ∷ kept) kept) ≡ cond (b && t g.holder) (g.item ∷ left) left)
      [ true ↦ ap (λ xs. cond (t g.holder) (g.item ∷ xs) xs) (held_kept k t gs) | false ↦ held_kept k t gs ]

  -- holders renamed
  abbrev pub renamed : (ℕ → ℕ) → List (Held X) → List (Held X)
  renamed f gs = map (λ g. record { holder = f g.holder; item = g.item }) gs

  pub held_renamed : (f : ℕ → ℕ) (t : ℕ → Bool) (gs : List (Held X)) → held t (renamed f gs) ≡ held (λ h. t (f h)) gs
  held_renamed f t [] = refl
  held_renamed f t (g ∷ gs) = ap (λ xs. cond (t (f g.holder)) (g.item ∷ xs) xs) (held_renamed f t gs)

module _ {X : Type 0} {Cross : X → X → Type 0} where
  split_step : {t a b : Bool} → Parts t a b → (x : X) (ts us ws : List X) → (b ≡ true → All (Cross x) us) → Same Cross ts (us ++ ws) → Same Cross (cond t (x ∷ ts) ts) (cond a (x ∷ us) us ++ cond b (x ∷ ws) ws)
  split_step first x ts us ws c s = same_cons x s
  split_step second x ts us ws c s = same_trans (same_cons x s) (same_past x us ws (c refl))
  split_step neither x ts us ws c s = s

  -- where each of the second that stands before one of the first crosses it, the first may all go first
  pub split : (t a b : ℕ → Bool) → ((h : ℕ) → Parts (t h) (a h) (b h)) → (gs : List (Held X)) → Pairs (λ g m. b g.holder ≡ true → a m.holder ≡ true → Cross g.item m.item) gs → Same Cross (held t gs) (held a gs ++ held b gs)
  split t a b parts [] p = same_nil
  split t a b parts (g ∷ gs) p =
      split_step (parts g.holder) g.item (held t gs) (held a gs) (held b gs)
      (λ e. held_all _ a gs (All-weaker _ _ (λ m u. u e) gs p.0))
      (split t a b parts gs p.1)

module _ {X : Type 0} (Cross : X → X → Type 0) where
  cross_step : (a b : Bool) (x : X) (us ws : List X) → (a ≡ true → b ≡ true → ⊥) → (a ≡ true → All (Cross x) ws) → (b ≡ true → All (λ y. Cross y x) us) → All (λ y. All (Cross y) ws) us → All (λ y. All (Cross y) (cond b (x ∷ ws) ws)) (cond a (x ∷ us) us)
  cross_step true true x us ws d f k r = absurd (d refl refl)
  cross_step true false x us ws d f k r = (f refl, r)
  cross_step false true x us ws d f k r = all_both (λ y u w. (u, w)) us (k refl) r
  cross_step false false x us ws d f k r = r

  -- where two lots cross, whichever stands first
  abbrev pub CrossesBoth : (a b : ℕ → Bool) → Held X → Held X → Type 0
  CrossesBoth a b g m = (a g.holder ≡ true → b m.holder ≡ true → Cross g.item m.item) × (b g.holder ≡ true → a m.holder ≡ true → Cross m.item g.item)

  pub cross_held : (a b : ℕ → Bool) → ((h : ℕ) → a h ≡ true → b h ≡ true → ⊥) → (gs : List (Held X)) → Pairs (CrossesBoth a b) gs → All (λ x. All (Cross x) (held b gs)) (held a gs)
  cross_held a b d [] p = tt
  cross_held a b d (g ∷ gs) p =
      cross_step (a g.holder) (b g.holder) g.item (held a gs) (held b gs) (d g.holder)
      (λ e. held_all _ b gs (All-weaker _ _ (λ m u. u.0 e) gs p.0))
      (λ e. held_all _ a gs (All-weaker _ _ (λ m u. u.1 e) gs p.0))
      (cross_held a b d gs p.1)
