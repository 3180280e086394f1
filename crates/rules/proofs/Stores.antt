-- Lines on cells, as things that change all the values: lines on different cells cross, and lines on one cell as their kind says.
use Rattle.std.proofs.Common.{◌≡◌, ℕ, zero, suc, Bool, true, false, cond, ◌&&◌, eqb, ◌⊎◌, List, [], ◌∷◌, map, Some, None, Option, fold, filter, sym, refl, ap, ◌∙◌, subst, inl, inr}
use Rattle.std.proofs.lemmas.Bool.{eqb-true, eqb-false, cases_eq, and_parts, and_from}
use Rattle.std.proofs.lemmas.Iterator.Adapters.{option_map_id}
use Rattle.cells.specs.Kinds.{Rules, CrossingLaw}
use Rattle.cells.specs.Sequences.{after_all}
use Rattle.rules.specs.declared.lines.Line.{Line}
use Rattle.rules.specs.Cells.{value_at, of_value, change_at, answer_at, store}
use Rattle.rules.specs.States.{all_lawful}
use Rattle.rules.specs.Calls.{commit, held_by}
use Rattle.rules.specs.Books.{Copied}
use Rattle.rules.specs.FairCopy.{post_line, GetsItsAnswer}
use Rattle.rules.proofs.Exchanges.{Laws}
use Rattle.rules.proofs.Holdings.{Held, held}
use Rattle.rules.proofs.Standing.{own}

-- ---- one cell

of_value_twice : {V W Z : Type 0} (f : W → Z) (g : V → W) (o : Option V) → of_value f (of_value g o) ≡ of_value (λ v. f (g v)) o
of_value_twice f g None = refl
of_value_twice f g (Some v) = refl

value_same : {V : Type 0} (f : V → V) (vs : List V) (c : ℕ) → value_at (change_at f vs c) c ≡ of_value f (value_at vs c)
value_same f (v ∷ vs) (suc c) = value_same f vs c
value_same f vs c = refl

value_other : {V : Type 0} (f : V → V) (vs : List V) (c d : ℕ) → (d ≡ c → ⊥) → value_at (change_at f vs c) d ≡ value_at vs d
value_other f (v ∷ vs) zero zero ne = absurd (ne refl)
value_other f (v ∷ vs) (suc c) (suc d) ne = value_other f vs c d (λ i. ne (ap suc i))
value_other f vs c d ne = refl

change_twice : {V : Type 0} (f g : V → V) (vs : List V) (c : ℕ) → change_at g (change_at f vs c) c ≡ change_at (λ v. g (f v)) vs c
change_twice f g (v ∷ vs) (suc c) = ap (λ ws. v ∷ ws) (change_twice f g vs c)
change_twice f g vs c = refl

change_other : {V : Type 0} (f g : V → V) (vs : List V) (c d : ℕ) → (c ≡ d → ⊥) → change_at g (change_at f vs c) d ≡ change_at f (change_at g vs d) c
change_other f g (v ∷ vs) zero zero ne = absurd (ne refl)
change_other f g (v ∷ vs) (suc c) (suc d) ne = ap (λ ws. v ∷ ws) (change_other f g vs c d (λ i. ne (ap suc i)))
change_other f g vs c d ne = refl

-- ---- lawful values

module _ {V P O : Type 0} (R : Rules V P O) where
  -- changes that agree on lawful values
  change_agree : (f g : V → V) → ((v : V) → R.value_lawful v ≡ true → f v ≡ g v) → (vs : List V) (c : ℕ) → all_lawful R vs ≡ true → change_at f vs c ≡ change_at g vs c
  change_agree f g h [] c o = refl
  change_agree f g h (v ∷ vs) zero o = ap (λ w. w ∷ vs) (h v (and_parts _ _ o).0)
  change_agree f g h (v ∷ vs) (suc c) o = ap (λ ws. v ∷ ws) (change_agree f g h vs c (and_parts _ _ o).1)

  read_agree : {W : Type 0} (f g : V → W) → ((v : V) → R.value_lawful v ≡ true → f v ≡ g v) → (vs : List V) (c : ℕ) → all_lawful R vs ≡ true → of_value f (value_at vs c) ≡ of_value g (value_at vs c)
  read_agree f g h [] c o = refl
  read_agree f g h (v ∷ vs) zero o = ap (λ w. Some w) (h v (and_parts _ _ o).0)
  read_agree f g h (v ∷ vs) (suc c) o = read_agree f g h vs c (and_parts _ _ o).1

  change_lawful : (f : V → V) → ((v : V) → R.value_lawful v ≡ true → R.value_lawful (f v) ≡ true) → (vs : List V) (c : ℕ) → all_lawful R vs ≡ true → all_lawful R (change_at f vs c) ≡ true
  change_lawful f h [] c o = o
  change_lawful f h (v ∷ vs) zero o = let os = and_parts _ _ o in and_from _ _ (h v os.0) os.1
  change_lawful f h (v ∷ vs) (suc c) o = let os = and_parts _ _ o in and_from _ _ os.0 (change_lawful f h vs c os.1)

  abbrev pub LawfulValues : List V → Type 0
  LawfulValues vs = all_lawful R vs ≡ true

  abbrev pub LawfulLine : Copied P O → Type 0
  LawfulLine x = R.posting_lawful x.posting ≡ true

  -- lines cross if they are on different cells, or their postings cross
  abbrev pub Crosses : Copied P O → Copied P O → Type 0
  Crosses x y = (x.cell ≡ y.cell → ⊥) ⊎ (R.crosses x.posting y.posting ≡ true)

module _ {V P O : Type 0} (R : Rules V P O) (law : CrossingLaw R) where
  abbrev after_posting : P → V → V
  after_posting p v = R.after v p

  -- two postings that cross, on one cell
  module _ (vs : List V) (o : all_lawful R vs ≡ true) (c : ℕ) (p q : P) (p_ok : R.posting_lawful p ≡ true) (q_ok : R.posting_lawful q ≡ true) (cr : R.crosses p q ≡ true) where
    swap_same : store R (store R vs c p) c q ≡ store R (store R vs c q) c p
    swap_same =
        change_twice (after_posting p) (after_posting q) vs c
        ∙ change_agree R (λ v. R.after (R.after v p) q) (λ v. R.after (R.after v q) p) (λ v l. law.one_end v p q l p_ok q_ok cr) vs c o
        ∙ sym (change_twice (after_posting q) (after_posting p) vs c)

    answer_same : answer_at R (store R vs c q) c p ≡ answer_at R vs c p
    answer_same =
        ap (of_value (λ v. R.answer v p)) (value_same (after_posting q) vs c)
        ∙ of_value_twice (λ v. R.answer v p) (after_posting q) (value_at vs c)
        ∙ read_agree R (λ v. R.answer (R.after v q) p) (λ v. R.answer v p) (λ v l. sym (law.same_answer v p q l p_ok q_ok cr)) vs c o

  module _ (vs : List V) (x y : Copied P O) (o : all_lawful R vs ≡ true) (x_ok : LawfulLine R x) (y_ok : LawfulLine R y) where
    swap_apart : (x.cell ≡ y.cell → ⊥) → post_line R (post_line R vs x) y ≡ post_line R (post_line R vs y) x
    swap_apart ne = change_other (after_posting x.posting) (after_posting y.posting) vs x.cell y.cell ne

    swap_lines : Crosses R x y → post_line R (post_line R vs x) y ≡ post_line R (post_line R vs y) x
    swap_lines (inl ne) = swap_apart ne
    swap_lines (inr cr) = elim (cases_eq x.cell y.cell) [
      | inl i ↦ subst (λ d. store R (store R vs x.cell x.posting) d y.posting ≡ store R (store R vs d y.posting) x.cell x.posting) i
          (swap_same vs o x.cell x.posting y.posting x_ok y_ok cr)
      | inr ne ↦ swap_apart ne
    ]

    answer_apart : (x.cell ≡ y.cell → ⊥) → answer_at R (post_line R vs y) x.cell x.posting ≡ answer_at R vs x.cell x.posting
    answer_apart ne = ap (of_value (λ v. R.answer v x.posting)) (value_other (after_posting y.posting) vs y.cell x.cell ne)

    same_answer : Crosses R x y → answer_at R (post_line R vs y) x.cell x.posting ≡ answer_at R vs x.cell x.posting
    same_answer (inl ne) = answer_apart ne
    same_answer (inr cr) = elim (cases_eq x.cell y.cell) [
      | inl i ↦ subst (λ d. answer_at R (store R vs d y.posting) x.cell x.posting ≡ answer_at R vs x.cell x.posting) i
          (answer_same vs o x.cell x.posting y.posting x_ok y_ok cr)
      | inr ne ↦ answer_apart ne
    ]

  pub laws : Laws (post_line R) (GetsItsAnswer R) (LawfulValues R) (LawfulLine R) (Crosses R)
  laws = record {
    ok = λ vs x o k. change_lawful R (after_posting x.posting) (λ v l. law.stays_lawful v x.posting l k) vs x.cell o;
    symm = λ x y c. elim c [ inl ne ↦ inl (λ e. ne (sym e)) | inr cr ↦ inr (law.both_ways x.posting y.posting cr) ];
    swap = swap_lines;
    later = λ vs x y o kx ky c h. same_answer vs x y o kx ky c ∙ h;
    earlier = λ vs x y o kx ky c h. sym (same_answer vs x y o kx ky c) ∙ h;
  }

-- ---- a line of a copy, held, as the register has it

abbrev pub bare : {P O : Type 0} → Held (Copied P O) → Line P
bare g = record { holder = g.holder; cell = g.item.cell; posting = g.item.posting }

module _ {V P O : Type 0} (R : Rules V P O) where
  -- what is stored of the lines that an entry holds
  pub commit_is : (e : ℕ) (gs : List (Held (Copied P O))) (vs : List V) → commit R vs (held_by e (map bare gs)) ≡ fold (post_line R) vs (held (own e) gs)
  commit_is e [] vs = refl
  commit_is e (g ∷ gs) vs =
      let ls = held_by e (map bare gs) in
      let xs = held (own e) gs in
      elim (own e g.holder) as (λ b. commit R vs (cond b (bare g ∷ ls) ls) ≡ fold (post_line R) vs (cond b (g.item ∷ xs) xs))
      [ true ↦ commit_is e gs (post_line R vs g.item) | false ↦ commit_is e gs vs ]

  -- what is seen of the lines whose holders pass a test
  abbrev on : (ℕ → Bool) → ℕ → Line P → Bool
  on t c l = eqb l.cell c && t l.holder

  abbrev changed : List (Line P) → V → V
  changed ls v = after_all R v (map (λ l. l.posting) ls)

  seen_cond : (c : ℕ) (on_cell ours : Bool) (g : Held (Copied P O)) (vs : List V) (ls : List (Line P)) (xs : List (Copied P O)) → eqb g.item.cell c ≡ on_cell
      → ((ws : List V) → value_at (fold (post_line R) ws xs) c ≡ of_value (changed ls) (value_at ws c))
      → value_at (fold (post_line R) vs (cond ours (g.item ∷ xs) xs)) c ≡ of_value (changed (cond (on_cell && ours) (bare g ∷ ls) ls)) (value_at vs c)
  seen_cond c true true g vs ls xs e f =
      let p = g.item.posting in
      f (post_line R vs g.item)
      ∙ ap (of_value (changed ls)) (subst (λ d. value_at (store R vs d p) c ≡ of_value (λ v. R.after v p) (value_at vs c)) (sym (eqb-true g.item.cell c e)) (value_same (λ v. R.after v p) vs c))
      ∙ of_value_twice (changed ls) (λ v. R.after v p) (value_at vs c)
  seen_cond c false true g vs ls xs e f =
      f (post_line R vs g.item)
      ∙ ap (of_value (changed ls)) (value_other (λ v. R.after v g.item.posting) vs g.item.cell c (λ i. eqb-false g.item.cell c e (sym i)))
  seen_cond c true false g vs ls xs e f = f vs
  seen_cond c false false g vs ls xs e f = f vs

  pub seen_is : (c : ℕ) (t : ℕ → Bool) (gs : List (Held (Copied P O))) (vs : List V) → value_at (fold (post_line R) vs (held t gs)) c ≡ of_value (changed (filter (on t c) (map bare gs))) (value_at vs c)
  seen_is c t [] vs = sym (option_map_id (value_at vs c))
  seen_is c t (g ∷ gs) vs = seen_cond c (eqb g.item.cell c) (t g.holder) g vs (filter (on t c) (map bare gs)) (held t gs) refl (seen_is c t gs)
