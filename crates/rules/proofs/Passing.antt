-- An inner keep: an entry's lines stay in their places and pass to its parent, and it ends.
use Rattle.std.proofs.Common.{◌≡◌, ℕ, Bool, true, false, cond, not, ◌&&◌, ◌||◌, eqb, ◌⊎◌, List, ◌∷◌, ◌++◌, fold, sym, refl, ap, ◌∙◌, subst, inl, inr, append_assoc}
use Rattle.std.specs.List.{AllByRecursion as All}
use Rattle.std.proofs.lemmas.Bool.{cond_both, eqb-false, or_left, and_left, eqb-true, eq-eqb, ne_eqb, cases_Bool, and_parts, not-true, both_ways, false_from_ne_true}
use Rattle.rules.specs.declared.rows.Row.{Row}
use Rattle.rules.specs.Entries.{stands, childless, elders, is_among, is_own_or_elder}
use Rattle.rules.specs.Calls.{holder_after}
use Rattle.rules.specs.FairCopy.{EachInTurn}
use Rattle.rules.proofs.Each.{All-weaker, All-map, all_of}
use Rattle.rules.proofs.Exchanges.{Same, Laws, same_trans, same_sym, same_left, same_right, same_all, same_rightly, right_front, right_back, right_append, stays_ok, past_all}
use Rattle.rules.proofs.Bools.{Parts, parts_alone, parts_swap, parts_first, parts_or, parts_rest}
use Rattle.rules.proofs.Pairs.{Pairs, pairs_weaker, pairs_map}
use Rattle.rules.proofs.Holdings.{Held, held, renamed, held_agree, held_renamed, split, cross_held}
use Rattle.rules.proofs.Numbers.{among_cases}
use Rattle.rules.proofs.Kinship.{Grown, rest, stood, grown_rest, stands_rest, elders_rest, others, not_other, other_not, closed_others, kin_self, kin_trans, kin_childless}
use Rattle.rules.proofs.Standing.{Frame, Core, own, Ordered, held_ok, copied_with}

abbrev passed_on : {X : Type 0} → ℕ → ℕ → Held X → Held X
passed_on e q g = record { holder = holder_after e q g.holder; item = g.item }

after_both : (P : ℕ → Type 0) (e q h : ℕ) → (h ≡ e → P q) → ((h ≡ e → ⊥) → P h) → P (holder_after e q h)
after_both P e q h is other = cond_both (eqb h e) q h P (λ t. is (eqb-true h e t)) (λ f. other (eqb-false h e f))

module _ {V X : Type 0} {after : V → X → V} {Right : V → X → Type 0} {OkValue : V → Type 0} {OkItem : X → Type 0} {Cross : X → X → Type 0} (laws : Laws after Right OkValue OkItem Cross)
    {first : V} {rows : List Row} {table : List (Held X)} {copies : ℕ → List X} {value : V} {fair : List X} (core : Core after Right OkValue OkItem Cross first rows table copies value fair) where
  module _ (e q : ℕ) (st : stands rows e ≡ true) (ch : childless rows e ≡ true) (is : elders rows e ≡ q ∷ elders rows q) (sq : stands rows q ≡ true) (ne : q ≡ e → ⊥) where
    abbrev pub passed_table : List (Held X)
    passed_table = renamed (holder_after e q) table

    abbrev pub passed_copies : ℕ → List X
    passed_copies f = cond (eqb f q) (copies q ++ copies e) (copies f)

    abbrev left : List Row
    left = rest (others e) rows

    grown : Grown rows
    grown = core.frame.grown

    by_order : {Z : Held X → Held X → Type 0} → ((g m : Held X) → Ordered Cross rows g m → Z g m) → Pairs Z table
    by_order k = pairs_weaker k table core.frame.order

    same_elders : (f : ℕ) → (f ≡ e → ⊥) → elders left f ≡ elders rows f
    same_elders f d = elders_rest (others e) rows (closed_others rows grown e ch) f (not_other e f d)

    -- e is neither another entry nor its elder
    not_e : (f h : ℕ) → (f ≡ e → ⊥) → is_own_or_elder rows f h ≡ true → h ≡ e → ⊥
    not_e f h d m i = d (kin_childless rows grown e f h ch i m)

    cases_kin : (h : ℕ) → is_own_or_elder rows e h ≡ true → (e ≡ h) ⊎ (is_own_or_elder rows q h ≡ true)
    cases_kin h m = elim (among_cases h e (elders rows e) m) [ inl i ↦ inl (sym i) | inr k ↦ inr (subst (λ l. is_among l h ≡ true) is k) ]

    after_stands : (h : ℕ) → stands rows h ≡ true → stands left (holder_after e q h) ≡ true
    after_stands h s = after_both (λ y. stands left y ≡ true) e q h (λ i. stands_rest (others e) rows q sq (not_other e q ne)) (λ d. stands_rest (others e) rows h s (not_other e h d))

    after_kin : (h k : ℕ) → is_own_or_elder rows k h ≡ true → is_own_or_elder left (holder_after e q k) (holder_after e q h) ≡ true
    after_kin h k m =
        after_both (λ y. is_own_or_elder left y (holder_after e q h) ≡ true) e q k
        (λ i. subst (λ l. is_among (q ∷ l) (holder_after e q h) ≡ true) (sym (same_elders q ne))
        (after_both (λ y. is_own_or_elder rows q y ≡ true) e q h (λ j. kin_self rows grown q)
        (λ d. elim (cases_kin h (subst (λ y. is_own_or_elder rows y h ≡ true) i m)) [ inl j ↦ absurd (d (sym j)) | inr l ↦ l ])))
        (λ d. subst (λ l. is_among (k ∷ l) (holder_after e q h) ≡ true) (sym (same_elders k d))
        (after_both (λ y. is_own_or_elder rows k y ≡ true) e q h (λ i. absurd (not_e k h d m i)) (λ n. m)))

    passed_frame : Frame OkItem Cross left passed_table
    passed_frame = record {
      grown = grown_rest (others e) rows grown (closed_others rows grown e ch);
      holders = All-map _ (passed_on e q) table (All-weaker _ _ (λ g s. after_stands g.holder s) table core.frame.holders);
      items_ok = All-map _ (passed_on e q) table core.frame.items_ok;
      order = pairs_map _ (passed_on e q) table
          (pairs_weaker (λ g m o. elim o [ inl c ↦ inl c | inr h ↦ inr (after_kin g.holder m.holder h) ]) table core.frame.order);
    }

    -- what f sees after
    module _ (f : ℕ) (sf : stands rows f ≡ true) (d : f ≡ e → ⊥) where
      abbrev sight : ℕ → Bool
      sight h = is_own_or_elder rows f (holder_after e q h)

      sight_is : held (is_own_or_elder left f) passed_table ≡ held sight table
      sight_is = ap (λ l. held (is_among (f ∷ l)) passed_table) (same_elders f d) ∙ held_renamed (holder_after e q) (is_own_or_elder rows f) table

      -- q is not among f's kin: it sees what it saw
      sees_apart : is_own_or_elder rows f q ≡ false → EachInTurn after Right value (held sight table)
      sees_apart a = subst (EachInTurn after Right value)
          (held_agree (is_own_or_elder rows f) sight table
          (all_of (λ g. after_both (λ y. is_own_or_elder rows f g.holder ≡ is_own_or_elder rows f y) e q g.holder (λ i. false_from_ne_true _ (λ m. not_e f g.holder d m i) ∙ sym a) (λ n. refl)) table))
          (core.sees f sf)

      -- the lines of f and of its elders below q
      abbrev lower : ℕ → Bool
      lower h = is_own_or_elder rows f h && not (is_own_or_elder rows q h)

      module _ (u : is_own_or_elder rows f q ≡ true) where
        abbrev upper_lines : List X
        upper_lines = held (is_own_or_elder rows q) table

        abbrev own_lines : List X
        own_lines = held (own e) table

        abbrev lower_lines : List X
        lower_lines = held lower table

        lower_in : (h : ℕ) → lower h ≡ true → is_own_or_elder rows f h ≡ true
        lower_in h l = (and_parts (is_own_or_elder rows f h) (not (is_own_or_elder rows q h)) l).0

        lower_out : (h : ℕ) → lower h ≡ true → is_own_or_elder rows q h ≡ true → ⊥
        lower_out h l = both_ways _ (not-true _ (and_parts (is_own_or_elder rows f h) (not (is_own_or_elder rows q h)) l).1)

        -- they are neither e's nor its elders'
        lower_apart : (h : ℕ) → lower h ≡ true → is_own_or_elder rows e h ≡ true → ⊥
        lower_apart h l m = elim (cases_kin h m) [ inl i ↦ not_e f h d (lower_in h l) (sym i) | inr k ↦ lower_out h l k ]

        above_in : (h : ℕ) → is_own_or_elder rows q h ≡ true → is_own_or_elder rows f h ≡ true
        above_in h m = kin_trans rows grown f q h u m

        -- f saw: the lines of q and above, and then the lower ones
        saw : Same Cross (held (is_own_or_elder rows f) table) (upper_lines ++ lower_lines)
        saw = split (is_own_or_elder rows f) (is_own_or_elder rows q) lower
            (λ h. parts_rest (is_own_or_elder rows f h) (is_own_or_elder rows q h) (above_in h))
            table
            (by_order (λ g m o b a. elim o [ inl c ↦ c | inr h ↦ absurd (lower_out g.holder b (kin_trans rows grown q m.holder g.holder a h)) ]))

        -- e saw: the lines of q and above, and then its own
        e_saw : Same Cross (held (is_own_or_elder rows e) table) (upper_lines ++ own_lines)
        e_saw = split (is_own_or_elder rows e) (is_own_or_elder rows q) (own e)
            (λ h. subst (λ l. Parts (is_among (e ∷ l) h) (is_own_or_elder rows q h) (own e h)) (sym is) (parts_swap (parts_or (own e h) (is_own_or_elder rows q h) (λ b a. not_e q h ne a (eqb-true h e b)))))
            table
            (by_order (λ g m o b a. elim o [ inl c ↦ c | inr h ↦ absurd (not_e q m.holder ne a (kin_childless rows grown e m.holder g.holder ch (eqb-true g.holder e b) h)) ]))

        -- f sees: what e saw, and then the lower ones
        sight_splits : Same Cross (held sight table) (held (is_own_or_elder rows e) table ++ lower_lines)
        sight_splits = split sight (is_own_or_elder rows e) lower
            (λ h. after_both (λ y. Parts (is_own_or_elder rows f y) (is_own_or_elder rows e h) (lower h)) e q h
            (λ i. parts_first _ _ _ u (or_left _ _ (eq-eqb h e i)) (and_left _ _ (false_from_ne_true _ (λ m. not_e f h d m i))))
            (λ n. subst (λ b. Parts (is_own_or_elder rows f h) b (lower h)) (sym (ap (λ l. is_among (e ∷ l) h) is ∙ ap (λ b. b || is_own_or_elder rows q h) (ne_eqb h e n))) (parts_rest (is_own_or_elder rows f h) (is_own_or_elder rows q h) (above_in h))))
            table
            (by_order (λ g m o b a. elim o [ inl c ↦ c | inr h ↦ absurd (lower_apart g.holder b (kin_trans rows grown e m.holder g.holder a h)) ]))

        lower_crossed : All (λ x. All (Cross x) lower_lines) own_lines
        lower_crossed = cross_held Cross (own e) lower (λ h a b. not_e f h d (lower_in h b) (eqb-true h e a)) table
            (by_order (λ g m o. (
              λ a b. elim o [
                | inl c ↦ c
                | inr h ↦ absurd (not_e f m.holder d (lower_in m.holder b) (kin_childless rows grown e m.holder g.holder ch (eqb-true g.holder e a) h))
              ],
              λ b a. elim o [
                | inl c ↦ laws.symm g.item m.item c
                | inr h ↦ absurd (lower_apart g.holder b (subst (λ y. is_own_or_elder rows y g.holder ≡ true) (eqb-true m.holder e a) h))
              ],
            )))

        sight_is_three : Same Cross (held sight table) (upper_lines ++ (own_lines ++ lower_lines))
        sight_is_three = same_trans sight_splits (subst (λ l. Same Cross (held (is_own_or_elder rows e) table ++ lower_lines) l) (append_assoc upper_lines own_lines lower_lines) (same_right lower_lines e_saw))

        abbrev mid : V
        mid = fold after value upper_lines

        sees_under : EachInTurn after Right value (held sight table)
        sees_under =
            let ok = core.value_ok in
            let fe = same_rightly laws e_saw value ok (held_ok core.frame (is_own_or_elder rows e)) (core.sees e st) in
            let ff = same_rightly laws saw value ok (held_ok core.frame (is_own_or_elder rows f)) (core.sees f sf) in
            let mid_ok = stays_ok laws value upper_lines ok (held_ok core.frame (is_own_or_elder rows q)) in
            let own_right = right_back laws value upper_lines own_lines fe in
            let lower_right = past_all laws own_lines lower_lines mid mid_ok (held_ok core.frame (own e)) (held_ok core.frame lower) lower_crossed (right_back laws value upper_lines lower_lines ff) in
            same_rightly laws (same_sym laws.symm sight_is_three) value ok (same_all OkItem sight_is_three (held_ok core.frame sight))
            (right_append laws value upper_lines (own_lines ++ lower_lines) (right_front laws value upper_lines own_lines fe) (right_append laws mid own_lines lower_lines own_right lower_right))

      sees_after : EachInTurn after Right value (held (is_own_or_elder left f) passed_table)
      sees_after = subst (EachInTurn after Right value) (sym sight_is) (elim (cases_Bool (is_own_or_elder rows f q)) [ inl u ↦ sees_under u | inr a ↦ sees_apart a ])

    -- q's copy with e's as a block
    merged : Same Cross (held (λ h. own q (holder_after e q h)) table) (held (own q) table ++ held (own e) table)
    merged = split (λ h. own q (holder_after e q h)) (own q) (own e)
        (λ h. after_both (λ y. Parts (own q y) (own q h) (own e h)) e q h
        (λ i. parts_swap (parts_first _ _ _ (eq-eqb q q refl) (eq-eqb h e i) (ne_eqb h q (λ j. ne (sym j ∙ i)))))
        (λ n. subst (Parts (own q h) (own q h)) (sym (ne_eqb h e n)) (parts_alone (own q h))))
        table
        (by_order (λ g m o b a. elim o [
          | inl c ↦ c
          | inr h ↦ absurd (not_e q g.holder ne (subst (λ y. is_own_or_elder rows y g.holder ≡ true) (eqb-true m.holder q a) h) (eqb-true g.holder e b))
        ]))

    copied_q : Same Cross (copies q ++ copies e) (held (own q) passed_table)
    copied_q = subst (Same Cross (copies q ++ copies e)) (sym (held_renamed (holder_after e q) (own q) table))
        (same_trans (same_right (copies e) (core.copied q sq)) (same_trans (same_left (held (own q) table) (core.copied e st)) (same_sym laws.symm merged)))

    copied_other : (f : ℕ) → stands rows f ≡ true → (f ≡ e → ⊥) → (f ≡ q → ⊥) → Same Cross (copies f) (held (own f) passed_table)
    copied_other f s d n = subst (Same Cross (copies f))
        (held_agree (own f) (λ h. own f (holder_after e q h)) table
        (all_of (λ g. after_both (λ y. own f g.holder ≡ own f y) e q g.holder (λ i. ne_eqb g.holder f (λ j. d (sym j ∙ i)) ∙ sym (ne_eqb q f (λ j. n (sym j)))) (λ k. refl)) table)
        ∙ sym (held_renamed (holder_after e q) (own f) table))
        (core.copied f s)

    pub passed : Core after Right OkValue OkItem Cross first left passed_table passed_copies value fair
    passed = record {
      frame = passed_frame;
      value_ok = core.value_ok;
      sees = λ f s. (let so = stood (others e) rows f s in sees_after f so.0 (other_not e f so.1));
      copied = λ f s. (let so = stood (others e) rows f s in copied_with passed_table copies q (copies q ++ copies e) copied_q f (copied_other f so.0 (other_not e f so.1)));
      fair_right = core.fair_right;
      fair_value = core.fair_value;
    }
