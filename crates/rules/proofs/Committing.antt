-- A publish, or a keep at the top: an entry's lines change the value and end, and it ends.
use Rattle.std.proofs.Common.{◌≡◌, ℕ, ◌<◌, true, List, ◌++◌, fold, sym, ap, ◌∙◌, subst, inl, inr, arith}
use Rattle.std.specs.List.{AllByRecursion as All}
use Rattle.std.proofs.lemmas.Bool.{eqb-true, eq-eqb}
use Rattle.std.proofs.lemmas.Grind.{fold-append}
use Rattle.rules.specs.declared.rows.Row.{Row}
use Rattle.rules.specs.Entries.{stands, childless, elders, is_among, is_own_or_elder}
use Rattle.rules.specs.FairCopy.{EachInTurn}
use Rattle.rules.proofs.Exchanges.{Same, Laws, same_sym, same_end, same_rightly, right_front, right_append, stays_ok, past_all}
use Rattle.rules.proofs.Bools.{parts_or}
use Rattle.rules.proofs.Pairs.{Pairs, pairs_weaker, pairs_and, pairs_from}
use Rattle.rules.proofs.Holdings.{Held, held, split, cross_held}
use Rattle.rules.proofs.Numbers.{among_cases}
use Rattle.rules.proofs.Kinship.{rest, stood, others, other_not, closed_others, kin_childless, elder_below, among_elder}
use Rattle.rules.proofs.Standing.{Core, own, Ordered, left_of, held_ok, frame_rest, seen_rest, own_rest}

module _ {V X : Type 0} {after : V → X → V} {Right : V → X → Type 0} {OkValue : V → Type 0} {OkItem : X → Type 0} {Cross : X → X → Type 0} (laws : Laws after Right OkValue OkItem Cross)
    {first : V} {rows : List Row} {table : List (Held X)} {copies : ℕ → List X} {value : V} {fair : List X} (core : Core after Right OkValue OkItem Cross first rows table copies value fair) where
  -- m crosses g wherever an elder of e holds g and e holds m
  abbrev pub Out : ℕ → Held X → Held X → Type 0
  Out e g m = is_among (elders rows e) g.holder ≡ true → own e m.holder ≡ true → Cross m.item g.item

  module _ (e : ℕ) (st : stands rows e ≡ true) (ch : childless rows e ≡ true) (out : All (λ g. All (Out e g) table) table) where
    abbrev own_lines : List X
    own_lines = held (own e) table

    facts : Pairs (λ g m. Ordered Cross rows g m × (Out e g m × Out e m g)) table
    facts = pairs_and _ _ table core.frame.order (pairs_from _ table out)

    not_own_elder : is_among (elders rows e) e ≡ true → ⊥
    not_own_elder h = let k : e < e = elder_below rows core.frame.grown (among_elder rows core.frame.grown e e h) in omega arith

    -- its own lines may go first among those that it sees
    own_first : Same Cross (held (is_own_or_elder rows e) table) (own_lines ++ held (is_among (elders rows e)) table)
    own_first = split (is_own_or_elder rows e) (own e) (is_among (elders rows e))
        (λ h. parts_or (own e h) (is_among (elders rows e) h) (λ a b. not_own_elder (subst (λ y. is_among (elders rows e) y ≡ true) (eqb-true h e a) b)))
        table
        (pairs_weaker (λ g m f b a. laws.symm m.item g.item (f.1.0 b a)) table facts)

    own_right : EachInTurn after Right value own_lines
    own_right = right_front laws value own_lines (held (is_among (elders rows e)) table) (same_rightly laws own_first value core.value_ok (held_ok core.frame (is_own_or_elder rows e)) (core.sees e st))

    own_ok : All OkItem own_lines
    own_ok = held_ok core.frame (own e)

    copy_is : Same Cross own_lines (copies e)
    copy_is = same_sym laws.symm (core.copied e st)

    abbrev pub committed_value : V
    committed_value = fold after value own_lines

    only_own : (f h : ℕ) → own e h ≡ true → is_own_or_elder rows f h ≡ true → f ≡ e
    only_own f h a b = kin_childless rows core.frame.grown e f h ch (eqb-true h e a) b

    -- its lines cross all that another sees
    crosses_seen : (f : ℕ) → (f ≡ e → ⊥) → All (λ x. All (Cross x) (held (is_own_or_elder rows f) table)) own_lines
    crosses_seen f d =
        let apart : (h : ℕ) → own e h ≡ true → is_own_or_elder rows f h ≡ true → ⊥ = λ h a b. d (only_own f h a b) in
        cross_held Cross (own e) (is_own_or_elder rows f) apart table
        (pairs_weaker (λ g m k. (
          λ a b. elim k.0 [
            | inl c ↦ c
            | inr h ↦ absurd (apart m.holder (eq-eqb m.holder e (only_own m.holder g.holder a h)) b)
          ],
          λ b a. elim k.0 [
            | inl c ↦ laws.symm g.item m.item c
            | inr h ↦ elim (among_cases g.holder e (elders rows e) (subst (λ y. is_own_or_elder rows y g.holder ≡ true) (eqb-true m.holder e a) h)) [
              | inl i ↦ absurd (apart g.holder (eq-eqb g.holder e i) b)
              | inr l ↦ k.1.0 l a
            ]
          ],
        ))
        table facts)

    pub committed : Core after Right OkValue OkItem Cross first (rest (others e) rows) (left_of (others e) table) copies committed_value (fair ++ copies e)
    committed = record {
      frame = frame_rest core.frame (others e) (closed_others rows core.frame.grown e ch);
      value_ok = stays_ok laws value own_lines core.value_ok own_ok;
      sees = λ f s. (let so = stood (others e) rows f s in
          subst (EachInTurn after Right committed_value) (sym (seen_rest core.frame (others e) (closed_others rows core.frame.grown e ch) f so.1))
          (past_all laws own_lines (held (is_own_or_elder rows f) table) value core.value_ok own_ok (held_ok core.frame (is_own_or_elder rows f)) (crosses_seen f (other_not e f so.1)) (core.sees f so.0)));
      copied = λ f s. (let so = stood (others e) rows f s in subst (Same Cross (copies f)) (sym (own_rest core.frame (others e) f so.1)) (core.copied f so.0));
      fair_right = right_append laws first fair (copies e) core.fair_right (subst (λ v. EachInTurn after Right v (copies e)) (sym core.fair_value) (same_rightly laws copy_is value core.value_ok own_ok own_right));
      fair_value = fold-append after first fair (copies e) ∙ ap (λ v. fold after v (copies e)) core.fair_value ∙ sym (same_end laws copy_is value core.value_ok own_ok);
    }
