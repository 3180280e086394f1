-- Lines found by a test: some line, and the earliest one.
use Rattle.std.specs.List.{list_any}
use Rattle.std.proofs.Common.{◌≡◌, ℕ, Bool, true, cond, List, [], ◌∷◌, ◌++◌, Some, Decides, refl, ap, ◌∙◌, inl, inr}
use Rattle.std.specs.List.{AllByRecursion as All}
use Rattle.std.proofs.lemmas.Bool.{cond_both, both_ways, or_cases, or_left, or_right, false_from_ne_true}
use Rattle.std.proofs.lemmas.Option.{same_Some}
use Rattle.rules.specs.declared.lines.Line.{Line}
use Rattle.rules.specs.Calls.{earliest_holder}
use Rattle.rules.specs.TurnedAway.{Among, Earliest}

module _ {P : Type 0} where
  abbrev among_first : (x : Line P) (xs : List (Line P)) → Among x (x ∷ xs)
  among_first x xs = record { before = []; after = xs; is_there = refl }

  abbrev among_later : (x y : Line P) (xs : List (Line P)) → Among x xs → Among x (y ∷ xs)
  among_later x y xs a = record { before = y ∷ a.before; after = a.after; is_there = ap (λ l. y ∷ l) a.is_there }

  -- a line that passes a test is one of which the test says so, and the earliest is the earliest
  module _ (test : Line P → Bool) (Q : Line P → Type 0) (decides : (l : Line P) → Decides (test l) (Q l)) where
    some_among : (ls : List (Line P)) → list_any test ls ≡ true → (l : Line P) × Among l ls × Q l
    some_among [] h = cc
    some_among (l ∷ ls) h = elim (or_cases (test l) (list_any test ls) h) [
      | inl t ↦ (l, among_first l ls, (decides l).0 t)
      | inr u ↦ (let found = some_among ls u in (found.0, among_later found.0 l ls found.1, found.2))
    ]

    some_at : (before after : List (Line P)) (l : Line P) → Q l → list_any test (before ++ (l ∷ after)) ≡ true
    some_at [] after l q = or_left (test l) (list_any test after) ((decides l).1 q)
    some_at (x ∷ before) after l q = or_right (test x) (list_any test (before ++ (l ∷ after))) (some_at before after l q)

    pub some_is : (ls : List (Line P)) → Decides (list_any test ls) ((l : Line P) × Among l ls × Q l)
    some_is ls = (some_among ls, λ found. ap (list_any test) found.1.is_there ∙ some_at found.1.before found.1.after found.0 found.2)

    pub earliest_is : (ls : List (Line P)) (h : ℕ) → earliest_holder test ls ≡ Some h → Earliest Q ls h
    earliest_is [] h e = cc
    earliest_is (l ∷ ls) h e =
        cond_both (test l) (Some l.holder) (earliest_holder test ls) (λ o. o ≡ Some h → Earliest Q (l ∷ ls) h)
        (λ t k. record { line = l; place = among_first l ls; has_it = (decides l).0 t; none_before = tt; its_holder = same_Some _ _ k })
        (λ f k. (
        let found = earliest_is ls h k in
        record {
          line = found.line;
          place = among_later found.line l ls found.place;
          has_it = found.has_it;
          none_before = (λ q. both_ways _ f ((decides l).1 q), found.none_before);
          its_holder = found.its_holder;
        }
        ))
        e

    found_at : (before after : List (Line P)) (l : Line P) → All (λ m. Q m → ⊥) before → Q l → earliest_holder test (before ++ (l ∷ after)) ≡ Some l.holder
    found_at [] after l none q = ap (λ b. cond b (Some l.holder) (earliest_holder test after)) ((decides l).1 q)
    found_at (m ∷ before) after l none q =
        ap (λ b. cond b (Some m.holder) (earliest_holder test (before ++ (l ∷ after)))) (false_from_ne_true (test m) (λ t. none.0 ((decides m).0 t)))
        ∙ found_at before after l none.1 q

    pub earliest_found : (ls : List (Line P)) (h : ℕ) → Earliest Q ls h → earliest_holder test ls ≡ Some h
    earliest_found ls h e =
        ap (earliest_holder test) e.place.is_there
        ∙ found_at e.place.before e.place.after e.line e.none_before e.has_it
        ∙ ap (λ x. Some x) e.its_holder
