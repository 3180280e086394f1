-- A posting that crosses each of a list may stand anywhere among them.
use Rattle.std.proofs.Common.{◌≡◌, true, List, [], ◌∷◌, take, drop, sym, refl, ap, ◌∙◌}
use Rattle.std.specs.List.{All}
use Rattle.std.proofs.lemmas.List.{take-append-drop}
use Rattle.std.proofs.lemmas.List.Sums.{fold-append}
use Rattle.std.proofs.lemmas.List.Elements.{All-head, All-tail, All-take, All-drop, All-from_all_within}
use Rattle.cells.specs.Kinds.{Rules, CrossingLaw}
use Rattle.cells.specs.Sequences.{after_all, answers_of, CrossesEach, StandsAnywhere}

-- The posting q may be made at v before all of ps as well as after them.
pub record SameBeforeAndAfter {V P O : Type 0} (R : Rules V P O) (q : P) (v : V) (ps : List P) : Type 0 where
  pub own_answer : R.answer (after_all R v ps) q ≡ R.answer v q
  pub other_answers : answers_of R (R.after v q) ps ≡ answers_of R v ps
  pub end_value : after_all R (R.after v q) ps ≡ R.after (after_all R v ps) q

module _ {V P O : Type 0} {R : Rules V P O} (law : CrossingLaw R) where
  abbrev pub Lawful : P → Type 0
  Lawful p = R.posting_lawful p ≡ true

  abbrev pub CrossedBy : P → P → Type 0
  CrossedBy q p = R.crosses q p ≡ true

  pub lawful_after_all : (v : V) (ps : List P) → R.value_lawful v ≡ true → All Lawful ps → R.value_lawful (after_all R v ps) ≡ true
  lawful_after_all v [] ok oks = ok
  lawful_after_all v (p ∷ ps) ok oks = lawful_after_all (R.after v p) ps (law.stays_lawful v p ok (All-head Lawful p ps oks)) (All-tail Lawful p ps oks)

  -- a lawful posting that crosses each of them changes places with one after another
  pub same_before_and_after : (q : P) → Lawful q → (v : V) (ps : List P) → R.value_lawful v ≡ true → All Lawful ps → All (CrossedBy q) ps → SameBeforeAndAfter R q v ps
  same_before_and_after q q_ok v [] ok oks crossed = record { own_answer = refl; other_answers = refl; end_value = refl }
  same_before_and_after q q_ok v (p ∷ ps) ok oks crossed =
      let p_ok = All-head Lawful p ps oks in
      let p_crossed = All-head (CrossedBy q) p ps crossed in
      let swapped = law.one_end v q p ok q_ok p_ok p_crossed in
      let p_answer = law.same_answer v p q ok p_ok q_ok (law.both_ways q p p_crossed) in
      let q_answer = law.same_answer v q p ok q_ok p_ok p_crossed in
      let rest = same_before_and_after q q_ok (R.after v p) ps (law.stays_lawful v p ok p_ok) (All-tail Lawful p ps oks) (All-tail (CrossedBy q) p ps crossed) in
      record {
        own_answer = rest.own_answer ∙ sym q_answer;
        other_answers = let others = rest.other_answers in let later = ap (λ w. answers_of R w ps) swapped in cc;
        end_value = ap (λ w. after_all R w ps) swapped ∙ rest.end_value;
      }

  pub stands_anywhere : (q : P) (ps : List P) → CrossesEach R q ps → StandsAnywhere R q ps
  stands_anywhere q ps each_crossed q_ok each_lawful v ok i =
      let oks = All-from_all_within Lawful ps each_lawful in
      let crossed = All-from_all_within (CrossedBy q) ps each_crossed in
      let front = take i ps in
      let back = drop i ps in
      let between = after_all R v front in
      let front_ok = All-take Lawful i ps oks in
      let at_front = same_before_and_after q q_ok v front ok front_ok (All-take (CrossedBy q) i ps crossed) in
      let at_back = same_before_and_after q q_ok between back (lawful_after_all v front ok front_ok) (All-drop Lawful i ps oks) (All-drop (CrossedBy q) i ps crossed) in
      record {
        own_answer = at_front.own_answer;
        other_answers = at_back.other_answers;
        end_value =
            fold-append R.after v front (q ∷ back)
            ∙ at_back.end_value
            ∙ ap (λ w. R.after w q) (sym (fold-append R.after v front back) ∙ ap (after_all R v) (take-append-drop i ps));
      }
