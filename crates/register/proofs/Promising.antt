-- A call that gets the rules' answer and leaves the rules' state keeps all of its promise.
use Rattle.std.proofs.Common.{◌≡◌, ℕ, List, [], ◌∷◌, Some, None, Ok, Err, Option, Result, IsErrAnd, sym, refl, ap, ◌∙◌, subst}
use Rattle.std.proofs.lemmas.Result.{err_from_is_err_and}
use Rattle.cells.specs.Kinds.{Rules, CrossingLaw}
use Rattle.rules.specs.declared.calls.Call.{Call}
use Rattle.rules.specs.declared.calls.Reply.{Reply}
use Rattle.rules.specs.declared.refusals.Refusal.{Refusal}
use Rattle.rules.specs.States.{State, set_up}
use Rattle.rules.specs.Calls.{Answer, Outcome, at_value, first_no, questions, taken, unless_refused, step}
use Rattle.rules.specs.Calls.{turned_away as rules_turn_away}
use Rattle.rules.specs.FairCopy.{Event}
use Rattle.rules.proofs.Histories.{leads_append}
use Rattle.rules.proofs.Kinship.{Grown, elders_are}
use Rattle.rules.proofs.Law.{fair_copy_law}
use Rattle.rules.proofs.Refusing.{answers_rightly}
use Rattle.tables.proofs.InOrder.{grown}
use Rattle.register.specs.declared.Register.{Register}
use Rattle.register.specs.Views.{answered, view}
use Rattle.register.specs.Questions.{unless, passed, seen_unless}
use Rattle.register.specs.Promises.{Promised, LedTo, and_then, FairCopyStands}

pub stands_by_law : {V P O : Type 0} (R : Rules V P O) → CrossingLaw R → (s : State V P) → FairCopyStands R s
stands_by_law R law s first row_room line_room history led = fair_copy_law R law first row_room line_room history s led

-- what a call comes to, by what its questions came to
module _ {V P O X : Type 0} (s : State V P) (outcome : X → Outcome V P O) where
  abbrev by_questions : Result X Refusal → Outcome V P O
  by_questions (Ok x) = outcome x
  by_questions (Err refusal) = rules_turn_away s refusal

-- a register's rows are as begins and ends leave them
pub grown_in : {V P : Type 0} (g : Register V P) → Grown (view g).rows
grown_in g = grown (view g).rows g.in_order

module _ {V P O : Type 0} (R : Rules V P O) (law : CrossingLaw R) (s : State V P) (grows : Grown s.rows) (call : Call P) where
  pub promised : (answer : Answer V O) (t : State V P) → answer ≡ (step R s call).answer → t ≡ (step R s call).state → Promised R s call answer t
  promised answer t is_answer is_state =
      let right = answers_rightly R s (elders_are s.rows grows) in
      let leads_on : (first : List V) (row_room line_room : ℕ) (history : List (Event V P O)) → LedTo R first row_room line_room history s → LedTo R first row_room line_room (and_then history call answer) t =
      λ first row_room line_room history led. leads_append R (set_up R first row_room line_room) s t history (record { call = call; answer = answer } ∷ []) led (sym is_answer, sym is_state) in
      record {
        answer_is = is_answer;
        state_is = is_state;
        leaves_all = λ refusal h. is_state ∙ right.leaves_all call refusal (sym is_answer ∙ h);
        says_why = λ refusal h. right.says_why call refusal (sym is_answer ∙ h);
        says_first = λ refusal h. right.says_first call refusal (sym is_answer ∙ h);
        fails_none = λ reply h. right.taken_fails_none call reply (sym is_answer ∙ h);
        leads_on = leads_on;
        fair_copy = λ first row_room line_room history led. fair_copy_law R law first row_room line_room (and_then history call answer) t (leads_on first row_room line_room history led);
      }

  comes_to : {X : Type 0} (outcome : X → Outcome V P O) (r : Result X Refusal) → by_questions s outcome r ≡ step R s call → Promised R s call (by_questions s outcome r).answer (by_questions s outcome r).state
  comes_to outcome r is = promised (by_questions s outcome r).answer (by_questions s outcome r).state (ap (λ x. x.answer) is) (ap (λ x. x.state) is)

  -- `?` handed on the refusal
  pub handed_on : {X : Type 0} (reply : X → Reply V O) (r : Result X Refusal) (refusal : Refusal) → IsErrAnd r (λ x. x ≡ refusal) → Promised R s call (Err refusal) s → Promised R s call (answered reply r) s
  handed_on reply r refusal is h = let err = err_from_is_err_and r is in subst (λ y. Promised R s call (answered reply y) s) (sym (err.1 ∙ ap Err err.2)) h

  -- ---- a call that needs no value

  abbrev if_passed : Result (Unit {0}) Refusal → Outcome V P O
  if_passed = by_questions s (λ (x : Unit {0}). taken R s call)

  unrefused : (no_to : Option Refusal) → if_passed (unless (tt {0}) no_to) ≡ unless_refused R s no_to (taken R s call)
  unrefused None = refl
  unrefused (Some refusal) = refl

  on_answers : (r : Result (Unit {0}) Refusal) → r ≡ passed (questions R s call) → if_passed r ≡ step R s call
  on_answers r is = ap if_passed is ∙ unrefused (first_no (questions R s call))

  -- a question is answered no ..
  pub refused : {X : Type 0} (reply : X → Reply V O) (r : Result X Refusal) (refusal : Refusal) → IsErrAnd r (λ x. x ≡ refusal) → Err refusal ≡ passed (questions R s call) → Promised R s call (answered reply r) s
  refused reply r refusal is no_to = handed_on reply r refusal is (comes_to (λ (x : Unit {0}). taken R s call) (Err refusal) (on_answers (Err refusal) no_to))

  -- .. or none is
  pub took : Ok (tt {0}) ≡ passed (questions R s call) → (answer : Answer V O) (t : State V P) → answer ≡ (taken R s call).answer → t ≡ (taken R s call).state → Promised R s call answer t
  took passes answer t is_answer is_state =
      let on : taken R s call ≡ step R s call = on_answers (Ok (tt {0})) passes in
      promised answer t (is_answer ∙ ap (λ x. x.answer) on) (is_state ∙ ap (λ x. x.state) on)

  -- ---- a call that needs the value of a cell

  module _ (o : Option V) (outcome : V → Outcome V P O) where
    valued : (no_to : Option Refusal) → by_questions s outcome (seen_unless o no_to) ≡ unless_refused R s no_to (at_value s o outcome)
    valued None = elim o as (λ x. by_questions s outcome (seen_unless x None) ≡ at_value s x outcome) [ None ↦ refl | Some v ↦ refl ]
    valued (Some refusal) = elim o as (λ x. by_questions s outcome (seen_unless x (Some refusal)) ≡ rules_turn_away s refusal) [ None ↦ refl | Some v ↦ refl ]

    pub by_value : taken R s call ≡ at_value s o outcome → (r : Result V Refusal) → r ≡ seen_unless o (first_no (questions R s call)) → Promised R s call (by_questions s outcome r).answer (by_questions s outcome r).state
    by_value is r saw = comes_to outcome r (ap (by_questions s outcome) saw ∙ valued (first_no (questions R s call)) ∙ ap (unless_refused R s (first_no (questions R s call))) (sym is))

  -- .. and only shows it
  pub by_shown : (o : Option V) (reply : V → Reply V O) → taken R s call ≡ at_value s o (λ v. record { answer = Ok (reply v); state = s }) → (r : Result V Refusal) → r ≡ seen_unless o (first_no (questions R s call)) → Promised R s call (answered reply r) s
  by_shown o reply is (Ok v) saw = by_value o (λ x. record { answer = Ok (reply x); state = s }) is (Ok v) saw
  by_shown o reply is (Err refusal) saw = by_value o (λ x. record { answer = Ok (reply x); state = s }) is (Err refusal) saw
