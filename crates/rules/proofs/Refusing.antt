-- What every refusal says: each question asks what it means, and so the first no is the first question that the call fails.
use Rattle.std.proofs.Common.{◌≡◌, ℕ, ◌<◌, ◌≤◌, true, eqb, List, [], ◌∷◌, length, Ok, Err, Decides, refl, ap, inl, inr, arith}
use Rattle.std.proofs.lemmas.Bool.Decides.{Decides-like, Decides-and, Decides-or, Decides-not, Decides-eqb}
use Rattle.std.proofs.lemmas.Bool.{both_ways, false_from_ne_true, eqb-false, ne_eqb, ltb-false, le-ltb, or_parts, or_from}
use Rattle.cells.specs.Kinds.{Rules, CrossingLaw}
use Rattle.rules.specs.declared.lines.Line.{Line}
use Rattle.rules.specs.declared.calls.Call.{Call}
use Rattle.rules.specs.declared.calls.Call.TheVariants.{Begin, Post, Keep, Publish, Abandon, Value}
use Rattle.rules.specs.declared.calls.Reply.{Reply}
use Rattle.rules.specs.declared.refusals.Refusal.{Refusal}
use Rattle.rules.specs.declared.refusals.Refusal.TheVariants.{Unsound, NotStanding, HasChild, NoSuchCell, UnlawfulPosting, InTheWay, HeldByElder, NoFreeRow, NoFreeLine, NoNumberLeft}
use Rattle.rules.specs.Refusals.{number_of, holder_of}
use Rattle.rules.specs.Entries.{stands, Elder, elders, is_among}
use Rattle.rules.specs.States.{State}
use Rattle.rules.specs.Calls.{stops_posting, stops_publishing, ask, ask_holder, first_no, questions, taken, step}
use Rattle.rules.specs.TurnedAway.{StopsPosting, StopsPublishing, Fails, AnswersRightly, RefusalLaw}
use Rattle.rules.proofs.FirstNo.{TellEach, ask_tells, holder_tells, first_says, rise, IsSaid, first_least, none_said}
use Rattle.rules.proofs.Outcomes.{refused_by, taken_by, effect_refused, leaves_by}
use Rattle.rules.proofs.EarliestLines.{some_is, earliest_is, earliest_found}
use Rattle.rules.proofs.Law.{fair_copy_law}

-- ---- questions 6 and 7

module _ {V P O : Type 0} (R : Rules V P O) (s : State V P) (elders_are : (e x : ℕ) → Decides (is_among (elders s.rows e) x) (Elder s.rows x e)) where
  crosses_is : (p o : P) → Decides (R.crosses p o) (R.crosses p o ≡ true)
  crosses_is p o = (λ h. h, λ h. h)

  stops_posting_is : (e c : ℕ) (p : P) (l : Line P) → Decides (stops_posting R s e c p l) (StopsPosting R s e c p l)
  stops_posting_is e c p l =
      Decides-like _
      (λ w. record { on_cell = w.0; not_own = λ i. w.1.0 (inl i); not_elders = λ k. w.1.0 (inr k); not_crossed = false_from_ne_true _ w.1.1 })
      (λ w. (w.on_cell, ((λ o. elim o [ inl i ↦ w.not_own i | inr k ↦ w.not_elders k ]), both_ways _ w.not_crossed)))
      (Decides-and _ _ (Decides-eqb l.cell c)
      (Decides-and _ _ (Decides-not _ (Decides-or _ _ (Decides-eqb l.holder e) (elders_are e l.holder))) (Decides-not _ (crosses_is p l.posting))))

  stops_publishing_is : (e : ℕ) (m : Line P) → Decides (stops_publishing R s e m) (StopsPublishing R s e m)
  stops_publishing_is e m =
      Decides-like _
      (λ w. record { elders = w.0; line = w.1.0; stands_too = w.1.1; own = w.1.2.0; same_cell = w.1.2.1.0; not_crossed = false_from_ne_true _ w.1.2.1.1 })
      (λ w. (w.elders, (w.line, w.stands_too, (w.own, (w.same_cell, both_ways _ w.not_crossed)))))
      (Decides-and _ _ (elders_are e m.holder)
      (some_is _ _ (λ l. Decides-and _ _ (Decides-eqb l.holder e) (Decides-and _ _ (Decides-eqb l.cell m.cell) (Decides-not _ (crosses_is l.posting m.posting)))) s.lines))

  -- ---- each question says what it asks

  -- the numbers of the questions to a call
  abbrev numbers : Call P → List ℕ
  numbers (Begin q) = 1 ∷ 2 ∷ 8 ∷ 10 ∷ []
  numbers (Post e c p) = 1 ∷ 2 ∷ 3 ∷ 4 ∷ 5 ∷ 6 ∷ 9 ∷ []
  numbers (Keep e) = 1 ∷ 2 ∷ 3 ∷ []
  numbers (Publish e) = 1 ∷ 2 ∷ 3 ∷ 7 ∷ []
  numbers (Abandon e) = 1 ∷ 2 ∷ []
  numbers (Value c) = 1 ∷ 4 ∷ []

  tells : (call : Call P) → TellEach (λ r. Fails R s r call) (questions R s call) (numbers call)
  tells (Begin q) = (
    ask_tells _ _ Unsound (λ h. h),
    (
      ask_tells _ _ NotStanding (λ h. (let hs = or_parts (eqb q 0) (stands s.rows q) h in (eqb-false q 0 hs.0, hs.1))),
      (ask_tells _ _ NoFreeRow (ltb-false _ _), (ask_tells _ _ NoNumberLeft (ltb-false _ _), tt)),
    ),
  )
  tells (Post e c p) = (
    ask_tells _ _ Unsound (λ h. h),
    (
      ask_tells _ _ NotStanding (λ h. h),
      (
        ask_tells _ _ HasChild (λ h. h),
        (
          ask_tells _ _ NoSuchCell (ltb-false _ _),
          (
            ask_tells _ _ UnlawfulPosting (λ h. h),
            (holder_tells _ _ InTheWay 6 (λ h. refl) (earliest_is _ _ (stops_posting_is e c p) s.lines), (ask_tells _ _ NoFreeLine (ltb-false _ _), tt)),
          ),
        ),
      ),
    ),
  )
  tells (Keep e) = (ask_tells _ _ Unsound (λ h. h), (ask_tells _ _ NotStanding (λ h. h), (ask_tells _ _ HasChild (λ h. h), tt)))
  tells (Publish e) = (
    ask_tells _ _ Unsound (λ h. h),
    (
      ask_tells _ _ NotStanding (λ h. h),
      (
        ask_tells _ _ HasChild (λ h. h),
        (holder_tells _ _ HeldByElder 7 (λ h. refl) (earliest_is _ _ (stops_publishing_is e) s.lines), tt),
      ),
    ),
  )
  tells (Abandon e) = (ask_tells _ _ Unsound (λ h. h), (ask_tells _ _ NotStanding (λ h. h), tt))
  tells (Value c) = (ask_tells _ _ Unsound (λ h. h), (ask_tells _ _ NoSuchCell (ltb-false _ _), tt))

  numbers_rise : (call : Call P) → rise (numbers call) ≡ true
  numbers_rise (Begin q) = refl
  numbers_rise call = refl

  -- a question that fails is among those that the call is asked, and says so
  fails_said : (refusal : Refusal) (call : Call P) → Fails R s refusal call → IsSaid refusal (questions R s call)
  fails_said Unsound call no_to = inl (ap (λ b. ask b Unsound) no_to)
  fails_said NotStanding (Begin q) no_to = inr (inl (ap (λ b. ask b NotStanding) (or_from (eqb q 0) (stands s.rows q) (ne_eqb q 0 no_to.0) no_to.1)))
  fails_said NotStanding (Post e c p) no_to = inr (inl (ap (λ b. ask b NotStanding) no_to))
  fails_said NotStanding (Keep e) no_to = inr (inl (ap (λ b. ask b NotStanding) no_to))
  fails_said NotStanding (Publish e) no_to = inr (inl (ap (λ b. ask b NotStanding) no_to))
  fails_said NotStanding (Abandon e) no_to = inr (inl (ap (λ b. ask b NotStanding) no_to))
  fails_said HasChild (Post e c p) no_to = inr (inr (inl (ap (λ b. ask b HasChild) no_to)))
  fails_said HasChild (Keep e) no_to = inr (inr (inl (ap (λ b. ask b HasChild) no_to)))
  fails_said HasChild (Publish e) no_to = inr (inr (inl (ap (λ b. ask b HasChild) no_to)))
  fails_said NoSuchCell (Post e c p) no_to = inr (inr (inr (inl (ap (λ b. ask b NoSuchCell) (le-ltb c (length s.values) no_to)))))
  fails_said NoSuchCell (Value c) no_to = inr (inl (ap (λ b. ask b NoSuchCell) (le-ltb c (length s.values) no_to)))
  fails_said UnlawfulPosting (Post e c p) no_to = inr (inr (inr (inr (inl (ap (λ b. ask b UnlawfulPosting) no_to)))))
  fails_said (InTheWay h) (Post e c p) no_to = inr (inr (inr (inr (inr (inl (ap (λ o. ask_holder o InTheWay) (earliest_found _ _ (stops_posting_is e c p) s.lines h no_to)))))))
  fails_said (HeldByElder h) (Publish e) no_to = inr (inr (inr (inl (ap (λ o. ask_holder o HeldByElder) (earliest_found _ _ (stops_publishing_is e) s.lines h no_to)))))
  fails_said NoFreeRow (Begin q) no_to = inr (inr (inl (ap (λ b. ask b NoFreeRow) (le-ltb (length s.rows) s.row_room no_to))))
  fails_said NoFreeLine (Post e c p) no_to = inr (inr (inr (inr (inr (inr (inl (ap (λ b. ask b NoFreeLine) (le-ltb (length s.lines) s.line_room no_to))))))))
  fails_said NoNumberLeft (Begin q) no_to = inr (inr (inr (inl (ap (λ b. ask b NoNumberLeft) (le-ltb s.begun 65535 no_to)))))
  fails_said refusal call no_to = absurd no_to

  says_why : (call : Call P) (refusal : Refusal) → (step R s call).answer ≡ Err refusal → Fails R s refusal call
  says_why call refusal h = elim (refused_by R s (first_no (questions R s call)) (taken R s call) refusal h) [
    | inl first ↦ first_says (λ r. Fails R s r call) (questions R s call) (numbers call) (tells call) refusal first
    | inr effect ↦ (effect_refused R s call refusal effect.1).1
  ]

  says_first : (call : Call P) (refusal : Refusal) → (step R s call).answer ≡ Err refusal → (other : Refusal) → number_of other < number_of refusal → Fails R s other call → ⊥
  says_first call refusal h other less fails =
      let said = fails_said other call fails in
      elim (refused_by R s (first_no (questions R s call)) (taken R s call) refusal h) [
        | inl first ↦
            let least : number_of refusal ≤ number_of other = first_least (λ r. Fails R s r call) (questions R s call) (numbers call) (tells call) (numbers_rise call) other said refusal first in
            omega arith
        | inr effect ↦ none_said (questions R s call) effect.0 other said
      ]

  taken_fails_none : (call : Call P) (reply : Reply V O) → (step R s call).answer ≡ Ok reply → (refusal : Refusal) → Fails R s refusal call → ⊥
  taken_fails_none call reply h refusal fails = none_said (questions R s call) (taken_by R s (first_no (questions R s call)) (taken R s call) reply h) refusal (fails_said refusal call fails)

names_nobody : (refusal : Refusal) → (number_of refusal ≡ 6 → ⊥) → (number_of refusal ≡ 7 → ⊥) → holder_of refusal ≡ 0
names_nobody (InTheWay h) six seven = absurd (six refl)
names_nobody (HeldByElder h) six seven = absurd (seven refl)
names_nobody refusal six seven = refl

-- where the list of elders names just the elders, every answer is right
pub answers_rightly : {V P O : Type 0} (R : Rules V P O) (s : State V P) → ((e x : ℕ) → Decides (is_among (elders s.rows e) x) (Elder s.rows x e)) → AnswersRightly R s
answers_rightly R s are = record {
  leaves_all = λ call refusal h. leaves_by R s (first_no (questions R s call)) (taken R s call) refusal (λ e. (effect_refused R s call refusal e).0) h;
  says_why = says_why R s are;
  says_first = says_first R s are;
  taken_fails_none = taken_fails_none R s are;
  names_nobody = names_nobody;
}

pub refusal_law : {V P O : Type 0} (R : Rules V P O) → CrossingLaw R → RefusalLaw R
refusal_law R law first rows lines history s leads = answers_rightly R s (fair_copy_law R law first rows lines history s leads).elders_are
