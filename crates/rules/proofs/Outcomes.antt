-- Whether a call was taken or turned away, from its answer; and that a call turned away leaves everything as it was.
use Rattle.std.proofs.Common.{◌≡◌, ℕ, ◌≤◌, ◌⊎◌, List, length, Some, None, Ok, Err, Option, refl, sym, ◌∙◌, subst, inl, inr}
use Rattle.std.proofs.lemmas.Option.{slice_get_cases}
use Rattle.cells.specs.Kinds.{Rules}
use Rattle.rules.specs.declared.calls.Call.{Call}
use Rattle.rules.specs.declared.calls.Call.TheVariants.{Post, Value}
use Rattle.rules.specs.declared.calls.Reply.{Reply}
use Rattle.rules.specs.declared.refusals.Refusal.{Refusal}
use Rattle.rules.specs.declared.refusals.Refusal.TheVariants.{NoSuchCell}
use Rattle.rules.specs.Cells.{value_at, of_value}
use Rattle.rules.specs.States.{State}
use Rattle.rules.specs.Calls.{Outcome, seen, at_value, taken, unless_refused}
use Rattle.rules.specs.TurnedAway.{Fails}

of_none : {V W : Type 0} (f : V → W) (o : Option V) → of_value f o ≡ None → o ≡ None
of_none f None h = refl
of_none f (Some v) h = cc

value_past : {V : Type 0} (vs : List V) (c : ℕ) → value_at vs c ≡ None → length vs ≤ c
value_past vs c h = elim (slice_get_cases vs c).1 [ inl w ↦ cc (sym h ∙ w.2) | inr p ↦ p.0 ]

module _ {V P O : Type 0} (R : Rules V P O) (s : State V P) where
  pub refused_by : (o : Option Refusal) (outcome : Outcome V P O) (refusal : Refusal) → (unless_refused R s o outcome).answer ≡ Err refusal → (o ≡ Some refusal) ⊎ ((o ≡ None) × (outcome.answer ≡ Err refusal))
  refused_by None outcome refusal h = inr (refl, h)
  refused_by (Some r) outcome refusal h = inl (cc)

  pub taken_by : (o : Option Refusal) (outcome : Outcome V P O) (reply : Reply V O) → (unless_refused R s o outcome).answer ≡ Ok reply → o ≡ None
  taken_by None outcome reply h = refl
  taken_by (Some r) outcome reply h = cc

  -- an effect is refused only where it needs the value of a cell that there is not
  value_refused : (o : Option V) (outcome : V → Outcome V P O) (refusal : Refusal) → ((v : V) → (outcome v).answer ≡ Err refusal → ⊥)
      → (at_value s o outcome).answer ≡ Err refusal → ((at_value s o outcome).state ≡ s) × ((NoSuchCell ≡ refusal) × (o ≡ None))
  value_refused None outcome refusal never h = (refl, (cc, refl))
  value_refused (Some v) outcome refusal never h = absurd (never v h)

  -- where an effect is refused, nothing has changed, and the refusal says why
  pub effect_refused : (call : Call P) (refusal : Refusal) → (taken R s call).answer ≡ Err refusal → ((taken R s call).state ≡ s) × Fails R s refusal call
  effect_refused (Post e c p) refusal h =
      let why = value_refused (seen R s e c) (λ v. _) refusal (λ v k. cc) h in
      (why.0, subst (λ r. Fails R s r (Post e c p)) why.1.0 (value_past s.values c (of_none _ (value_at s.values c) why.1.1)))
  effect_refused (Value c) refusal h =
      let why = value_refused (value_at s.values c) (λ v. _) refusal (λ v k. cc) h in
      (why.0, subst (λ r. Fails R s r (Value c)) why.1.0 (value_past s.values c why.1.1))
  effect_refused call refusal h = cc

  pub leaves_by : (o : Option Refusal) (outcome : Outcome V P O) (refusal : Refusal) → (outcome.answer ≡ Err refusal → outcome.state ≡ s) → (unless_refused R s o outcome).answer ≡ Err refusal → (unless_refused R s o outcome).state ≡ s
  leaves_by None outcome refusal leaves h = leaves h
  leaves_by (Some r) outcome refusal leaves h = refl
