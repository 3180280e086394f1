-- The first no to a list of questions: it is one of them, and has the least number of those that are answered no.
use Rattle.std.proofs.Common.{◌≡◌, ℕ, ◌<◌, ◌≤◌, Bool, true, false, ◌&&◌, ltb, ◌⊎◌, List, [], ◌∷◌, Some, None, Option, refl, subst, inl, inr, arith}
use Rattle.std.proofs.lemmas.Bool.{ltb-true, and_parts}
use Rattle.std.proofs.lemmas.Option.{same_Some}
use Rattle.rules.specs.declared.refusals.Refusal.{Refusal}
use Rattle.rules.specs.Refusals.{number_of}
use Rattle.rules.specs.Calls.{ask, ask_holder, first_no}

module _ (No : Refusal → Type 0) where
  -- a question of number n, if answered no, says a refusal of that number which holds
  abbrev pub Tells : Option Refusal → ℕ → Type 0
  Tells q n = (refusal : Refusal) → q ≡ Some refusal → (number_of refusal ≡ n) × No refusal

  pub ask_tells : (b : Bool) (r : Refusal) → (b ≡ false → No r) → Tells (ask b r) (number_of r)
  ask_tells true r f refusal h = cc
  ask_tells false r f refusal h = subst (λ x. (number_of x ≡ number_of r) × No x) (same_Some _ _ h) (refl, f refl)

  pub holder_tells : (o : Option ℕ) (r : ℕ → Refusal) (n : ℕ) → ((h : ℕ) → number_of (r h) ≡ n) → ((h : ℕ) → o ≡ Some h → No (r h)) → Tells (ask_holder o r) n
  holder_tells None r n number f refusal h = cc
  holder_tells (Some holder) r n number f refusal h = subst (λ x. (number_of x ≡ n) × No x) (same_Some _ _ h) (number holder, f holder refl)

  abbrev pub TellEach : List (Option Refusal) → List ℕ → Type 0
  TellEach [] [] = Unit {0}
  TellEach [] (n ∷ ns) = ⊥
  TellEach (q ∷ qs) [] = ⊥
  TellEach (q ∷ qs) (n ∷ ns) = Tells q n × TellEach qs ns

  pub first_says : (qs : List (Option Refusal)) (ns : List ℕ) → TellEach qs ns → (refusal : Refusal) → first_no qs ≡ Some refusal → No refusal
  first_says [] ns tell refusal h = cc
  first_says (q ∷ qs) [] tell refusal h = absurd tell
  first_says (None ∷ qs) (n ∷ ns) tell refusal h = first_says qs ns tell.1 refusal h
  first_says (Some r ∷ qs) (n ∷ ns) tell refusal h = (tell.0 refusal h).1

-- numbers that rise
abbrev is_below : ℕ → List ℕ → Bool
is_below n [] = true
is_below n (m ∷ ms) = ltb n m && is_below n ms

abbrev pub rise : List ℕ → Bool
rise [] = true
rise (n ∷ ns) = is_below n ns && rise ns

-- one of the questions is answered no, and says so
abbrev pub IsSaid : Refusal → List (Option Refusal) → Type 0
IsSaid refusal [] = ⊥
IsSaid refusal (q ∷ qs) = (q ≡ Some refusal) ⊎ IsSaid refusal qs

said_later : (No : Refusal → Type 0) (n : ℕ) (qs : List (Option Refusal)) (ns : List ℕ) → TellEach No qs ns → is_below n ns ≡ true → (other : Refusal) → IsSaid other qs → n < number_of other
said_later No n [] ns tell below other said = absurd said
said_later No n (q ∷ qs) [] tell below other said = absurd tell
said_later No n (q ∷ qs) (m ∷ ms) tell below other said =
    let belows = and_parts (ltb n m) (is_below n ms) below in
    elim said [
      | inl h ↦ (let is : number_of other ≡ m = (tell.0 other h).0 in let l : n < m = ltb-true n m belows.0 in omega arith)
      | inr later ↦ said_later No n qs ms tell.1 belows.1 other later
    ]

-- the first no has the least number
pub first_least : (No : Refusal → Type 0) (qs : List (Option Refusal)) (ns : List ℕ) → TellEach No qs ns → rise ns ≡ true → (other : Refusal) → IsSaid other qs → (refusal : Refusal) → first_no qs ≡ Some refusal → number_of refusal ≤ number_of other
first_least No [] ns tell rises other said refusal h = absurd said
first_least No (q ∷ qs) [] tell rises other said refusal h = absurd tell
first_least No (None ∷ qs) (n ∷ ns) tell rises other said refusal h = elim said [
  | inl e ↦ cc
  | inr later ↦ first_least No qs ns tell.1 (and_parts (is_below n ns) (rise ns) rises).1 other later refusal h
]
first_least No (Some r ∷ qs) (n ∷ ns) tell rises other said refusal h =
    let first_is : number_of refusal ≡ n = (tell.0 refusal h).0 in
    elim said [
      | inl e ↦ (let other_is : number_of other ≡ n = (tell.0 other e).0 in omega arith)
      | inr later ↦ (let l : n < number_of other = said_later No n qs ns tell.1 (and_parts (is_below n ns) (rise ns) rises).0 other later in omega arith)
    ]

pub none_said : (qs : List (Option Refusal)) → first_no qs ≡ None → (refusal : Refusal) → IsSaid refusal qs → ⊥
none_said [] h refusal said = said
none_said (None ∷ qs) h refusal said = elim said [ inl e ↦ cc | inr later ↦ none_said qs h refusal later ]
none_said (Some r ∷ qs) h refusal said = cc
