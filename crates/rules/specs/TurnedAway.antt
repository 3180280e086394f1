-- What it says that a call is turned away: the first question that it fails, in the words of the questions. Assumes nothing.
use Rattle.std.specs.Prelude.{◌≡◌, ℕ, ◌<◌, ◌≤◌, false, List, ◌∷◌, ◌++◌, length, Ok, Err, ◌≢◌}
use Rattle.std.specs.List.{AllByRecursion}
use Rattle.cells.specs.Kinds.{Rules}
use Rattle.rules.specs.declared.lines.Line.{Line}
use Rattle.rules.specs.declared.calls.Call.{Call}
use Rattle.rules.specs.declared.calls.Call.TheVariants.{Begin, Post, Keep, Publish, Abandon, Value}
use Rattle.rules.specs.declared.calls.Reply.{Reply}
use Rattle.rules.specs.declared.refusals.Refusal.{Refusal}
use Rattle.rules.specs.declared.refusals.Refusal.TheVariants.{Unsound, NotStanding, HasChild, NoSuchCell, UnlawfulPosting, InTheWay, HeldByElder, NoFreeRow, NoFreeLine, NoNumberLeft}
use Rattle.rules.specs.Refusals.{number_of, holder_of}
use Rattle.rules.specs.Entries.{Elder, stands, childless}
use Rattle.rules.specs.States.{State, set_up}
use Rattle.rules.specs.Calls.{step}
use Rattle.rules.specs.FairCopy.{Event, Leads}

-- x is an element of a list
pub record Among {X : Type 0} (x : X) (xs : List X) : Type 0 where
  pub before : List X
  pub after : List X
  pub is_there : xs ≡ before ++ (x ∷ after)

-- of these lines the earliest posted that has a property, and h holds it
pub record Earliest {P : Type 0} (HasIt : Line P → Type 0) (lines : List (Line P)) (h : ℕ) : Type 0 where
  pub line : Line P
  pub place : Among line lines
  pub has_it : HasIt line
  pub none_before : AllByRecursion (λ l. HasIt l → ⊥) place.before
  pub its_holder : line.holder ≡ h

-- what holds of a call, by which call it is and what it names
abbrev pub by_call : {P : Type 0} → (ℕ → Type 0) → (ℕ → ℕ → P → Type 0) → (ℕ → Type 0) → (ℕ → Type 0) → (ℕ → Type 0) → (ℕ → Type 0) → Call P → Type 0
by_call begin post keep publish abandon value (Begin q) = begin q
by_call begin post keep publish abandon value (Post e c p) = post e c p
by_call begin post keep publish abandon value (Keep e) = keep e
by_call begin post keep publish abandon value (Publish e) = publish e
by_call begin post keep publish abandon value (Abandon e) = abandon e
by_call begin post keep publish abandon value (Value c) = value c

-- a question that is not asked of a call does not fail
abbrev pub not_asked : ℕ → Type 0
not_asked n = ⊥

module _ {V P O : Type 0} (R : Rules V P O) (s : State V P) where
  -- A line is in the way of a posting p by e on the cell c if it is on that cell and its holder is neither e nor an elder of e.
  -- It stops the posting if besides p does not cross it.
  pub record StopsPosting (e c : ℕ) (p : P) (l : Line P) : Type 0 where
    pub on_cell : l.cell ≡ c
    pub not_own : l.holder ≡ e → ⊥
    pub not_elders : Elder s.rows l.holder e → ⊥
    pub not_crossed : R.crosses p l.posting ≡ false

  -- A line m stops the publishing of e if an elder of e holds it, and a line of e on the same cell does not cross it.
  pub record StopsPublishing (e : ℕ) (m : Line P) : Type 0 where
    pub elders : Elder s.rows m.holder e
    pub line : Line P
    pub stands_too : Among line s.lines
    pub own : line.holder ≡ e
    pub same_cell : line.cell ≡ m.cell
    pub not_crossed : R.crosses line.posting m.posting ≡ false

  abbrev stands_not : ℕ → Type 0
  stands_not e = stands s.rows e ≡ false

  abbrev has_child : ℕ → Type 0
  has_child e = childless s.rows e ≡ false

  abbrev no_cell : ℕ → Type 0
  no_cell c = length s.values ≤ c

  -- The question of a refusal is asked of a call and is answered no. The six columns are begin, post, keep, publish, abandon, value.
  abbrev pub Fails : Refusal → Call P → Type 0
  Fails Unsound call = s.sound ≡ false
  Fails NotStanding call = by_call (λ q. (q ≢ 0) × stands_not q) (λ e c p. stands_not e) stands_not stands_not stands_not not_asked call
  Fails HasChild call = by_call not_asked (λ e c p. has_child e) has_child has_child not_asked not_asked call
  Fails NoSuchCell call = by_call not_asked (λ e c p. no_cell c) not_asked not_asked not_asked no_cell call
  Fails UnlawfulPosting call = by_call not_asked (λ e c p. R.posting_lawful p ≡ false) not_asked not_asked not_asked not_asked call
  Fails (InTheWay h) call = by_call not_asked (λ e c p. Earliest (StopsPosting e c p) s.lines h) not_asked not_asked not_asked not_asked call
  Fails (HeldByElder h) call = by_call not_asked (λ e c p. ⊥) not_asked (λ e. Earliest (StopsPublishing e) s.lines h) not_asked not_asked call
  Fails NoFreeRow call = by_call (λ q. s.row_room ≤ length s.rows) (λ e c p. ⊥) not_asked not_asked not_asked not_asked call
  Fails NoFreeLine call = by_call not_asked (λ e c p. s.line_room ≤ length s.lines) not_asked not_asked not_asked not_asked call
  Fails NoNumberLeft call = by_call (λ q. 65535 ≤ s.begun) (λ e c p. ⊥) not_asked not_asked not_asked not_asked call

  -- what the answers to calls in this state say
  pub record AnswersRightly : Type 0 where
    -- a call that is turned away leaves everything as it was
    pub leaves_all : (call : Call P) (refusal : Refusal) → (step R s call).answer ≡ Err refusal → (step R s call).state ≡ s
    -- it is told a question that it fails ..
    pub says_why : (call : Call P) (refusal : Refusal) → (step R s call).answer ≡ Err refusal → Fails refusal call
    -- .. and that is the first of them
    pub says_first : (call : Call P) (refusal : Refusal) → (step R s call).answer ≡ Err refusal → (other : Refusal) → number_of other < number_of refusal → Fails other call → ⊥
    -- a call that is taken fails none
    pub taken_fails_none : (call : Call P) (reply : Reply V O) → (step R s call).answer ≡ Ok reply → (refusal : Refusal) → Fails refusal call → ⊥
    -- 6 and 7 name a holder, every other number names 0
    pub names_nobody : (refusal : Refusal) → (number_of refusal ≢ 6) → (number_of refusal ≢ 7) → holder_of refusal ≡ 0

-- Wherever a history leads from set-up by steps.
abbrev pub RefusalLaw : {V P O : Type 0} → Rules V P O → Type 0
RefusalLaw {V} {P} {O} R =
    (first : List V) (row_room line_room : ℕ) (history : List (Event V P O)) (s : State V P)
    → Leads R (set_up R first row_room line_room) history s
    → AnswersRightly R s
