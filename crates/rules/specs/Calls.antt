-- The rules of the calls: the questions to each in their order, and what it does and answers if none turns it away. Assumes nothing.
use Rattle.std.specs.Prelude.{ℕ, ◌+◌, Bool, true, false, if◌then◌else◌, not, ◌&&◌, ◌||◌, List, [], ◌∷◌, ◌++◌, map, length, Some, None, Ok, Err, fold, filter, Option, Result, ◌==◌, nat_lt}
use Rattle.std.specs.List.{list_any}
use Rattle.cells.specs.Kinds.{Rules}
use Rattle.cells.specs.Sequences.{after_all}
use Rattle.rules.specs.declared.lines.Line.{Line}
use Rattle.rules.specs.declared.rows.Row.{Row}
use Rattle.rules.specs.declared.calls.Call.{Call}
use Rattle.rules.specs.declared.calls.Call.TheVariants.{Begin, Post, Keep, Publish, Abandon, Value}
use Rattle.rules.specs.declared.calls.Reply.{Reply}
use Rattle.rules.specs.declared.calls.Reply.TheVariants as reply
use Rattle.rules.specs.declared.refusals.Refusal.{Refusal}
use Rattle.rules.specs.declared.refusals.Refusal.TheVariants.{Unsound, NotStanding, HasChild, NoSuchCell, UnlawfulPosting, InTheWay, HeldByElder, NoFreeRow, NoFreeLine, NoNumberLeft}
use Rattle.rules.specs.Entries.{stands, childless, parent_of, elders, is_among, is_own_or_elder, without, outside}
use Rattle.rules.specs.Cells.{value_at, of_value, store}
use Rattle.rules.specs.States.{State}

-- the answer to a call: the reply if it is taken, the refusal if it is turned away
abbrev pub Answer : Type 0 → Type 0 → Type 0
Answer V O = Result (Reply V O) Refusal

-- the answer, and what the register holds after the call
pub record Outcome (V P O : Type 0) : Type 0 where
  pub answer : Answer V O
  pub state : State V P

-- ---- lines

-- who holds what h held, once the lines of e have passed to q
abbrev pub holder_after : ℕ → ℕ → ℕ → ℕ
holder_after e q h = if h == e then q else h

module _ {P : Type 0} where
  abbrev pub held_by : ℕ → List (Line P) → List (Line P)
  held_by e ls = filter (λ l. l.holder == e) ls

  abbrev pub not_held_by : ℕ → List (Line P) → List (Line P)
  not_held_by e ls = filter (λ l. not (l.holder == e)) ls

  -- what e holds passes to q, each line in its place
  abbrev pub pass_on : ℕ → ℕ → List (Line P) → List (Line P)
  pass_on e q ls = map (λ l. record { holder = holder_after e q l.holder; cell = l.cell; posting = l.posting }) ls

  -- the holder of the earliest posted line that passes a test
  abbrev pub earliest_holder : (Line P → Bool) → List (Line P) → Option ℕ
  earliest_holder test [] = None
  earliest_holder test (l ∷ ls) = if test l then Some l.holder else earliest_holder test ls

module _ {V P O : Type 0} (R : Rules V P O) where
  -- what a value becomes by the lines on a cell that the entry or an elder holds, in posting order
  abbrev pub changed_by_own : List Row → ℕ → ℕ → V → List (Line P) → V
  changed_by_own rows e c v ls = after_all R v (map (λ l. l.posting) (filter (λ l. (l.cell == c) && is_own_or_elder rows e l.holder) ls))

  -- the seen value: the committed value of the cell, changed so
  abbrev pub seen : State V P → ℕ → ℕ → Option V
  seen s e c = of_value (λ v. changed_by_own s.rows e c v s.lines) (value_at s.values c)

  -- lines change the values in their order
  abbrev pub commit : List V → List (Line P) → List V
  commit = fold (λ vs l. store R vs l.cell l.posting)

  -- question 6 of one line: is it in the way of e's posting on c, held neither by e nor by an elder, and not crossed?
  abbrev pub stops_posting_in : List Row → ℕ → ℕ → P → Line P → Bool
  stops_posting_in rows e c p l = l.cell == c && (not (is_own_or_elder rows e l.holder) && not (R.crosses p l.posting))

  -- the same, asked of what the register holds
  abbrev pub stops_posting : State V P → ℕ → ℕ → P → Line P → Bool
  stops_posting s e c p l = stops_posting_in s.rows e c p l

  -- does e hold a line on the cell of m that does not cross m?
  abbrev pub holds_uncrossed : List (Line P) → ℕ → Line P → Bool
  holds_uncrossed ls e m = list_any (λ l. (l.holder == e) && (l.cell == m.cell && not (R.crosses l.posting m.posting))) ls

  -- question 7 of one line: does an elder of e hold it, and some line of e on the same cell not cross it?
  abbrev pub stops_publishing_in : List Row → List (Line P) → ℕ → Line P → Bool
  stops_publishing_in rows ls e m = is_among (elders rows e) m.holder && holds_uncrossed ls e m

  -- the same, asked of what the register holds
  abbrev pub stops_publishing : State V P → ℕ → Line P → Bool
  stops_publishing s e m = stops_publishing_in s.rows s.lines e m

-- ---- questions

-- A question is answered yes (None), or no, which gives the refusal.
abbrev pub ask : Bool → Refusal → Option Refusal
ask true refusal = None
ask false refusal = Some refusal

-- .. no on account of a holder
abbrev pub ask_holder : Option ℕ → (ℕ → Refusal) → Option Refusal
ask_holder None refusal = None
ask_holder (Some holder) refusal = Some (refusal holder)

abbrev pub first_no : List (Option Refusal) → Option Refusal
first_no [] = None
first_no (None ∷ qs) = first_no qs
first_no (Some refusal ∷ qs) = Some refusal

module _ {V P O : Type 0} (R : Rules V P O) where
  -- the questions to a call that come after the first
  abbrev pub further_questions : State V P → Call P → List (Option Refusal)
  further_questions s (Begin q) =
      ask (q == 0 || stands s.rows q) NotStanding
      ∷ ask (nat_lt (length s.rows) s.row_room) NoFreeRow
      ∷ ask (nat_lt s.begun 65535) NoNumberLeft
      ∷ []
  further_questions s (Post e c p) =
      ask (stands s.rows e) NotStanding
      ∷ ask (childless s.rows e) HasChild
      ∷ ask (nat_lt c (length s.values)) NoSuchCell
      ∷ ask (R.posting_lawful p) UnlawfulPosting
      ∷ ask_holder (earliest_holder (stops_posting R s e c p) s.lines) InTheWay
      ∷ ask (nat_lt (length s.lines) s.line_room) NoFreeLine
      ∷ []
  further_questions s (Keep e) = ask (stands s.rows e) NotStanding ∷ ask (childless s.rows e) HasChild ∷ []
  further_questions s (Publish e) =
      ask (stands s.rows e) NotStanding
      ∷ ask (childless s.rows e) HasChild
      ∷ ask_holder (earliest_holder (stops_publishing R s e) s.lines) HeldByElder
      ∷ []
  further_questions s (Abandon e) = ask (stands s.rows e) NotStanding ∷ []
  further_questions s (Value c) = ask (nat_lt c (length s.values)) NoSuchCell ∷ []

  abbrev pub questions : State V P → Call P → List (Option Refusal)
  questions s call = ask s.sound Unsound ∷ further_questions s call

-- ---- effects

module _ {V P : Type 0} where
  -- the same register with other values, rows and lines
  abbrev pub holding : State V P → List V → List Row → List (Line P) → State V P
  holding s values rows lines = record {
    sound = s.sound;
    values = values;
    rows = rows;
    lines = lines;
    begun = s.begun;
    row_room = s.row_room;
    line_room = s.line_room;
  }

  -- one begin more is taken: the next number stands under q
  abbrev pub begun_state : State V P → ℕ → State V P
  begun_state s q = record {
    sound = s.sound;
    values = s.values;
    rows = s.rows ++ (record { entry = s.begun + 1; parent = q } ∷ []);
    lines = s.lines;
    begun = s.begun + 1;
    row_room = s.row_room;
    line_room = s.line_room;
  }

  -- a line is added after all others
  abbrev pub posted_state : State V P → ℕ → ℕ → P → State V P
  posted_state s e c p = holding s s.values s.rows (s.lines ++ (record { holder = e; cell = c; posting = p } ∷ []))

  -- e ends, and its lines stay in their places and pass to q
  abbrev pub passed_state : State V P → ℕ → ℕ → State V P
  passed_state s e q = holding s s.values (without e s.rows) (pass_on e q s.lines)

  -- e ends with every entry that has it as an elder, and their lines end without effect
  abbrev pub abandoned_state : State V P → ℕ → State V P
  abandoned_state s e = holding s s.values (outside e s.rows) (filter (λ l. not (is_own_or_elder s.rows l.holder e)) s.lines)

  -- a call that is turned away leaves everything as it was
  abbrev pub turned_away : {O : Type 0} → State V P → Refusal → Outcome V P O
  turned_away s refusal = record { answer = Err refusal; state = s }

  -- question 4 has made sure that there is a value; the other case is here only because `value_at` answers an option
  abbrev pub at_value : {O : Type 0} → State V P → Option V → (V → Outcome V P O) → Outcome V P O
  at_value s None outcome = turned_away s NoSuchCell
  at_value s (Some v) outcome = outcome v

module _ {V P O : Type 0} (R : Rules V P O) where
  -- e ends, and its lines change the committed values in posting order and end
  abbrev pub committed_state : State V P → ℕ → State V P
  committed_state s e = holding s (commit R s.values (held_by e s.lines)) (without e s.rows) (not_held_by e s.lines)

  abbrev pub kept_state : State V P → ℕ → State V P
  kept_state s e = if parent_of s.rows e == 0 then committed_state s e else passed_state s e (parent_of s.rows e)

  -- a call that no question turns away
  abbrev pub taken : State V P → Call P → Outcome V P O
  taken s (Begin q) = record { answer = Ok (reply.Entry (s.begun + 1)); state = begun_state s q }
  taken s (Post e c p) = at_value s (seen R s e c) (λ v. record { answer = Ok (reply.Posted (R.answer v p)); state = posted_state s e c p })
  taken s (Keep e) = record { answer = Ok reply.Done; state = kept_state s e }
  taken s (Publish e) = record { answer = Ok reply.Done; state = committed_state s e }
  taken s (Abandon e) = record { answer = Ok reply.Done; state = abandoned_state s e }
  taken s (Value c) = at_value s (value_at s.values c) (λ v. record { answer = Ok (reply.Value v); state = s })

  abbrev pub unless_refused : State V P → Option Refusal → Outcome V P O → Outcome V P O
  unless_refused s None outcome = outcome
  unless_refused s (Some refusal) outcome = turned_away s refusal

  -- The one answer to a call, and what the register holds after it.
  abbrev pub step : State V P → Call P → Outcome V P O
  step s call = unless_refused s (first_no (questions R s call)) (taken s call)
