-- Worked cases of the rules: calls, the answer to each of them, and the committed values that they come to; for some also what the
-- book writes or what an entry sees. Assumes nothing.
use Rattle.std.specs.Prelude.{◌≡◌, ℕ, true, List, [], ◌∷◌, map, replicate, ℤ, pos, neg_ℤ, Some, Ok, Err}
use Rattle.cells.specs.Kinds.{Rules}
use Rattle.cells.specs.Levels.{level_rules}
use Rattle.cells.specs.Totals.{total_rules}
use Rattle.cells.specs.Marks.{mark_rules}
use Rattle.cells.specs.declared.answers.Answer as cells
use Rattle.cells.specs.declared.answers.Answer.TheVariants.{Seen, Done}
use Rattle.cells.specs.declared.levels.LevelPosting.{LevelPosting}
use Rattle.cells.specs.declared.levels.LevelPosting.TheVariants as level
use Rattle.cells.specs.declared.totals.TotalPosting.{TotalPosting}
use Rattle.cells.specs.declared.totals.TotalPosting.TheVariants as total
use Rattle.cells.specs.declared.marks.MarkPosting.{MarkPosting}
use Rattle.cells.specs.declared.marks.MarkPosting.TheVariants as mark
use Rattle.rules.specs.declared.calls.Call.{Call}
use Rattle.rules.specs.declared.calls.Call.TheVariants.{Begin, Post, Keep, Publish, Abandon, Value}
use Rattle.rules.specs.declared.calls.Reply.TheVariants as reply
use Rattle.rules.specs.declared.refusals.Refusal.{Refusal}
use Rattle.rules.specs.declared.refusals.Refusal.TheVariants.{Unsound, NotStanding, HasChild, NoSuchCell, UnlawfulPosting, InTheWay, HeldByElder, NoFreeRow, NoFreeLine, NoNumberLeft}
use Rattle.rules.specs.Refusals.{number_of, holder_of}
use Rattle.rules.specs.States.{State, set_up}
use Rattle.rules.specs.Calls as calls
use Rattle.rules.specs.Calls.{Answer, step}
use Rattle.rules.specs.Books.{Copied, Copy, empty, then_line, then_block, lines_of}
use Rattle.rules.specs.FairCopy.{Event, book_of, GetTheirAnswers, values_after}

-- ---- what calls come to

-- the answers to some calls, and the committed values after the last of them
pub record Ending (V O : Type 0) : Type 0 where
  pub answers : List (Answer V O)
  pub values : List V

module _ {V P O : Type 0} (R : Rules V P O) where
  -- the answers that calls get one after another, from a state on
  abbrev pub answers_to : State V P → List (Call P) → List (Answer V O)
  answers_to s [] = []
  answers_to s (call ∷ calls) = (step R s call).answer ∷ answers_to (step R s call).state calls

  -- what the register holds after them
  abbrev pub state_after : State V P → List (Call P) → State V P
  state_after s [] = s
  state_after s (call ∷ calls) = state_after (step R s call).state calls

  abbrev pub ending_of : State V P → List (Call P) → Ending V O
  ending_of s calls = record { answers = answers_to s calls; values = (state_after s calls).values }

  -- from a state on, each call gets the answer beside it, and at the end the committed values are these
  abbrev pub ComesTo : State V P → List (Event V P O) → List V → Type 0
  ComesTo s events values = ending_of s (map (λ x. x.call) events) ≡ record { answers = map (λ x. x.answer) events; values = values }

  -- .. from set-up on, with room for so many rows and lines, and with these first values
  abbrev pub CaseWithRoom : ℕ → ℕ → List V → List (Event V P O) → List V → Type 0
  CaseWithRoom row_room line_room first events values = ComesTo (set_up R first row_room line_room) events values

  -- .. with room for 4 rows and 8 lines
  abbrev pub Case : List V → List (Event V P O) → List V → Type 0
  Case first events values = CaseWithRoom 4 8 first events values

  -- .. at the end no entry stands, and the book that is fed the calls with these answers has this fair copy
  abbrev pub BookCase : List V → List (Event V P O) → List V → Copy P O → Type 0
  BookCase first events values copy = Case first events values × (book_of events ≡ record { fair = copy; pages = [] })

-- ---- how a case is written

infix 70 ◌gets◌
abbrev ◌gets◌ : {V P O : Type 0} → Call P → Answer V O → Event V P O
call gets answer = record { call = call; answer = answer }

-- numbers, and postings that name a number
abbrev minus : ℕ → ℤ
minus n = neg_ℤ (pos n)

abbrev set : ℕ → LevelPosting
set n = level.Set (pos n)

abbrev add : ℕ → TotalPosting
add n = total.Add (pos n)

abbrev raise : ℕ → MarkPosting
raise n = mark.Raise (pos n)

-- the values of one cell, and of two
abbrev one_cell : ℕ → List ℤ
one_cell n = pos n ∷ []

abbrev two_cells : ℕ → ℕ → List ℤ
two_cells n m = pos n ∷ pos m ∷ []

-- levels, totals and marks have the same answers
abbrev NumberAnswer : Type 0
NumberAnswer = Answer ℤ (cells.Answer ℤ)

-- to a begin: the new entry's number
abbrev entry : ℕ → NumberAnswer
entry n = Ok (reply.Entry n)

-- to a look: the value that it finds
abbrev seen : ℕ → NumberAnswer
seen n = Ok (reply.Posted (Seen (pos n)))

-- to any other posting
abbrev posted : NumberAnswer
posted = Ok (reply.Posted Done)

-- to a keep, a publish and an abandon
abbrev done : NumberAnswer
done = Ok reply.Done

-- to a value: the committed value
abbrev value : ℕ → NumberAnswer
value n = Ok (reply.Value (pos n))

-- to a call that is turned away: the question that said no
abbrev turned : Refusal → NumberAnswer
turned refusal = Err refusal

-- a line of a copy that was answered only that it is done
abbrev line : {P : Type 0} → ℕ → P → Copied P (cells.Answer ℤ)
line c p = record { cell = c; posting = p; answer = Done }

-- A child sets another cell than its parent did and is published; another child looks at what the parent set and is kept.
abbrev example : List (Event ℤ LevelPosting (cells.Answer ℤ))
example =
    Begin 0 gets entry 1
    ∷ Post 1 0 (set 5) gets posted
    ∷ Begin 1 gets entry 2
    ∷ Post 2 1 (set 60) gets posted
    ∷ Publish 2 gets done
    ∷ Begin 1 gets entry 3
    ∷ Post 3 0 level.Look gets seen 5
    ∷ Keep 3 gets done
    ∷ Keep 1 gets done
    ∷ []

-- every call is turned away as unsound, whatever is posted
abbrev all_turned : {P : Type 0} → P → List (Event ℤ P (cells.Answer ℤ))
all_turned p =
    Begin 0 gets turned Unsound
    ∷ Post 1 0 p gets turned Unsound
    ∷ Keep 1 gets turned Unsound
    ∷ Publish 1 gets turned Unsound
    ∷ Abandon 1 gets turned Unsound
    ∷ Value 0 gets turned Unsound
    ∷ []

-- a register of one row and one line after so many begins, when no entry stands
abbrev after_begins : ℕ → State ℤ LevelPosting
after_begins n = record { sound = true; values = one_cell 0; rows = []; lines = []; begun = n; row_room = 1; line_room = 1 }

-- every refusal; those that name a holder name 11 and 12
abbrev refusals : List Refusal
refusals = Unsound ∷ NotStanding ∷ HasChild ∷ NoSuchCell ∷ UnlawfulPosting ∷ InTheWay 11 ∷ HeldByElder 12 ∷ NoFreeRow ∷ NoFreeLine ∷ NoNumberLeft ∷ []

-- ---- the cases

pub record WorkedCases : Type 0 where
  -- ---- kinds of cell
  -- a total turns over at 1,000,000,000
  pub total_turns_over :
      Case total_rules (one_cell 999_999_990)
      (Begin 0 gets entry 1
      ∷ Post 1 0 (add 15) gets posted
      ∷ Keep 1 gets done
      ∷ []) (one_cell 5)
  -- two top entries add to one total; the one that posted first is kept first ..
  pub additions_kept_in_order :
      Case total_rules (one_cell 0)
      (Begin 0 gets entry 1 ∷ Begin 0 gets entry 2
      ∷ Post 1 0 (add 3) gets posted
      ∷ Post 2 0 (add 4) gets posted
      ∷ Keep 1 gets done
      ∷ Value 0 gets value 3
      ∷ Keep 2 gets done
      ∷ []) (one_cell 7)
  -- .. or it is kept last
  pub additions_kept_the_other_way :
      Case total_rules (one_cell 0)
      (Begin 0 gets entry 1 ∷ Begin 0 gets entry 2
      ∷ Post 1 0 (add 3) gets posted
      ∷ Post 2 0 (add 4) gets posted
      ∷ Keep 2 gets done
      ∷ Value 0 gets value 4
      ∷ Keep 1 gets done
      ∷ []) (one_cell 7)
  -- the largest addition that is lawful, and two that are not
  pub unlawful_additions :
      Case total_rules (one_cell 0)
      (Begin 0 gets entry 1
      ∷ Post 1 0 (add 999_999_999) gets posted
      ∷ Post 1 0 (add 1_000_000_000) gets turned UnlawfulPosting
      ∷ Post 1 0 (total.Add (minus 1)) gets turned UnlawfulPosting
      ∷ Keep 1 gets done
      ∷ []) (one_cell 999_999_999)
  -- a raise below the mark leaves it
  pub raise_below_the_mark :
      Case mark_rules (minus 40 ∷ [])
      (Begin 0 gets entry 1
      ∷ Post 1 0 (mark.Raise (minus 50)) gets posted
      ∷ Keep 1 gets done
      ∷ []) (minus 40 ∷ [])
  -- ---- what an entry sees
  -- an entry sees what another one set and kept
  pub sees_what_was_kept :
      Case level_rules (one_cell 0)
      (Begin 0 gets entry 1
      ∷ Post 1 0 (set 7) gets posted
      ∷ Keep 1 gets done
      ∷ Begin 0 gets entry 2
      ∷ Post 2 0 level.Look gets seen 7
      ∷ []) (one_cell 7)
  -- an entry sees what its parent set, and so do the entries inside it
  pub sees_what_elders_set :
      Case level_rules (one_cell 0)
      (Begin 0 gets entry 1
      ∷ Post 1 0 (set 250) gets posted
      ∷ Begin 1 gets entry 2
      ∷ Post 2 0 level.Look gets seen 250
      ∷ Begin 2 gets entry 3
      ∷ Post 3 0 level.Look gets seen 250
      ∷ []) (one_cell 0)
  -- an entry sees what its kept child set; it is stored only when the entry itself is kept
  pub sees_what_a_kept_child_set :
      Case level_rules (one_cell 0)
      (Begin 0 gets entry 1 ∷ Begin 1 gets entry 2
      ∷ Post 2 0 (set 250) gets posted
      ∷ Keep 2 gets done
      ∷ Value 0 gets value 0
      ∷ Post 1 0 level.Look gets seen 250
      ∷ Keep 1 gets done
      ∷ []) (one_cell 250)
  -- an entry does not see what its abandoned child set
  pub does_not_see_what_an_abandoned_child_set :
      Case level_rules (one_cell 0)
      (Begin 0 gets entry 1 ∷ Begin 1 gets entry 2
      ∷ Post 2 0 (set 250) gets posted
      ∷ Abandon 2 gets done
      ∷ Post 1 0 level.Look gets seen 0
      ∷ []) (one_cell 0)
  -- an entry does not see on one cell what it set on another
  pub sees_each_cell_alone :
      Case level_rules (two_cells 0 0)
      (Begin 0 gets entry 1
      ∷ Post 1 0 (set 250) gets posted
      ∷ Post 1 1 level.Look gets seen 0
      ∷ []) (two_cells 0 0)
  -- an entry does not see what another one posted that is no elder, though the postings cross
  pub does_not_see_what_others_add :
      map (λ e. calls.seen total_rules
      (state_after total_rules (set_up total_rules (one_cell 0) 4 8)
      (Begin 0 ∷ Begin 0
      ∷ Post 1 0 (add 3)
      ∷ Post 2 0 (add 4)
      ∷ [])) e 0) (1 ∷ 2 ∷ [])
      ≡ Some (pos 3) ∷ Some (pos 4) ∷ []
  -- ---- keep, publish and abandon
  -- a keep stores all lines of the entry, in posting order
  pub keep_stores_every_line :
      Case level_rules (two_cells 0 0)
      (Begin 0 gets entry 1
      ∷ Post 1 0 (set 3) gets posted
      ∷ Post 1 1 (set 60) gets posted
      ∷ Post 1 0 (set 4) gets posted
      ∷ Keep 1 gets done
      ∷ []) (two_cells 4 60)
  -- what was published is stored, and no line of it is left in the way
  pub published_is_seen :
      Case level_rules (one_cell 0)
      (Begin 0 gets entry 1
      ∷ Post 1 0 (set 250) gets posted
      ∷ Publish 1 gets done
      ∷ Begin 0 gets entry 2
      ∷ Post 2 0 level.Look gets seen 250
      ∷ []) (one_cell 250)
  -- what a child published stays when its parent is abandoned
  pub published_stays :
      Case level_rules (two_cells 0 0)
      (Begin 0 gets entry 1 ∷ Begin 1 gets entry 2
      ∷ Post 2 1 (set 60) gets posted
      ∷ Publish 2 gets done
      ∷ Abandon 1 gets done
      ∷ Value 1 gets value 60
      ∷ []) (two_cells 0 60)
  -- an abandon ends the entries inside, to any depth, and drops their lines; other entries stand
  pub abandon_ends_all_inside :
      Case level_rules (one_cell 0)
      (Begin 0 gets entry 1 ∷ Begin 1 gets entry 2 ∷ Begin 2 gets entry 3 ∷ Begin 0 gets entry 4
      ∷ Post 3 0 (set 250) gets posted
      ∷ Abandon 1 gets done
      ∷ Keep 3 gets turned NotStanding
      ∷ Keep 2 gets turned NotStanding
      ∷ Post 4 0 level.Look gets seen 0
      ∷ []) (one_cell 0)
  -- with one row and one line: an entry that is published, kept or abandoned frees both
  pub ended_are_free :
      CaseWithRoom total_rules 1 1 (one_cell 0)
      (Begin 0 gets entry 1
      ∷ Post 1 0 (add 3) gets posted
      ∷ Publish 1 gets done
      ∷ Begin 0 gets entry 2
      ∷ Post 2 0 (add 4) gets posted
      ∷ Keep 2 gets done
      ∷ Begin 0 gets entry 3
      ∷ Post 3 0 (add 5) gets posted
      ∷ Abandon 3 gets done
      ∷ Begin 0 gets entry 4
      ∷ Post 4 0 (add 6) gets posted
      ∷ []) (one_cell 7)
  -- ---- children of one parent, and lines that a kept child passed on
  -- an entry may have several standing children; a sibling's line is in the way until it is kept, and is then an elder's
  pub siblings :
      Case level_rules (one_cell 0)
      (Begin 0 gets entry 1 ∷ Begin 1 gets entry 2 ∷ Begin 1 gets entry 3
      ∷ Post 2 0 (set 250) gets posted
      ∷ Post 3 0 level.Look gets turned (InTheWay 2)
      ∷ Keep 2 gets done
      ∷ Post 3 0 level.Look gets seen 250
      ∷ []) (one_cell 0)
  -- an abandon leaves the siblings and their lines
  pub abandon_leaves_siblings :
      Case total_rules (one_cell 0)
      (Begin 0 gets entry 1 ∷ Begin 1 gets entry 2 ∷ Begin 1 gets entry 3
      ∷ Post 2 0 (add 3) gets posted
      ∷ Post 3 0 (add 4) gets posted
      ∷ Abandon 2 gets done
      ∷ Keep 3 gets done
      ∷ Keep 1 gets done
      ∷ []) (one_cell 4)
  -- lines that a kept child passed on keep their places, and are now its parent's
  pub passed_lines_keep_their_places :
      Case total_rules (one_cell 0)
      (Begin 0 gets entry 1 ∷ Begin 1 gets entry 2 ∷ Begin 0 gets entry 3 ∷ Begin 0 gets entry 4
      ∷ Post 2 0 (add 3) gets posted
      ∷ Post 3 0 (add 4) gets posted
      ∷ Post 4 0 total.Look gets turned (InTheWay 2)
      ∷ Keep 2 gets done
      ∷ Post 4 0 total.Look gets turned (InTheWay 1)
      ∷ []) (one_cell 0)
  -- lines that a kept child passed on stand after those that its parent had posted before
  pub passed_lines_come_after :
      Case level_rules (one_cell 0)
      (Begin 0 gets entry 1
      ∷ Post 1 0 (set 3) gets posted
      ∷ Begin 1 gets entry 2
      ∷ Post 2 0 (set 4) gets posted
      ∷ Keep 2 gets done
      ∷ Keep 1 gets done
      ∷ []) (one_cell 4)
  -- a line that a kept child passed on is its parent's at a publish
  pub elder_has_a_passed_line :
      Case level_rules (two_cells 0 0)
      (Begin 0 gets entry 1 ∷ Begin 1 gets entry 2 ∷ Begin 2 gets entry 3
      ∷ Post 3 0 level.Look gets seen 0
      ∷ Keep 3 gets done
      ∷ Begin 2 gets entry 4
      ∷ Post 4 1 (set 60) gets posted
      ∷ Post 4 0 (set 250) gets posted
      ∷ Publish 4 gets turned (HeldByElder 2)
      ∷ []) (two_cells 0 0)
  -- a publish stores all lines of the entry, also those passed on to it, in posting order
  pub publish_stores_every_line :
      Case level_rules (two_cells 0 0)
      (Begin 0 gets entry 1 ∷ Begin 1 gets entry 2 ∷ Begin 2 gets entry 3
      ∷ Post 3 0 (set 3) gets posted
      ∷ Keep 3 gets done
      ∷ Post 2 1 (set 60) gets posted
      ∷ Post 2 0 (set 4) gets posted
      ∷ Publish 2 gets done
      ∷ []) (two_cells 4 60)
  -- ---- lines in the way of a posting
  -- a look is turned away until the other entry's set is kept
  pub look_at_what_another_set :
      Case level_rules (one_cell 0)
      (Begin 0 gets entry 1 ∷ Begin 0 gets entry 2
      ∷ Post 1 0 (set 250) gets posted
      ∷ Post 2 0 level.Look gets turned (InTheWay 1)
      ∷ Keep 1 gets done
      ∷ Post 2 0 level.Look gets seen 250
      ∷ Abandon 1 gets turned NotStanding
      ∷ []) (one_cell 250)
  -- two entries look, and then neither can set
  pub set_of_what_another_looked_at :
      Case level_rules (one_cell 0)
      (Begin 0 gets entry 1 ∷ Begin 0 gets entry 2
      ∷ Post 1 0 level.Look gets seen 0
      ∷ Post 2 0 level.Look gets seen 0
      ∷ Post 1 0 (set 250) gets turned (InTheWay 2)
      ∷ Post 2 0 (set 250) gets turned (InTheWay 1)
      ∷ []) (one_cell 0)
  -- a raise does not cross a look, even below the present mark
  pub raise_after_a_look :
      Case mark_rules (one_cell 10)
      (Begin 0 gets entry 1 ∷ Begin 0 gets entry 2
      ∷ Post 1 0 mark.Look gets seen 10
      ∷ Post 2 0 (raise 5) gets turned (InTheWay 1)
      ∷ []) (one_cell 10)
  -- an addition does not cross a look, even one of 0
  pub addition_after_a_look :
      Case total_rules (one_cell 10)
      (Begin 0 gets entry 1 ∷ Begin 0 gets entry 2
      ∷ Post 1 0 total.Look gets seen 10
      ∷ Post 2 0 (add 0) gets turned (InTheWay 1)
      ∷ []) (one_cell 10)
  -- an elder's line is not in the way, and it stays when the child is abandoned
  pub elder_is_not_in_the_way :
      Case level_rules (one_cell 0)
      (Begin 0 gets entry 1
      ∷ Post 1 0 (set 250) gets posted
      ∷ Begin 1 gets entry 2
      ∷ Post 2 0 (set 260) gets posted
      ∷ Post 2 0 level.Look gets seen 260
      ∷ Abandon 2 gets done
      ∷ Post 1 0 level.Look gets seen 250
      ∷ []) (one_cell 0)
  -- of two lines in the way the one posted first names its holder, whichever entry was begun first
  pub first_posted_is_named :
      Case total_rules (two_cells 0 0)
      (Begin 0 gets entry 1 ∷ Begin 0 gets entry 2 ∷ Begin 0 gets entry 3
      ∷ Post 1 0 (add 3) gets posted
      ∷ Post 2 0 (add 4) gets posted
      ∷ Post 2 1 (add 5) gets posted
      ∷ Post 1 1 (add 6) gets posted
      ∷ Post 3 0 total.Look gets turned (InTheWay 1)
      ∷ Post 3 1 total.Look gets turned (InTheWay 2)
      ∷ []) (two_cells 0 0)
  -- a line in the way that the posting crosses does not name its holder
  pub crossed_is_not_named :
      Case level_rules (one_cell 0)
      (Begin 0 gets entry 1
      ∷ Post 1 0 level.Look gets seen 0
      ∷ Begin 1 gets entry 2
      ∷ Post 2 0 (set 250) gets posted
      ∷ Begin 0 gets entry 3
      ∷ Post 3 0 level.Look gets turned (InTheWay 2)
      ∷ []) (one_cell 0)
  -- ---- lines of elders at a publish
  -- a child that set what its parent has looked at is not published, but it can be kept
  pub elder_has_looked :
      Case level_rules (one_cell 0)
      (Begin 0 gets entry 1
      ∷ Post 1 0 level.Look gets seen 0
      ∷ Begin 1 gets entry 2
      ∷ Post 2 0 (set 250) gets posted
      ∷ Publish 2 gets turned (HeldByElder 1)
      ∷ Keep 2 gets done
      ∷ []) (one_cell 0)
  -- of two elders that have looked the one that posted first is named
  pub first_elder_is_named :
      Case level_rules (one_cell 0)
      (Begin 0 gets entry 1
      ∷ Post 1 0 level.Look gets seen 0
      ∷ Begin 1 gets entry 2
      ∷ Post 2 0 level.Look gets seen 0
      ∷ Begin 2 gets entry 3
      ∷ Post 3 0 (set 250) gets posted
      ∷ Publish 3 gets turned (HeldByElder 1)
      ∷ []) (one_cell 0)
  -- an elder whose line is crossed is not named; a standing child is asked about before elders
  pub crossed_elder_is_not_named :
      Case level_rules (one_cell 0)
      (Begin 0 gets entry 1
      ∷ Post 1 0 level.Look gets seen 0
      ∷ Begin 1 gets entry 2
      ∷ Post 2 0 (set 250) gets posted
      ∷ Begin 2 gets entry 3
      ∷ Post 3 0 level.Look gets seen 250
      ∷ Publish 2 gets turned HasChild
      ∷ Publish 3 gets turned (HeldByElder 2)
      ∷ []) (one_cell 0)
  -- lines on other cells turn away neither a publish nor a posting
  pub other_cells_are_free :
      Case level_rules (two_cells 0 0)
      (Begin 0 gets entry 1
      ∷ Post 1 0 (set 250) gets posted
      ∷ Begin 1 gets entry 2
      ∷ Post 2 1 (set 60) gets posted
      ∷ Publish 2 gets done
      ∷ Begin 0 gets entry 3
      ∷ Post 3 1 level.Look gets seen 60
      ∷ []) (two_cells 0 60)
  -- ---- the other questions
  -- an entry whose child stands can neither post nor be kept or published
  pub child_stands :
      Case level_rules (one_cell 0)
      (Begin 0 gets entry 1 ∷ Begin 1 gets entry 2
      ∷ Keep 1 gets turned HasChild
      ∷ Publish 1 gets turned HasChild
      ∷ Post 1 0 level.Look gets turned HasChild
      ∷ Keep 2 gets done
      ∷ Keep 1 gets done
      ∷ []) (one_cell 0)
  -- a parent has to stand, and the register itself is no entry
  pub not_standing :
      Case level_rules (one_cell 0)
      (Begin 0 gets entry 1
      ∷ Begin 2 gets turned NotStanding
      ∷ Post 0 0 level.Look gets turned NotStanding
      ∷ Keep 0 gets turned NotStanding
      ∷ Publish 0 gets turned NotStanding
      ∷ Abandon 0 gets turned NotStanding
      ∷ []) (one_cell 0)
  -- two cells are numbered 0 and 1
  pub no_such_cell :
      Case level_rules (two_cells 0 60)
      (Begin 0 gets entry 1
      ∷ Post 1 1 level.Look gets seen 60
      ∷ Post 1 2 level.Look gets turned NoSuchCell
      ∷ Value 1 gets value 60
      ∷ Value 2 gets turned NoSuchCell
      ∷ []) (two_cells 0 60)
  -- with one row: the row is used again, and the entry's number is not
  pub one_row :
      CaseWithRoom level_rules 1 8 (one_cell 0)
      (Begin 0 gets entry 1
      ∷ Begin 0 gets turned NoFreeRow
      ∷ Abandon 1 gets done
      ∷ Begin 0 gets entry 2
      ∷ []) (one_cell 0)
  -- with one line: a look fills it as well
  pub one_line :
      CaseWithRoom level_rules 4 1 (one_cell 0)
      (Begin 0 gets entry 1
      ∷ Post 1 0 level.Look gets seen 0
      ∷ Post 1 0 (set 250) gets turned NoFreeLine
      ∷ []) (one_cell 0)
  -- 65,535 is the last number of an entry
  pub last_number :
      ComesTo level_rules (after_begins 65_534)
      (Begin 0 gets entry 65_535
      ∷ Begin 0 gets turned NoFreeRow
      ∷ Keep 65_535 gets done
      ∷ Begin 0 gets turned NoNumberLeft
      ∷ []) (one_cell 0)
  -- where several questions say no the first one counts; 3 rows and one line, all filled
  pub first_no_counts :
      CaseWithRoom total_rules 3 1 (one_cell 0)
      (Begin 0 gets entry 1
      ∷ Post 1 0 total.Look gets seen 0
      ∷ Begin 1 gets entry 2 ∷ Begin 0 gets entry 3
      ∷ Begin 4 gets turned NotStanding
      ∷ Post 4 1 (add 1_000_000_000) gets turned NotStanding
      ∷ Post 1 1 (add 1_000_000_000) gets turned HasChild
      ∷ Post 3 1 (add 1_000_000_000) gets turned NoSuchCell
      ∷ Post 3 0 (add 1_000_000_000) gets turned UnlawfulPosting
      ∷ Post 3 0 (add 4) gets turned (InTheWay 1)
      ∷ Post 3 0 total.Look gets turned NoFreeLine
      ∷ []) (one_cell 0)
  -- ---- the fair copy
  -- the published child comes first, and the kept one stands inside its parent: not the order of posting
  pub example_of_a_copy :
      BookCase level_rules (two_cells 0 0) example (two_cells 5 60)
      (then_block (then_block empty 2 (then_line empty (line 1 (set 60)))) 1
      (then_block (then_line empty (line 0 (set 5))) 3
      (then_line empty (record { cell = 0; posting = level.Look; answer = Seen (pos 5) }))))
  -- .. posted on the first values it gets the same answers ..
  pub example_posted : GetTheirAnswers level_rules (two_cells 0 0) (lines_of (book_of example).fair)
  -- .. and ends in the same values
  pub example_ends : values_after level_rules (two_cells 0 0) (lines_of (book_of example).fair) ≡ two_cells 5 60
  -- a kept child is one block, at the place in its parent's copy where it was kept
  pub kept_child_is_a_block :
      BookCase total_rules (one_cell 0)
      (Begin 0 gets entry 1
      ∷ Post 1 0 (add 3) gets posted
      ∷ Begin 1 gets entry 2
      ∷ Post 2 0 (add 4) gets posted
      ∷ Keep 2 gets done
      ∷ Post 1 0 (add 5) gets posted
      ∷ Keep 1 gets done
      ∷ []) (one_cell 12)
      (then_block empty 1 (then_line (then_block (then_line empty (line 0 (add 3))) 2 (then_line empty (line 0 (add 4)))) (line 0 (add 5))))
  -- what was published from inside is a block of its own, before its parent's; calls turned away leave no trace
  pub published_child_is_apart :
      BookCase total_rules (one_cell 0)
      (Begin 0 gets entry 1
      ∷ Post 1 0 (add 3) gets posted
      ∷ Begin 1 gets entry 2
      ∷ Post 2 0 (add 4) gets posted
      ∷ Keep 1 gets turned HasChild
      ∷ Publish 2 gets done
      ∷ Keep 1 gets done
      ∷ []) (one_cell 7)
      (then_block (then_block empty 2 (then_line empty (line 0 (add 4)))) 1 (then_line empty (line 0 (add 3))))
  -- what was abandoned is nowhere in the book
  pub abandoned_is_dropped :
      BookCase total_rules (one_cell 0)
      (Begin 0 gets entry 1 ∷ Begin 1 gets entry 2 ∷ Begin 2 gets entry 3
      ∷ Post 3 0 (add 3) gets posted
      ∷ Keep 3 gets done
      ∷ Begin 2 gets entry 4
      ∷ Abandon 1 gets done
      ∷ []) (one_cell 0) empty
  -- ---- tables out of their sizes and unlawful first values, where every call is turned away
  -- no cell
  pub no_cells : Case level_rules [] (all_turned level.Look) []
  -- one cell too many
  pub too_many_cells : Case level_rules (replicate 4097 (pos 0)) (all_turned level.Look) (replicate 4097 (pos 0))
  -- no row
  pub no_rows : CaseWithRoom level_rules 0 8 (one_cell 0) (all_turned level.Look) (one_cell 0)
  -- one row too many
  pub too_many_rows : CaseWithRoom level_rules 257 8 (one_cell 0) (all_turned level.Look) (one_cell 0)
  -- no line
  pub no_lines : CaseWithRoom level_rules 4 0 (one_cell 0) (all_turned level.Look) (one_cell 0)
  -- one line too many
  pub too_many_lines : CaseWithRoom level_rules 4 4097 (one_cell 0) (all_turned level.Look) (one_cell 0)
  -- an unlawful first value, of one cell among lawful ones
  pub unlawful_first_value : Case total_rules (pos 0 ∷ minus 1 ∷ pos 0 ∷ []) (all_turned total.Look) (pos 0 ∷ minus 1 ∷ pos 0 ∷ [])
  -- the largest tables, in which calls are taken
  pub largest_tables :
      CaseWithRoom level_rules 256 4096 (replicate 4096 (pos 0))
      (Begin 0 gets entry 1
      ∷ Post 1 4095 level.Look gets seen 0
      ∷ Value 4095 gets value 0
      ∷ Value 4096 gets turned NoSuchCell
      ∷ []) (replicate 4096 (pos 0))
  -- ---- refusals
  -- each refusal has the number of its question ..
  pub refusal_numbers : map number_of refusals ≡ 1 ∷ 2 ∷ 3 ∷ 4 ∷ 5 ∷ 6 ∷ 7 ∷ 8 ∷ 9 ∷ 10 ∷ []
  -- .. and only the two that are about lines name a holder
  pub refusal_holders : map holder_of refusals ≡ 0 ∷ 0 ∷ 0 ∷ 0 ∷ 0 ∷ 11 ∷ 12 ∷ 0 ∷ 0 ∷ 0 ∷ []
