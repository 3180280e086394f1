-- The book, which writes the fair copy. It is fed the calls with their answers, and nothing from the tables. Assumes nothing.
use Rattle.std.specs.Prelude.{ℕ, Bool, true, false, if◌then◌else◌, not, List, [], ◌∷◌, ◌++◌, map, Some, None, Ok, Err, filter, Option, ◌==◌}
use Rattle.rules.specs.declared.rows.Row.{Row}
use Rattle.rules.specs.declared.calls.Call.{Call}
use Rattle.rules.specs.declared.calls.Call.TheVariants.{Begin, Post, Keep, Publish, Abandon, Value}
use Rattle.rules.specs.declared.calls.Reply.TheVariants as reply
use Rattle.rules.specs.Entries.{parent_of, is_own_or_elder}
use Rattle.rules.specs.Calls.{Answer}

-- A line of a copy: what was posted where, and the answer that it got. Its holder is not written: that is the entry whose copy it
-- stands in.
pub record Copied (P O : Type 0) : Type 0 where
  pub cell : ℕ
  pub posting : P
  pub answer : O

-- A copy is a list of lines and of blocks. A block is the copy of an entry that was kept or published, under its number.
pub data Copy (P O : Type 0) : Type 0 where
  empty : Copy P O
  then_line : Copy P O → Copied P O → Copy P O
  then_block : Copy P O → ℕ → Copy P O → Copy P O

-- the lines of a copy in turn, those of a block where it stands
abbrev pub lines_of : {P O : Type 0} → Copy P O → List (Copied P O)
lines_of empty = []
lines_of (then_line copy line) = lines_of copy ++ (line ∷ [])
lines_of (then_block copy child block) = lines_of copy ++ lines_of block

-- a standing entry in the book: its parent, and its copy so far
pub record Page (P O : Type 0) : Type 0 where
  pub entry : ℕ
  pub parent : ℕ
  pub copy : Copy P O

pub record Book (P O : Type 0) : Type 0 where
  pub fair : Copy P O
  -- first begun to last begun
  pub pages : List (Page P O)

module _ {P O : Type 0} where
  abbrev pub new_book : Book P O
  new_book = record { fair = empty; pages = [] }

  -- the standing entries of the book with their parents
  abbrev pub rows_of : List (Page P O) → List Row
  rows_of pages = map (λ g. record { entry = g.entry; parent = g.parent }) pages

  abbrev pub copy_of : List (Page P O) → ℕ → Copy P O
  copy_of [] e = empty
  copy_of (g ∷ pages) e = if g.entry == e then g.copy else copy_of pages e

  -- an entry's copy is written on
  abbrev pub write_on : ℕ → (Copy P O → Copy P O) → List (Page P O) → List (Page P O)
  write_on e more pages = map (λ g. record { entry = g.entry; parent = g.parent; copy = if g.entry == e then more g.copy else g.copy }) pages

  -- its page is taken out
  abbrev pub take_out : ℕ → List (Page P O) → List (Page P O)
  take_out e pages = filter (λ g. not (g.entry == e)) pages

  -- .. with the pages of all that have it as an elder
  abbrev pub take_out_all : ℕ → List (Page P O) → List (Page P O)
  take_out_all e pages = filter (λ g. not (is_own_or_elder (rows_of pages) g.entry e)) pages

  abbrev pub with_begun : Book P O → ℕ → ℕ → Book P O
  with_begun b n q = record { fair = b.fair; pages = b.pages ++ (record { entry = n; parent = q; copy = empty } ∷ []) }

  abbrev pub with_line : Book P O → ℕ → Copied P O → Book P O
  with_line b e line = record { fair = b.fair; pages = write_on e (λ copy. then_line copy line) b.pages }

  -- the entry's copy goes as one block to the end of the fair copy
  abbrev pub with_fair_block : Book P O → ℕ → Book P O
  with_fair_block b e = record { fair = then_block b.fair e (copy_of b.pages e); pages = take_out e b.pages }

  -- .. to the end of its parent's copy
  abbrev pub with_block : Book P O → ℕ → ℕ → Book P O
  with_block b e q = record { fair = b.fair; pages = write_on q (λ copy. then_block copy e (copy_of b.pages e)) (take_out e b.pages) }

  abbrev pub with_kept : Book P O → ℕ → Book P O
  with_kept b e = if parent_of (rows_of b.pages) e == 0 then with_fair_block b e else with_block b e (parent_of (rows_of b.pages) e)

  abbrev pub with_abandoned : Book P O → ℕ → Book P O
  with_abandoned b e = record { fair = b.fair; pages = take_out_all e b.pages }

module _ {V O : Type 0} where
  -- what a taken call was answered: the new entry's number, the posting's answer, that it is done
  abbrev pub begun_number : Answer V O → Option ℕ
  begun_number (Ok (reply.Entry n)) = Some n
  begun_number (Ok (reply.Posted a)) = None
  begun_number (Ok reply.Done) = None
  begun_number (Ok (reply.Value v)) = None
  begun_number (Err refusal) = None

  abbrev pub posting_answer : Answer V O → Option O
  posting_answer (Ok (reply.Entry n)) = None
  posting_answer (Ok (reply.Posted a)) = Some a
  posting_answer (Ok reply.Done) = None
  posting_answer (Ok (reply.Value v)) = None
  posting_answer (Err refusal) = None

  abbrev pub is_done : Answer V O → Bool
  is_done (Ok (reply.Entry n)) = false
  is_done (Ok (reply.Posted a)) = false
  is_done (Ok reply.Done) = true
  is_done (Ok (reply.Value v)) = false
  is_done (Err refusal) = false

abbrev pub if_any : {X Y : Type 0} → Option X → (X → Y) → Y → Y
if_any None f y = y
if_any (Some x) f y = f x

module _ {V P O : Type 0} where
  -- what the book writes for a call and its answer; for a value, and for a call that was turned away: nothing
  abbrev pub write : Book P O → Call P → Answer V O → Book P O
  write b (Begin q) answer = if_any (begun_number answer) (λ n. with_begun b n q) b
  write b (Post e c p) answer = if_any (posting_answer answer) (λ a. with_line b e (record { cell = c; posting = p; answer = a })) b
  write b (Keep e) answer = if is_done answer then with_kept b e else b
  write b (Publish e) answer = if is_done answer then with_fair_block b e else b
  write b (Abandon e) answer = if is_done answer then with_abandoned b e else b
  write b (Value c) answer = b
