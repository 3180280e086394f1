-- The fair-copy law: which answers and values the fair copy of a run of calls gives. Assumes nothing.
use Rattle.std.specs.Prelude.{◌≡◌, ℕ, Bool, true, if◌then◌else◌, ◌&&◌, List, [], ◌∷◌, ◌++◌, Some, IsTrue, ◌↔◌, fold, ◌==◌, ◌≢◌}
use Rattle.std.specs.List.{AllByRecursion}
use Rattle.cells.specs.Kinds.{Rules}
use Rattle.rules.specs.declared.calls.Call.{Call}
use Rattle.rules.specs.declared.calls.Call.TheVariants.{Begin, Post, Keep, Publish, Abandon, Value}
use Rattle.rules.specs.Entries.{Elder, stands, parent_of, elders, is_among}
use Rattle.rules.specs.Cells.{value_at, answer_at, store}
use Rattle.rules.specs.States.{State, set_up}
use Rattle.rules.specs.Calls.{Answer, step, seen}
use Rattle.rules.specs.Books.{Copied, Copy, empty, then_block, lines_of, Book, new_book, rows_of, copy_of, is_done, write}

-- ---- runs of calls

-- A history is a list of events, first to last: a call and the answer that it got.
pub record Event (V P O : Type 0) : Type 0 where
  pub call : Call P
  pub answer : Answer V O

-- the book that the events of a history make, first to last
abbrev pub book_of : {V P O : Type 0} → List (Event V P O) → Book P O
book_of history = fold (λ b x. write b x.call x.answer) new_book history

-- a history leads from one state to another: each call in turn gets its answer, and leaves what the next one finds
abbrev pub Leads : {V P O : Type 0} → Rules V P O → State V P → List (Event V P O) → State V P → Type 0
Leads R s [] t = s ≡ t
Leads R s (x ∷ history) t = ((step R s x.call).answer ≡ x.answer) × Leads R (step R s x.call).state history t

-- ---- copies posted on values

-- items taken in turn from a state on: `Right` holds of each at the state that it finds, and `after` gives the state that it leaves
abbrev pub EachInTurn : {S X : Type 0} → (S → X → S) → (S → X → Type 0) → S → List X → Type 0
EachInTurn after Right s [] = Unit {0}
EachInTurn after Right s (x ∷ xs) = Right s x × EachInTurn after Right (after s x) xs

module _ {V P O : Type 0} (R : Rules V P O) where
  -- to post a line is to answer it at its cell's value, and to store the value after it
  abbrev pub post_line : List V → Copied P O → List V
  post_line vs line = store R vs line.cell line.posting

  abbrev pub GetsItsAnswer : List V → Copied P O → Type 0
  GetsItsAnswer vs line = answer_at R vs line.cell line.posting ≡ Some line.answer

  -- lines posted in turn on values each get the answer that the copy has for them
  abbrev pub GetTheirAnswers : List V → List (Copied P O) → Type 0
  GetTheirAnswers = EachInTurn post_line GetsItsAnswer

  -- .. and the values that they leave
  abbrev pub values_after : List V → List (Copied P O) → List V
  values_after = fold post_line

-- the items of some entries, those of the last named first
abbrev pub last_named_first : {X : Type 0} → (ℕ → List X) → List ℕ → List X
last_named_first items [] = []
last_named_first items (e ∷ es) = last_named_first items es ++ items e

-- the lines so far of an entry: the copies of its elders, eldest first, and then its own
abbrev pub lines_so_far : {P O : Type 0} → Book P O → ℕ → List (Copied P O)
lines_so_far b e = last_named_first (λ x. lines_of (copy_of b.pages x)) (e ∷ elders (rows_of b.pages) e)

-- ---- blocks of the fair copy

-- a block: an entry, and its copy
pub record Block (P O : Type 0) : Type 0 where
  pub entry : ℕ
  pub copy : Copy P O

module _ {P O : Type 0} where
  -- a copy that consists of these blocks and nothing else, in their order
  abbrev pub copy_of_blocks : List (Block P O) → Copy P O
  copy_of_blocks blocks = fold (λ copy block. then_block copy block.entry block.copy) empty blocks

  -- no two of these blocks are of the same entry
  abbrev pub AllDiffer : List (Block P O) → Type 0
  AllDiffer [] = Unit {0}
  AllDiffer (block ∷ blocks) = AllByRecursion (λ other. block.entry ≢ other.entry) blocks × AllDiffer blocks

  abbrev pub block_if : Bool → Book P O → ℕ → List (Block P O)
  block_if added b e = if added then record { entry = e; copy = copy_of b.pages e } ∷ [] else []

module _ {V P O : Type 0} where
  -- the block that a call adds to the fair copy, by keeping a top entry or publishing any entry: the entry's copy as the call finds it
  abbrev pub added_by : State V P → Book P O → Call P → Answer V O → List (Block P O)
  added_by s b (Begin q) answer = []
  added_by s b (Post e c p) answer = []
  added_by s b (Keep e) answer = block_if (is_done answer && parent_of s.rows e == 0) b e
  added_by s b (Publish e) answer = block_if (is_done answer) b e
  added_by s b (Abandon e) answer = []
  added_by s b (Value c) answer = []

-- the blocks that a history adds, in the order of keeping and publishing, from a state and a book on
abbrev pub blocks_added : {V P O : Type 0} → Rules V P O → State V P → Book P O → List (Event V P O) → List (Block P O)
blocks_added R s b [] = []
blocks_added R s b (x ∷ history) =
    added_by s b x.call x.answer
    ++ blocks_added R (step R s x.call).state (write b x.call x.answer) history

-- ---- the law

-- A register was set up with the values `first` and holds s now; b is the book of its history, and `blocks` are those that the
-- history added.
pub record FairCopyHolds {V P O : Type 0} (R : Rules V P O) (first : List V) (s : State V P) (b : Book P O) (blocks : List (Block P O)) : Type 0 where
  -- the fair copy, posted line by line on the first values, gives each line the answer that the register gave
  pub fair_answers : GetTheirAnswers R first (lines_of b.fair)
  -- .. and ends in the committed values
  pub fair_values : values_after R first (lines_of b.fair) ≡ s.values
  -- posted next after it, the copies so far of a standing entry's elders, eldest first, and then its own give each line the answer
  -- that the register gave
  pub standing_answers : (e : ℕ) → stands s.rows e ≡ true → GetTheirAnswers R first (lines_of b.fair ++ lines_so_far b e)
  -- .. and leave in every cell the value that the entry sees there
  pub standing_sees : (e c : ℕ) → stands s.rows e ≡ true → value_at (values_after R first (lines_of b.fair ++ lines_so_far b e)) c ≡ seen R s e c
  -- the book's standing entries and their parents are the register's
  pub same_standing : rows_of b.pages ≡ s.rows
  -- the list `elders` names exactly those that are elders by the relation `Elder`
  pub elders_are : (e x : ℕ) → IsTrue (is_among (elders s.rows e) x) ↔ Elder s.rows x e
  -- the fair copy is one unbroken block for each entry that was kept at the top or published, in that order, and nothing else
  pub one_block_each : b.fair ≡ copy_of_blocks blocks
  -- no entry has two blocks
  pub each_once : AllDiffer blocks
  -- .. and an entry that stands has none
  pub all_ended : AllByRecursion (λ block. stands s.rows block.entry ≢ true) blocks

-- For all first values, lawful or not, all sizes of the tables, and every history that leads from set-up by steps.
abbrev pub FairCopyLaw : {V P O : Type 0} → Rules V P O → Type 0
FairCopyLaw {V} {P} {O} R =
    (first : List V) (row_room line_room : ℕ) (history : List (Event V P O)) (s : State V P)
    → Leads R (set_up R first row_room line_room) history s
    → FairCopyHolds R first s (book_of history) (blocks_added R (set_up R first row_room line_room) new_book history)
