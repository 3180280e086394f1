-- The fair-copy law, over every history from set-up on.
use Rattle.std.proofs.Common.{◌≡◌, ℕ, Bool, true, false, cond, ◌&&◌, eqb, List, [], ◌∷◌, ◌++◌, length, Some, None, Err, fold, Option, sym, refl, ap, ◌∙◌, subst, inl, inr}
use Rattle.std.proofs.lemmas.Bool.{cond_both, cases_Bool, and_parts}
use Rattle.std.proofs.lemmas.Grind.{fold-append}
use Rattle.cells.specs.Kinds.{Rules, CrossingLaw}
use Rattle.rules.specs.declared.calls.Call.{Call}
use Rattle.rules.specs.declared.calls.Call.TheVariants.{Begin, Post, Keep, Publish, Abandon, Value}
use Rattle.rules.specs.declared.refusals.Refusal.TheVariants.{Unsound}
use Rattle.rules.specs.Entries.{stands, parent_of, elders}
use Rattle.rules.specs.Cells.{value_at}
use Rattle.rules.specs.States.{State, set_up, size_within, all_lawful, sound_for}
use Rattle.rules.specs.Calls.{Answer, seen, ask, first_no, further_questions, turned_away, taken, unless_refused, step}
use Rattle.rules.specs.Books.{Copy, then_block, lines_of, Book, new_book, rows_of, begun_number, posting_answer, is_done, if_any, with_begun, with_line, with_fair_block, with_block, with_abandoned, write}
use Rattle.rules.specs.FairCopy.{Event, book_of, Leads, post_line, GetTheirAnswers, values_after, last_named_first, lines_so_far, Block, block_if, added_by, blocks_added, FairCopyHolds, FairCopyLaw}
use Rattle.rules.proofs.Exchanges.{right_append}
use Rattle.rules.proofs.Kinship.{Grown, elders_are}
use Rattle.rules.proofs.Descending.{so_far_right, so_far_end}
use Rattle.rules.proofs.Stores.{laws}
use Rattle.rules.proofs.Upheld.{Upheld, lines_at, unwritten}
use Rattle.rules.proofs.Steps.{seen_at, upheld_by}
use Rattle.rules.proofs.Once.{unadded, blocks_differ, blocks_ended}

-- ---- blocks

module _ {P O : Type 0} where
  abbrev with_blocks : Copy P O → List (Block P O) → Copy P O
  with_blocks copy blocks = fold (λ c block. then_block c block.entry block.copy) copy blocks

  if_any_fair : {X : Type 0} (o : Option X) (more : X → Book P O) (b : Book P O) → ((x : X) → (more x).fair ≡ b.fair) → (if_any o more b).fair ≡ b.fair
  if_any_fair None more b same = refl
  if_any_fair (Some x) more b same = same x

  publish_fair : (t : Bool) (b : Book P O) (e : ℕ) → (cond t (with_fair_block b e) b).fair ≡ with_blocks b.fair (block_if t b e)
  publish_fair true b e = refl
  publish_fair false b e = refl

  keep_fair : (t top : Bool) (b : Book P O) (e q : ℕ) → (cond t (cond top (with_fair_block b e) (with_block b e q)) b).fair ≡ with_blocks b.fair (block_if (t && top) b e)
  keep_fair true true b e q = refl
  keep_fair t top b e q = refl

-- what a call writes into the fair copy is just the block that it adds
one_more : {V P O : Type 0} (s : State V P) (b : Book P O) → rows_of b.pages ≡ s.rows → (call : Call P) (answer : Answer V O) → (write b call answer).fair ≡ with_blocks b.fair (added_by s b call answer)
one_more s b same (Begin q) answer = if_any_fair (begun_number answer) (λ n. with_begun b n q) b (λ n. refl)
one_more s b same (Post e c p) answer = if_any_fair (posting_answer answer) (λ a. with_line b e (record { cell = c; posting = p; answer = a })) b (λ a. refl)
one_more s b same (Keep e) answer =
    keep_fair (is_done answer) (eqb (parent_of (rows_of b.pages) e) 0) b e (parent_of (rows_of b.pages) e)
    ∙ ap (λ rows. with_blocks b.fair (block_if (is_done answer && eqb (parent_of rows e) 0) b e)) same
one_more s b same (Publish e) answer = publish_fair (is_done answer) b e
one_more s b same (Abandon e) answer = cond_both (is_done answer) (with_abandoned b e) b (λ c. c.fair ≡ b.fair) (λ t. refl) (λ f. refl)
one_more s b same (Value c) answer = refl

-- ---- histories

abbrev written : {V P O : Type 0} → Book P O → List (Event V P O) → Book P O
written b history = fold (λ c x. write c x.call x.answer) b history

module _ {V P O : Type 0} (R : Rules V P O) where
  -- a register that is not sound turns every call away
  shut : (history : List (Event V P O)) (s t : State V P) (b : Book P O) → s.sound ≡ false → rows_of b.pages ≡ s.rows → Leads R s history t
      → (s ≡ t) × (written b history ≡ b) × (blocks_added R s b history ≡ [])
  shut [] s t b un same leads = (leads, refl, refl)
  shut (x ∷ history) s t b un same leads =
      let away : step R s x.call ≡ turned_away s Unsound = ap (λ y. unless_refused R s (first_no (ask y Unsound ∷ further_questions R s x.call)) (taken R s x.call)) un in
      let refused : x.answer ≡ Err Unsound = sym leads.0 ∙ ap (λ o. o.answer) away in
      let stays : write b x.call x.answer ≡ b = ap (write b x.call) refused ∙ unwritten V b x.call Unsound in
      let on = shut history s t b un same (subst (λ o. Leads R o.state history t) away leads.1) in (
        on.0,
        ap (λ c. written c history) stays ∙ on.1,
        ap (λ answer. added_by s b x.call answer ++ blocks_added R (step R s x.call).state (write b x.call x.answer) history) refused
            ∙ ap (λ blocks. blocks ++ blocks_added R (step R s x.call).state (write b x.call x.answer) history) (unadded s b x.call Unsound)
            ∙ ap (λ o. blocks_added R o.state (write b x.call x.answer) history) away
            ∙ ap (λ c. blocks_added R s c history) stays
            ∙ on.2,
      )

module _ {V P O : Type 0} (R : Rules V P O) (law : CrossingLaw R) (first : List V) where
  led : (history : List (Event V P O)) (s t : State V P) (b : Book P O) → Upheld R first s b → Leads R s history t → Upheld R first t (written b history)
  led [] s t b up leads = subst (λ u. Upheld R first u b) leads up
  led (x ∷ history) s t b up leads = led history (step R s x.call).state t (write b x.call x.answer) (upheld_by R law first s b up x leads.0) leads.1

  fair_blocks : (history : List (Event V P O)) (s t : State V P) (b : Book P O) → Upheld R first s b → Leads R s history t → (written b history).fair ≡ with_blocks b.fair (blocks_added R s b history)
  fair_blocks [] s t b up leads = refl
  fair_blocks (x ∷ history) s t b up leads =
      let u = (step R s x.call).state in
      let c = write b x.call x.answer in
      fair_blocks history u t c (upheld_by R law first s b up x leads.0) leads.1
      ∙ ap (λ copy. with_blocks copy (blocks_added R u c history)) (one_more s b up.rows_are x.call x.answer)
      ∙ sym (fold-append (λ copy block. then_block copy block.entry block.copy) b.fair (added_by s b x.call x.answer) (blocks_added R u c history))

-- ---- set-up

no_rows : Grown []
no_rows = record { zero_free = λ s. cc; falls = λ e s. cc; rooted = λ e. inl refl }

module _ {V P O : Type 0} (R : Rules V P O) (law : CrossingLaw R) (first : List V) (rows lines : ℕ) where
  lawful : sound_for R first rows lines ≡ true → all_lawful R first ≡ true
  lawful y = (and_parts (size_within lines 4096) _ (and_parts (size_within rows 256) _ (and_parts (size_within (length first) 4096) _ y).1).1).1

  starts : all_lawful R first ≡ true → Upheld R first (set_up R first rows lines) new_book
  starts ok = record {
    table = [];
    lines_are = refl;
    rows_are = refl;
    numbered = λ e s. cc;
    core = record {
      frame = record { grown = no_rows; holders = tt; items_ok = tt; order = tt };
      value_ok = ok;
      sees = λ e s. cc;
      copied = λ e s. cc;
      fair_right = tt;
      fair_value = refl;
    };
  }

-- ---- the law

module _ {V P O : Type 0} (R : Rules V P O) (law : CrossingLaw R) (first : List V) (s : State V P) (b : Book P O) (up : Upheld R first s b) (e : ℕ) (st : stands s.rows e ≡ true) where
  so_far : last_named_first (lines_at b) (e ∷ elders s.rows e) ≡ lines_so_far b e
  so_far = ap (λ rs. last_named_first (lines_at b) (e ∷ elders rs e)) (sym up.rows_are)

  standing_answers : GetTheirAnswers R first (lines_of b.fair ++ lines_so_far b e)
  standing_answers = right_append (laws R law) first (lines_of b.fair) (lines_so_far b e) up.core.fair_right
      (subst (λ vs. GetTheirAnswers R vs (lines_so_far b e)) (sym up.core.fair_value)
      (subst (GetTheirAnswers R s.values) so_far (so_far_right (laws R law) up.core e st)))

  standing_sees : (c : ℕ) → value_at (values_after R first (lines_of b.fair ++ lines_so_far b e)) c ≡ seen R s e c
  standing_sees c =
      ap (λ vs. value_at vs c)
      (fold-append (post_line R) first (lines_of b.fair) (lines_so_far b e)
      ∙ ap (λ vs. values_after R vs (lines_so_far b e)) up.core.fair_value
      ∙ ap (values_after R s.values) (sym so_far)
      ∙ so_far_end (laws R law) up.core e st)
      ∙ seen_at R law first s b up e c

-- nothing was ever taken
untouched : {V P O : Type 0} (R : Rules V P O) (first : List V) (rows lines : ℕ) → FairCopyHolds R first (set_up R first rows lines) new_book []
untouched R first rows lines = record {
  fair_answers = tt;
  fair_values = refl;
  standing_answers = λ e st. cc;
  standing_sees = λ e c st. cc;
  same_standing = refl;
  elders_are = elders_are [] no_rows;
  one_block_each = refl;
  each_once = tt;
  all_ended = tt;
}

pub fair_copy_law : {V P O : Type 0} (R : Rules V P O) → CrossingLaw R → FairCopyLaw R
fair_copy_law R law first rows lines history s leads =
    let zero_state = set_up R first rows lines in
    elim (cases_Bool (sound_for R first rows lines)) [
      | inl y ↦
          let start = starts R law first rows lines (lawful R law first rows lines y) in
          let up = led R law first history zero_state s new_book start leads in
          record {
            fair_answers = up.core.fair_right;
            fair_values = up.core.fair_value;
            standing_answers = standing_answers R law first s (book_of history) up;
            standing_sees = λ e c st. standing_sees R law first s (book_of history) up e st c;
            same_standing = up.rows_are;
            elders_are = elders_are s.rows up.core.frame.grown;
            one_block_each = fair_blocks R law first history zero_state s new_book start leads;
            each_once = blocks_differ R law first history zero_state s new_book start leads;
            all_ended = blocks_ended R law first history zero_state s new_book start leads;
          }
      | inr unsound ↦
          let still = shut R history zero_state s new_book unsound refl leads in
          subst (λ blocks. FairCopyHolds R first s (book_of history) blocks) (sym still.2)
          (subst (λ b. FairCopyHolds R first s b []) (sym still.1)
          (subst (λ t. FairCopyHolds R first t new_book []) still.0 (untouched R first rows lines)))
    ]
