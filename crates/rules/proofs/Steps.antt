-- Every call upholds what ties the register to the book.
use Rattle.std.specs.List.{list_any}
use Rattle.std.proofs.Common.{◌≡◌, ℕ, ◌+◌, ◌<◌, Bool, true, false, cond, not, ◌&&◌, eqb, ◌⊎◌, List, [], ◌∷◌, ◌++◌, map, None, fold, filter, sym, refl, ap, ◌∙◌, subst, inl, inr, arith}
use Rattle.std.specs.List.{AllByRecursion as All}
use Rattle.std.proofs.lemmas.Bool.{cond_both, false_from_ne_true, eqb-true, eqb-false, or_cases, and_cases, not-false, both_ways}
use Rattle.std.proofs.lemmas.List.{map_push}
use Rattle.cells.specs.Kinds.{Rules, CrossingLaw}
use Rattle.cells.specs.Sequences.{after_all}
use Rattle.rules.specs.declared.rows.Row.{Row}
use Rattle.rules.specs.declared.lines.Line.{Line}
use Rattle.rules.specs.declared.calls.Call.{Call}
use Rattle.rules.specs.declared.calls.Call.TheVariants.{Begin, Post, Keep, Publish, Abandon, Value}
use Rattle.rules.specs.declared.refusals.Refusal.{Refusal}
use Rattle.rules.specs.Entries.{stands, childless, parent_of, elders, is_among, is_own_or_elder, without, outside}
use Rattle.rules.specs.Cells.{value_at, of_value}
use Rattle.rules.specs.States.{State}
use Rattle.rules.specs.Calls.{Outcome, holder_after, seen, commit, held_by, not_held_by, pass_on, earliest_holder, stops_posting, stops_publishing, questions, further_questions, turned_away, committed_state, passed_state, kept_state, taken, step}
use Rattle.rules.specs.Books.{Copied, Copy, then_line, then_block, lines_of, Book, rows_of, copy_of, with_begun, with_line, with_fair_block, with_block, with_abandoned, write}
use Rattle.rules.specs.FairCopy.{Event, post_line, GetsItsAnswer}
use Rattle.rules.proofs.Each.{All-weaker, all_of}
use Rattle.rules.proofs.Holdings.{Held, held, renamed}
use Rattle.rules.proofs.Kinship.{Grown, stood, stands_rest, others, not_other, joined_cases, elders_top, elders_inner, no_child}
use Rattle.rules.proofs.Standing.{Core, left_of, other_copies}
use Rattle.rules.proofs.Beginning.{began}
use Rattle.rules.proofs.Posting.{posted}
use Rattle.rules.proofs.Committing.{committed, Out}
use Rattle.rules.proofs.Passing.{passed}
use Rattle.rules.proofs.Abandoning.{abandoned}
use Rattle.rules.proofs.Stores.{LawfulValues, LawfulLine, Crosses, laws, bare, commit_is, seen_is}
use Rattle.rules.proofs.Bare.{kept_bare, passed_bare, all_bare, none_earliest, none_some}
use Rattle.rules.proofs.Pages.{copy_none, rows_pushed, copy_pushed, rows_written, copy_written, copy_unwritten, left_pages, rows_left, copy_left}
use Rattle.rules.proofs.Upheld.{Upheld, lines_at, AllYes, ask_yes, ask_holder_yes, asked, valued, unwritten}

module _ {V P O : Type 0} (R : Rules V P O) (law : CrossingLaw R) (first : List V) (s : State V P) (b : Book P O) (up : Upheld R first s b) where
  abbrev Good : Call P → Outcome V P O → Type 0
  Good call o = Upheld R first o.state (write b call o.answer)

  abbrev IsCore : List Row → List (Held (Copied P O)) → (ℕ → List (Copied P O)) → List V → List (Copied P O) → Type 0
  IsCore = Core (post_line R) (GetsItsAnswer R) (LawfulValues R) (LawfulLine R) (Crosses R) first

  grown : Grown s.rows
  grown = up.core.frame.grown

  -- who stands in the register stands in the book
  in_book : (e : ℕ) → stands s.rows e ≡ true → stands (rows_of b.pages) e ≡ true
  in_book e st = subst (λ rs. stands rs e ≡ true) (sym up.rows_are) st

  -- what holds of the register's lines holds of those of the table
  in_table : (Q : Line P → Type 0) → All Q s.lines → All (λ g. Q (bare g)) up.table
  in_table Q a = all_bare Q up.table (subst (All Q) up.lines_are a)

  turned : (call : Call P) (refusal : Refusal) → Good call (turned_away s refusal)
  turned call refusal = subst (Upheld R first s) (sym (unwritten V b call refusal)) up

  -- ---- begin

  begin_good : (q : ℕ) → AllYes (further_questions R s (Begin q)) → Good (Begin q) (taken R s (Begin q))
  begin_good q ys =
      let n = s.begun + 1 in
      let parent_ok : (q ≡ 0) ⊎ (stands s.rows q ≡ true) = elim (or_cases (eqb q 0) (stands s.rows q) (ask_yes _ _ ys.0)) [ inl i ↦ inl (eqb-true q 0 i) | inr t ↦ inr t ] in
      let fresh : stands (rows_of b.pages) n ≡ true → ⊥ = λ t. (let l : n < n = up.numbered n (subst (λ rs. stands rs n ≡ true) up.rows_are t) in omega arith) in
      record {
        table = up.table;
        lines_are = up.lines_are;
        rows_are = rows_pushed b.pages n q ∙ ap (λ rs. rs ++ (record { entry = n; parent = q } ∷ [])) up.rows_are;
        numbered = λ e st. elim (joined_cases s.rows n q up.numbered e st) [ inl i ↦ omega arith | inr t ↦ (let l : e < n = up.numbered e t in omega arith) ];
        core = other_copies (lines_at (with_begun b n q))
            (λ e st. cond_both (eqb e n) [] (lines_at b e) (λ l. l ≡ lines_at (with_begun b n q) e)
            (λ t. sym (ap lines_of (copy_pushed b.pages n q e ∙ ap (copy_of b.pages) (eqb-true e n t) ∙ copy_none b.pages n (false_from_ne_true _ fresh))))
            (λ d. sym (ap lines_of (copy_pushed b.pages n q e))))
            (began up.core n q up.numbered (omega arith) parent_ok);
      }

  -- ---- post

  -- what question 6 finds: each line crosses the posting, or the entry or an elder holds it
  none_in_way : (e c : ℕ) (p : P) (x : O) → earliest_holder (stops_posting R s e c p) s.lines ≡ None
      → All (λ g. Crosses R g.item (record { cell = c; posting = p; answer = x }) ⊎ (is_own_or_elder s.rows e g.holder ≡ true)) up.table
  none_in_way e c p x none =
      All-weaker _ _
      (λ g h. (
      let ours = is_own_or_elder s.rows e g.holder in
      let crossed = R.crosses p g.item.posting in
      elim (and_cases (eqb g.item.cell c) (not ours && not crossed) h) [
        | inl apart ↦ inl (inl (eqb-false g.item.cell c apart))
        | inr passes ↦ elim (and_cases (not ours) (not crossed) passes) [
          | inl own' ↦ inr (not-false ours own')
          | inr crosses' ↦ inl (inr (law.both_ways p g.item.posting (not-false crossed crosses')))
        ]
      ]
      ))
      up.table
      (in_table (λ l. stops_posting R s e c p l ≡ false) (none_earliest (stops_posting R s e c p) s.lines none))

  -- the seen value is that of the cell after all that the entry sees
  pub seen_at : (e c : ℕ) → value_at (fold (post_line R) s.values (held (is_own_or_elder s.rows e) up.table)) c ≡ seen R s e c
  seen_at e c =
      seen_is R c (is_own_or_elder s.rows e) up.table s.values
      ∙ ap (λ ls. of_value (λ v. after_all R v (map (λ l. l.posting) (filter (λ l. eqb l.cell c && is_own_or_elder s.rows e l.holder) ls))) (value_at s.values c)) (sym up.lines_are)

  post_good : (e c : ℕ) (p : P) → AllYes (further_questions R s (Post e c p)) → Good (Post e c p) (taken R s (Post e c p))
  post_good e c p ys = valued (Good (Post e c p)) s (seen R s e c) (λ v. _) (turned (Post e c p))
      (λ v is. (
      let line : Copied P O = record { cell = c; posting = p; answer = R.answer v p } in
      let st = ask_yes _ _ ys.0 in
      record {
        table = up.table ++ (record { holder = e; item = line } ∷ []);
        lines_are = ap (λ ls. ls ++ (record { holder = e; cell = c; posting = p } ∷ [])) up.lines_are ∙ sym (map_push bare up.table (record { holder = e; item = line }));
        rows_are = rows_written e (λ copy. then_line copy line) b.pages ∙ up.rows_are;
        numbered = up.numbered;
        core = other_copies (lines_at (with_line b e line))
            (λ f sf. cond_both (eqb f e) (lines_at b e ++ (line ∷ [])) (lines_at b f) (λ l. l ≡ lines_at (with_line b e line) f)
            (λ t. sym (ap lines_of (ap (copy_of (with_line b e line).pages) (eqb-true f e t) ∙ copy_written e (λ copy. then_line copy line) b.pages (in_book e st))))
            (λ d. sym (ap lines_of (copy_unwritten e (λ copy. then_line copy line) b.pages f (eqb-false f e d)))))
            (posted (laws R law) up.core e line st (ask_yes _ _ ys.1.0) (ask_yes _ _ ys.1.1.1.0)
            (ap (of_value (λ w. R.answer w p)) (seen_at e c ∙ is))
            (none_in_way e c p (R.answer v p) (ask_holder_yes _ _ ys.1.1.1.1.0)));
      }
      ))

  -- ---- publish, and keep at the top

  abbrev LetsOut : ℕ → Type 0
  LetsOut e = All (λ g. All (Out (laws R law) up.core e g) up.table) up.table

  commit_good : (e : ℕ) → stands s.rows e ≡ true → childless s.rows e ≡ true → LetsOut e → Upheld R first (committed_state R s e) (with_fair_block b e)
  commit_good e st ch out = record {
    table = left_of (others e) up.table;
    lines_are = ap (not_held_by e) up.lines_are ∙ kept_bare (others e) up.table;
    rows_are = rows_left (others e) b.pages ∙ ap (without e) up.rows_are;
    numbered = λ f sf. up.numbered f (stood (others e) s.rows f sf).0;
    core = other_copies (lines_at (with_fair_block b e)) (λ f sf. sym (ap lines_of (copy_left (others e) b.pages f (stood (others e) s.rows f sf).1)))
        (subst (λ vs. IsCore (without e s.rows) (left_of (others e) up.table) (lines_at b) vs (lines_of b.fair ++ lines_at b e))
        (sym (ap (λ ls. commit R s.values (held_by e ls)) up.lines_are ∙ commit_is R e up.table s.values))
        (committed (laws R law) up.core e st ch out));
  }

  -- what question 7 finds: each line of the entry crosses each line that an elder holds on its cell
  none_withheld : (e : ℕ) → earliest_holder (stops_publishing R s e) s.lines ≡ None → LetsOut e
  none_withheld e none =
      All-weaker _ _
      (λ g h. (
      let elders_line = is_among (elders s.rows e) g.holder in
      let clashes : Line P → Bool = λ l. eqb l.holder e && (eqb l.cell g.item.cell && not (R.crosses l.posting g.item.posting)) in
      elim (and_cases elders_line (list_any clashes s.lines) h) [
        | inl d ↦ all_of (λ m k a. absurd (both_ways _ d k)) up.table
        | inr o ↦ All-weaker _ _
            (λ m t k a. elim (and_cases (eqb m.holder e) (eqb m.item.cell g.item.cell && not (R.crosses m.item.posting g.item.posting)) t) [
              | inl d ↦ absurd (both_ways _ d a)
              | inr u ↦ elim (and_cases (eqb m.item.cell g.item.cell) (not (R.crosses m.item.posting g.item.posting)) u) [
                | inl d ↦ inl (eqb-false m.item.cell g.item.cell d)
                | inr cr ↦ inr (not-false (R.crosses m.item.posting g.item.posting) cr)
              ]
            ])
            up.table (in_table (λ l. clashes l ≡ false) (none_some clashes s.lines o))
      ]
      ))
      up.table
      (in_table (λ m. stops_publishing R s e m ≡ false) (none_earliest (stops_publishing R s e) s.lines none))

  publish_good : (e : ℕ) → AllYes (further_questions R s (Publish e)) → Good (Publish e) (taken R s (Publish e))
  publish_good e ys =
      commit_good e (ask_yes _ _ ys.0) (ask_yes _ _ ys.1.0)
      (none_withheld e (ask_holder_yes _ _ ys.1.1.0))

  -- a top entry has no elders that could hold a line
  top_good : (e : ℕ) → stands s.rows e ≡ true → childless s.rows e ≡ true → parent_of s.rows e ≡ 0 → Upheld R first (committed_state R s e) (with_fair_block b e)
  top_good e st ch top =
      commit_good e st ch
      (all_of (λ g. all_of (λ m k a. cc (subst (λ l. is_among l g.holder ≡ true) (elders_top s.rows e top) k)) up.table) up.table)

  -- ---- an inner keep

  inner_good : (e : ℕ) → stands s.rows e ≡ true → childless s.rows e ≡ true → (parent_of s.rows e ≡ 0 → ⊥) → Upheld R first (passed_state s e (parent_of s.rows e)) (with_block b e (parent_of s.rows e))
  inner_good e st ch inner =
      let q = parent_of s.rows e in
      let sq : stands s.rows q ≡ true = elim (grown.rooted e) [ inl i ↦ absurd (inner i) | inr k ↦ k ] in
      let ne : q ≡ e → ⊥ = no_child s.rows e e ch st in
      let left = left_pages (others e) b.pages in
      let more : Copy P O → Copy P O = λ copy. then_block copy e (copy_of b.pages e) in
      let q_left : stands (rows_of left) q ≡ true = subst (λ rs. stands rs q ≡ true) (sym (rows_left (others e) b.pages)) (stands_rest (others e) (rows_of b.pages) q (in_book q sq) (not_other e q ne)) in
      record {
        table = renamed (holder_after e q) up.table;
        lines_are = ap (pass_on e q) up.lines_are ∙ passed_bare e q up.table;
        rows_are = rows_written q more left ∙ rows_left (others e) b.pages ∙ ap (without e) up.rows_are;
        numbered = λ f sf. up.numbered f (stood (others e) s.rows f sf).0;
        core = other_copies (lines_at (with_block b e q))
            (λ f sf. cond_both (eqb f q) (lines_at b q ++ lines_at b e) (lines_at b f) (λ l. l ≡ lines_at (with_block b e q) f)
            (λ t. ap (λ copy. lines_of copy ++ lines_at b e) (sym (copy_left (others e) b.pages q (not_other e q ne))) ∙ sym (ap lines_of (ap (copy_of (with_block b e q).pages) (eqb-true f q t) ∙ copy_written q more left q_left)))
            (λ d. sym (ap lines_of (copy_unwritten q more left f (eqb-false f q d) ∙ copy_left (others e) b.pages f (stood (others e) s.rows f sf).1))))
            (passed (laws R law) up.core e q st ch (elders_inner s.rows grown e inner) sq ne);
      }

  keep_cond : (e : ℕ) (t : Bool) → eqb (parent_of s.rows e) 0 ≡ t → stands s.rows e ≡ true → childless s.rows e ≡ true
      → Upheld R first (cond t (committed_state R s e) (passed_state s e (parent_of s.rows e))) (cond t (with_fair_block b e) (with_block b e (parent_of s.rows e)))
  keep_cond e true t st ch = top_good e st ch (eqb-true (parent_of s.rows e) 0 t)
  keep_cond e false t st ch = inner_good e st ch (eqb-false (parent_of s.rows e) 0 t)

  keep_good : (e : ℕ) → AllYes (further_questions R s (Keep e)) → Good (Keep e) (taken R s (Keep e))
  keep_good e ys =
      subst (λ rs. Upheld R first (kept_state R s e) (cond (eqb (parent_of rs e) 0) (with_fair_block b e) (with_block b e (parent_of rs e)))) (sym up.rows_are)
      (keep_cond e (eqb (parent_of s.rows e) 0) refl (ask_yes _ _ ys.0) (ask_yes _ _ ys.1.0))

  -- ---- abandon and value

  abandon_good : (e : ℕ) → Good (Abandon e) (taken R s (Abandon e))
  abandon_good e =
      let k : ℕ → Bool = λ x. not (is_own_or_elder s.rows x e) in
      let in_pages : ℕ → Bool = λ x. not (is_own_or_elder (rows_of b.pages) x e) in
      record {
        table = left_of k up.table;
        lines_are = ap (filter (λ l. k l.holder)) up.lines_are ∙ kept_bare k up.table;
        rows_are = rows_left in_pages b.pages ∙ ap (outside e) up.rows_are;
        numbered = λ f sf. up.numbered f (stood k s.rows f sf).0;
        core = other_copies (lines_at (with_abandoned b e))
            (λ f sf. sym (ap lines_of (copy_left in_pages b.pages f (ap (λ rs. not (is_own_or_elder rs f e)) up.rows_are ∙ (stood k s.rows f sf).1))))
            (abandoned up.core e);
      }

  value_good : (c : ℕ) → Good (Value c) (taken R s (Value c))
  value_good c = valued (Good (Value c)) s (value_at s.values c) (λ v. _) (turned (Value c)) (λ v is. up)

  taken_good : (call : Call P) → AllYes (further_questions R s call) → Good call (taken R s call)
  taken_good (Begin q) ys = begin_good q ys
  taken_good (Post e c p) ys = post_good e c p ys
  taken_good (Keep e) ys = keep_good e ys
  taken_good (Publish e) ys = publish_good e ys
  taken_good (Abandon e) ys = abandon_good e
  taken_good (Value c) ys = value_good c

  pub step_good : (call : Call P) → Upheld R first (step R s call).state (write b call (step R s call).answer)
  step_good call = asked R (Good call) s (taken R s call) (turned call) (questions R s call) (λ ys. taken_good call ys.1)

  -- a step is the event that a history names
  pub upheld_by : (x : Event V P O) → (step R s x.call).answer ≡ x.answer → Upheld R first (step R s x.call).state (write b x.call x.answer)
  upheld_by x same = subst (λ a. Upheld R first (step R s x.call).state (write b x.call a)) same (step_good x.call)
