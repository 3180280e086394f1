-- An entry that has ended never stands again, so that it has one block at most.
use Rattle.std.proofs.Common.{◌≡◌, ℕ, ◌+◌, ◌<◌, Bool, true, false, not, eqb, ◌⊎◌, List, [], ◌∷◌, ◌++◌, Err, sym, refl, subst, inl, inr, arith}
use Rattle.std.specs.List.{AllByRecursion as All}
use Rattle.std.proofs.lemmas.Bool.{cond_both}
use Rattle.cells.specs.Kinds.{Rules, CrossingLaw}
use Rattle.rules.specs.declared.calls.Call.{Call}
use Rattle.rules.specs.declared.calls.Call.TheVariants.{Begin, Post, Keep, Publish, Abandon, Value}
use Rattle.rules.specs.declared.refusals.Refusal.{Refusal}
use Rattle.rules.specs.Entries.{stands, parent_of, is_own_or_elder, without}
use Rattle.rules.specs.Cells.{value_at}
use Rattle.rules.specs.States.{State}
use Rattle.rules.specs.Calls.{Outcome, seen, questions, further_questions, committed_state, kept_state, taken, step}
use Rattle.rules.specs.Books.{Book, write}
use Rattle.rules.specs.FairCopy.{Event, Leads, Block, AllDiffer, block_if, added_by, blocks_added}
use Rattle.rules.proofs.Each.{All-weaker, All-append}
use Rattle.rules.proofs.Kinship.{rest, stood, others, other_not, joined_cases}
use Rattle.rules.proofs.Upheld.{Upheld, AllYes, ask_yes, asked, valued}
use Rattle.rules.proofs.Steps.{upheld_by}

-- a call that is turned away adds no block
pub unadded : {V P O : Type 0} (s : State V P) (b : Book P O) (call : Call P) (refusal : Refusal) → added_by {V = V} s b call (Err refusal) ≡ []
unadded s b (Begin q) r = refl
unadded s b call r = refl

-- blocks of entries of which Q does not hold differ from blocks of entries of which it does
differ_append : {P O : Type 0} (Q : ℕ → Type 0) (xs ys : List (Block P O)) → AllDiffer xs → AllDiffer ys → All (λ x. Q x.entry → ⊥) xs → All (λ y. Q y.entry) ys → AllDiffer (xs ++ ys)
differ_append Q [] ys dx dy without_q with_q = dy
differ_append Q (x ∷ xs) ys dx dy without_q with_q = (
  All-append _ xs ys dx.0 (All-weaker _ _ (λ y q i. without_q.0 (subst Q (sym i) q)) ys with_q),
  differ_append Q xs ys dx.1 dy without_q.1 with_q,
)

module _ {V P : Type 0} where
  -- an entry can still end: it stands, or its number has not been given out
  abbrev Open : State V P → ℕ → Type 0
  Open s x = (stands s.rows x ≡ true) ⊎ (s.begun < x)

  -- a block's entry could end at s, and can no more at t
  abbrev Ended : {O : Type 0} → State V P → State V P → Block P O → Type 0
  Ended s t block = Open s block.entry × (Open t block.entry → ⊥)

  -- who is left when entries end could end before
  left_open : (k : ℕ → Bool) (s : State V P) (x : ℕ) → (stands (rest k s.rows) x ≡ true) ⊎ (s.begun < x) → Open s x
  left_open k s x (inl st) = inl (stood k s.rows x st).0
  left_open k s x (inr l) = inr l

-- ---- one call

module _ {V P O : Type 0} (R : Rules V P O) (first : List V) (s : State V P) (b : Book P O) (up : Upheld R first s b) where
  -- what can end after a call could end before it
  abbrev WasOpen : Outcome V P O → Type 0
  WasOpen o = (x : ℕ) → Open o.state x → Open s x

  begin_open : (q : ℕ) → WasOpen (taken R s (Begin q))
  begin_open q x (inl st) = elim (joined_cases s.rows (s.begun + 1) q up.numbered x st) [ inl i ↦ inr (omega arith) | inr t ↦ inl t ]
  begin_open q x (inr l) = inr (omega arith)

  taken_open : (call : Call P) → WasOpen (taken R s call)
  taken_open (Begin q) = begin_open q
  taken_open (Post e c p) = valued WasOpen s (seen R s e c) (λ v. _) (λ refusal x h. h) (λ v is x h. h)
  taken_open (Keep e) = cond_both (eqb (parent_of s.rows e) 0) _ _ (λ t. (x : ℕ) → Open t x → Open s x) (λ is. left_open (others e) s) (λ is. left_open (others e) s)
  taken_open (Publish e) = left_open (others e) s
  taken_open (Abandon e) = left_open (λ x. not (is_own_or_elder s.rows x e)) s
  taken_open (Value c) = valued WasOpen s (value_at s.values c) (λ v. _) (λ refusal x h. h) (λ v is x h. h)

  was_open : (call : Call P) → WasOpen (step R s call)
  was_open call = asked R WasOpen s (taken R s call) (λ refusal x h. h) (questions R s call) (λ ys. taken_open call)

  -- no two of the blocks that a call adds are of the same entry, and each is of one that the call ends
  abbrev AddsOnce : Call P → Outcome V P O → Type 0
  AddsOnce call o = AllDiffer (added_by s b call o.answer) × All (Ended s o.state) (added_by s b call o.answer)

  -- e was begun, and is left out
  gone : (e : ℕ) → stands s.rows e ≡ true → (stands (without e s.rows) e ≡ true) ⊎ (s.begun < e) → ⊥
  gone e st (inl t) = other_not e e (stood (others e) s.rows e t).1 refl
  gone e st (inr l) = let m : e < s.begun + 1 = up.numbered e st in omega arith

  one_block : (added : Bool) (t : State V P) (e : ℕ) → stands s.rows e ≡ true → (Open t e → ⊥) → AllDiffer (block_if added b e) × All (Ended s t) (block_if added b e)
  one_block true t e st shut = ((tt, tt), ((inl st, shut), tt))
  one_block false t e st shut = (tt, tt)

  taken_once : (call : Call P) → AllYes (further_questions R s call) → AddsOnce call (taken R s call)
  taken_once (Keep e) ys =
      let st = ask_yes _ _ ys.0 in
      one_block (eqb (parent_of s.rows e) 0) (kept_state R s e) e st
      (cond_both (eqb (parent_of s.rows e) 0) _ _ (λ t. Open t e → ⊥) (λ is. gone e st) (λ is. gone e st))
  taken_once (Publish e) ys = let st = ask_yes _ _ ys.0 in one_block true (committed_state R s e) e st (gone e st)
  taken_once call ys = (tt, tt)

  adds_once : (call : Call P) → AddsOnce call (step R s call)
  adds_once call = asked R (AddsOnce call) s (taken R s call) (λ refusal. subst (λ bs. AllDiffer bs × All (Ended s s) bs) (sym (unadded s b call refusal)) (tt, tt)) (questions R s call) (λ ys. taken_once call ys.1)

-- ---- histories

module _ {V P O : Type 0} (R : Rules V P O) (law : CrossingLaw R) (first : List V) where
  -- what can end after a history could end before it
  long_open : (history : List (Event V P O)) (s t : State V P) (b : Book P O) → Upheld R first s b → Leads R s history t → (x : ℕ) → Open t x → Open s x
  long_open [] s t b up leads x h = subst (λ u. Open u x) (sym leads) h
  long_open (y ∷ history) s t b up leads x h =
      was_open R first s b up y.call x
      (long_open history (step R s y.call).state t (write b y.call y.answer) (upheld_by R law first s b up y leads.0) leads.1 x h)

  -- each block of a history is of an entry that ends in it, and of a different one
  blocks_once : (history : List (Event V P O)) (s t : State V P) (b : Book P O) → Upheld R first s b → Leads R s history t
      → AllDiffer (blocks_added R s b history) × All (Ended s t) (blocks_added R s b history)
  blocks_once [] s t b up leads = (tt, tt)
  blocks_once (x ∷ history) s t b up leads =
      let u = (step R s x.call).state in
      let c = write b x.call x.answer in
      let added = added_by s b x.call x.answer in
      let later = blocks_added R u c history in
      let now : AllDiffer added × All (Ended s u) added = subst (λ a. AllDiffer (added_by s b x.call a) × All (Ended s u) (added_by s b x.call a)) leads.0 (adds_once R first s b up x.call) in
      let up' = upheld_by R law first s b up x leads.0 in
      let on = blocks_once history u t c up' leads.1 in (
        differ_append (Open u) added later now.0 on.0
            (All-weaker _ _ (λ block h. h.1) added now.1) (All-weaker _ _ (λ block h. h.0) later on.1),
        All-append (Ended s t) added later
            (All-weaker _ _ (λ block h. (h.0, λ o. h.1 (long_open history u t c up' leads.1 block.entry o))) added now.1)
            (All-weaker _ _ (λ block h. (was_open R first s b up x.call block.entry h.0, h.1)) later on.1),
      )

  module _ (history : List (Event V P O)) (s t : State V P) (b : Book P O) (up : Upheld R first s b) (leads : Leads R s history t) where
    pub blocks_differ : AllDiffer (blocks_added R s b history)
    blocks_differ = (blocks_once history s t b up leads).0

    pub blocks_ended : All (λ block. stands t.rows block.entry ≡ true → ⊥) (blocks_added R s b history)
    blocks_ended = All-weaker _ _ (λ block h st. h.1 (inl st)) (blocks_added R s b history) (blocks_once history s t b up leads).1
