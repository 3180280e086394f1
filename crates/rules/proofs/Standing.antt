-- What stays true of rows, of a table of lines with their answers, of copies, and of what a fair copy comes to.
use Rattle.std.proofs.Common.{◌≡◌, ℕ, Bool, true, cond, eqb, ◌⊎◌, List, ◌∷◌, fold, filter, sym, ap, ◌∙◌, subst, inl, inr}
use Rattle.std.specs.List.{AllByRecursion as All}
use Rattle.std.proofs.lemmas.Bool.{eqb-true, eqb-false, cond_both}
use Rattle.rules.specs.declared.rows.Row.{Row}
use Rattle.rules.specs.Entries.{stands, is_among, is_own_or_elder}
use Rattle.rules.specs.FairCopy.{EachInTurn}
use Rattle.rules.proofs.Each.{All-weaker, All-filter, filter_passes, all_of, all_passed}
use Rattle.rules.proofs.Exchanges.{Same}
use Rattle.rules.proofs.Bools.{and_implied}
use Rattle.rules.proofs.Pairs.{Pairs, pairs_where, pairs_kept}
use Rattle.rules.proofs.Holdings.{Held, held, held_agree, held_kept, held_all}
use Rattle.rules.proofs.Kinship.{Grown, Closed, rest, grown_rest, stands_rest, elders_rest}

-- does e hold it?
abbrev pub own : ℕ → ℕ → Bool
own e h = eqb h e

-- of two lines, g before m: they cross, or the holder of g is that of m or an elder of it
abbrev pub Ordered : {X : Type 0} → (X → X → Type 0) → List Row → Held X → Held X → Type 0
Ordered Cross rows g m = Cross g.item m.item ⊎ (is_own_or_elder rows m.holder g.holder ≡ true)

pub record Frame {X : Type 0} (OkItem : X → Type 0) (Cross : X → X → Type 0) (rows : List Row) (table : List (Held X)) : Type 0 where
  pub grown : Grown rows
  pub holders : All (λ g. stands rows g.holder ≡ true) table
  pub items_ok : All (λ g. OkItem g.item) table
  pub order : Pairs (Ordered Cross rows) table

pub record Core {V X : Type 0} (after : V → X → V) (Right : V → X → Type 0) (OkValue : V → Type 0) (OkItem : X → Type 0) (Cross : X → X → Type 0)
    (first : V) (rows : List Row) (table : List (Held X)) (copies : ℕ → List X) (value : V) (fair : List X) : Type 0 where
  pub frame : Frame OkItem Cross rows table
  pub value_ok : OkValue value
  -- what an entry sees, in table order, is right
  pub sees : (e : ℕ) → stands rows e ≡ true → EachInTurn after Right value (held (is_own_or_elder rows e) table)
  -- its copy is what it holds, up to exchanges
  pub copied : (e : ℕ) → stands rows e ≡ true → Same Cross (copies e) (held (own e) table)
  pub fair_right : EachInTurn after Right first fair
  pub fair_value : fold after first fair ≡ value

-- what holders that pass the test k hold
abbrev pub left_of : {X : Type 0} → (ℕ → Bool) → List (Held X) → List (Held X)
left_of k table = filter (λ g. k g.holder) table

module _ {X : Type 0} {OkItem : X → Type 0} {Cross : X → X → Type 0} {rows : List Row} {table : List (Held X)} (fr : Frame OkItem Cross rows table) where
  pub held_ok : (t : ℕ → Bool) → All OkItem (held t table)
  held_ok t = held_all OkItem t table (All-weaker _ _ (λ g o e. o) table fr.items_ok)

  module _ (k : ℕ → Bool) (closed : Closed k rows) where
    kin_rest : (e : ℕ) → k e ≡ true → (x : ℕ) → is_own_or_elder (rest k rows) e x ≡ is_own_or_elder rows e x
    kin_rest e h x = ap (λ l. is_among (e ∷ l) x) (elders_rest k rows closed e h)

    pub frame_rest : Frame OkItem Cross (rest k rows) (left_of k table)
    frame_rest = record {
      grown = grown_rest k rows fr.grown closed;
      holders = all_passed _ (λ g. k g.holder) table (All-weaker _ _ (λ g s h. stands_rest k rows g.holder s h) table fr.holders);
      items_ok = All-filter (λ g. k g.holder) _ table fr.items_ok;
      order = pairs_where (λ g m kg km o. elim o [ inl c ↦ inl c | inr h ↦ inr (kin_rest m.holder km g.holder ∙ h) ])
          (left_of k table) (filter_passes (λ g. k g.holder) table) (pairs_kept _ (λ g. k g.holder) table fr.order);
    }

    -- what one that stays sees is left
    pub seen_rest : (f : ℕ) → k f ≡ true → held (is_own_or_elder (rest k rows) f) (left_of k table) ≡ held (is_own_or_elder rows f) table
    seen_rest f h =
        ap (λ l. held (is_among (f ∷ l)) (left_of k table)) (elders_rest k rows closed f h)
        ∙ held_kept k (is_own_or_elder rows f) table
        ∙ held_agree _ _ table (all_of (λ g. and_implied (k g.holder) (is_own_or_elder rows f g.holder) (closed f g.holder h)) table)

  pub own_rest : (k : ℕ → Bool) (f : ℕ) → k f ≡ true → held (own f) (left_of k table) ≡ held (own f) table
  own_rest k f h =
      held_kept k (own f) table
      ∙ held_agree _ _ table (all_of (λ g. and_implied (k g.holder) (own f g.holder) (λ e. ap k (eqb-true g.holder f e) ∙ h)) table)

-- a copy of one entry is another, and is what this one holds
pub copied_with : {X : Type 0} {Cross : X → X → Type 0} (table : List (Held X)) (copies : ℕ → List X) (n : ℕ) (l : List X) → Same Cross l (held (own n) table)
    → (f : ℕ) → ((f ≡ n → ⊥) → Same Cross (copies f) (held (own f) table)) → Same Cross (cond (eqb f n) l (copies f)) (held (own f) table)
copied_with {Cross = Cross} table copies n l here f there =
    cond_both (eqb f n) l (copies f) (λ xs. Same Cross xs (held (own f) table))
    (λ t. subst (λ y. Same Cross l (held (own y) table)) (sym (eqb-true f n t)) here) (λ d. there (eqb-false f n d))

-- only the copies of standing entries count
pub other_copies : {V X : Type 0} {after : V → X → V} {Right : V → X → Type 0} {OkValue : V → Type 0} {OkItem : X → Type 0} {Cross : X → X → Type 0}
    {first : V} {rows : List Row} {table : List (Held X)} {copies : ℕ → List X} {value : V} {fair : List X} (others : ℕ → List X)
    → ((e : ℕ) → stands rows e ≡ true → copies e ≡ others e)
    → Core after Right OkValue OkItem Cross first rows table copies value fair
    → Core after Right OkValue OkItem Cross first rows table others value fair
other_copies {Cross = Cross} {table = table} others same core = record {
  frame = core.frame;
  value_ok = core.value_ok;
  sees = core.sees;
  copied = λ e s. subst (λ l. Same Cross l (held (own e) table)) (same e s) (core.copied e s);
  fair_right = core.fair_right;
  fair_value = core.fair_value;
}
