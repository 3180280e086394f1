-- A begin: a new entry stands, with nothing held and nothing copied.
use Rattle.std.proofs.Common.{◌≡◌, ℕ, ◌<◌, true, cond, ◌||◌, eqb, ◌⊎◌, List, [], ◌∷◌, sym, ap, ◌∙◌, subst, inl, inr, arith}
use Rattle.std.proofs.lemmas.Bool.{ne_eqb}
use Rattle.rules.specs.declared.rows.Row.{Row}
use Rattle.rules.specs.Entries.{stands, elders, is_among, is_own_or_elder}
use Rattle.rules.specs.FairCopy.{EachInTurn}
use Rattle.rules.proofs.Each.{All-weaker}
use Rattle.rules.proofs.Exchanges.{Same, same_nil}
use Rattle.rules.proofs.Pairs.{pairs_where}
use Rattle.rules.proofs.Holdings.{Held, held, held_agree, held_none}
use Rattle.rules.proofs.Kinship.{joined, joined_old, joined_cases, elders_joined, grown_joined, elders_new_top, elders_new_inner}
use Rattle.rules.proofs.Standing.{copied_with, Core, own}

module _ {V X : Type 0} {after : V → X → V} {Right : V → X → Type 0} {OkValue : V → Type 0} {OkItem : X → Type 0} {Cross : X → X → Type 0}
    {first : V} {rows : List Row} {table : List (Held X)} {copies : ℕ → List X} {value : V} {fair : List X} (core : Core after Right OkValue OkItem Cross first rows table copies value fair) where
  module _ (n q : ℕ) (above : (e : ℕ) → stands rows e ≡ true → e < n) (positive : 0 < n) (under : (q ≡ 0) ⊎ (stands rows q ≡ true)) where
    abbrev grown_rows : List Row
    grown_rows = joined rows n q above

    abbrev pub begun_copies : ℕ → List X
    begun_copies x = cond (eqb x n) [] (copies x)

    older : (h : ℕ) → stands rows h ≡ true → h ≡ n → ⊥
    older h s e = let k : h < n = above h s in omega arith

    same_kin : (h : ℕ) → stands rows h ≡ true → (x : ℕ) → is_own_or_elder grown_rows h x ≡ is_own_or_elder rows h x
    same_kin h s x = ap (λ l. is_among (h ∷ l) x) (elders_joined rows n q above core.frame.grown h s)

    -- no line is the new entry's own
    none_own : held (own n) table ≡ []
    none_own = held_agree (own n) (is_among []) table (All-weaker _ _ (λ g s. ne_eqb g.holder n (older g.holder s)) table core.frame.holders) ∙ held_none table

    new_sees : (es : List ℕ) → elders grown_rows n ≡ es → held (is_own_or_elder grown_rows n) table ≡ held (is_among es) table
    new_sees es h =
        ap (λ l. held (is_among (n ∷ l)) table) h
        ∙ held_agree _ _ table (All-weaker _ _ (λ g s. ap (λ b. b || is_among es g.holder) (ne_eqb g.holder n (older g.holder s))) table core.frame.holders)

    sees_by : (q ≡ 0) ⊎ (stands rows q ≡ true) → EachInTurn after Right value (held (is_own_or_elder grown_rows n) table)
    sees_by (inl z) = subst (EachInTurn after Right value) (sym (new_sees [] (elders_new_top rows n q above core.frame.grown positive under z) ∙ held_none table)) tt
    sees_by (inr s) = subst (EachInTurn after Right value) (sym (new_sees (q ∷ elders rows q) (elders_new_inner rows n q above core.frame.grown positive under s))) (core.sees q s)

    pub began : Core after Right OkValue OkItem Cross first grown_rows table begun_copies value fair
    began = record {
      frame = record {
        grown = grown_joined rows n q above core.frame.grown positive under;
        holders = All-weaker _ _ (λ g s. joined_old rows n q above g.holder s) table core.frame.holders;
        items_ok = core.frame.items_ok;
        order = pairs_where (λ g m sg sm o. elim o [ inl c ↦ inl c | inr h ↦ inr (same_kin m.holder sm g.holder ∙ h) ]) table core.frame.holders core.frame.order;
      };
      value_ok = core.value_ok;
      sees = λ e s. elim (joined_cases rows n q above e s) [
        | inl i ↦ subst (λ x. EachInTurn after Right value (held (is_own_or_elder grown_rows x) table)) (sym i) (sees_by under)
        | inr t ↦ subst (λ l. EachInTurn after Right value (held (is_among (e ∷ l)) table)) (sym (elders_joined rows n q above core.frame.grown e t)) (core.sees e t)
      ];
      copied = λ e s. copied_with table copies n [] (subst (Same Cross []) (sym none_own) same_nil)
          e (λ d. core.copied e (elim (joined_cases rows n q above e s) [ inl i ↦ absurd (d i) | inr t ↦ t ]));
      fair_right = core.fair_right;
      fair_value = core.fair_value;
    }
