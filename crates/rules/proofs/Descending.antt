-- The copies of an entry's elders, eldest first, and then its own, come to what the entry sees.
use Rattle.std.proofs.Common.{◌≡◌, ℕ, ◌<◌, ◌≤◌, true, List, [], ◌∷◌, fold, sym, subst, inl, inr, arith}
use Rattle.std.specs.List.{AllByRecursion as All}
use Rattle.std.proofs.lemmas.Bool.{eqb-true}
use Rattle.rules.specs.declared.rows.Row.{Row}
use Rattle.rules.specs.Entries.{stands, elders, is_among, is_own_or_elder}
use Rattle.rules.specs.FairCopy.{EachInTurn, last_named_first}
use Rattle.rules.proofs.Exchanges.{Same, Laws, same_nil, same_trans, same_sym, same_left, same_right, same_end, same_rightly}
use Rattle.rules.proofs.Bools.{parts_swap, parts_or}
use Rattle.rules.proofs.Pairs.{pairs_weaker}
use Rattle.rules.proofs.Holdings.{Held, held, held_none, split}
use Rattle.rules.proofs.Numbers.{Falls, among_all, all_from_among}
use Rattle.rules.proofs.Kinship.{kin_falls, kin_stands, kin_below}
use Rattle.rules.proofs.Standing.{Core, own, held_ok}

module _ {V X : Type 0} {after : V → X → V} {Right : V → X → Type 0} {OkValue : V → Type 0} {OkItem : X → Type 0} {Cross : X → X → Type 0} (laws : Laws after Right OkValue OkItem Cross)
    {first : V} {rows : List Row} {table : List (Held X)} {copies : ℕ → List X} {value : V} {fair : List X} (core : Core after Right OkValue OkItem Cross first rows table copies value fair) where
  -- each entry's lines may go after those of all that are named after it
  last_first_is : (es : List ℕ) → Falls es → All (λ x. stands rows x ≡ true) es → Same Cross (last_named_first copies es) (held (is_among es) table)
  last_first_is [] f s = subst (Same Cross []) (sym (held_none table)) same_nil
  last_first_is (e ∷ es) f s =
      same_trans (same_right (copies e) (last_first_is es f.1 s.1))
      (same_trans (same_left (held (is_among es) table) (core.copied e s.0))
      (same_sym laws.symm
      (split (is_among (e ∷ es)) (is_among es) (own e)
      (λ h. parts_swap (parts_or (own e h) (is_among es h) (λ b a. (let k : h < e = among_all (λ y. y < e) es f.0 h a in let j : h ≡ e = eqb-true h e b in omega arith))))
      table
      (pairs_weaker (λ g m o b a. elim o [
        | inl c ↦ c
        | inr h ↦ absurd (let k : m.holder < e = among_all (λ y. y < e) es f.0 m.holder a in let j : g.holder ≡ e = eqb-true g.holder e b in let i : g.holder ≤ m.holder = kin_below rows core.frame.grown m.holder g.holder h in omega arith)
      ])
      table core.frame.order))))

  module _ (e : ℕ) (st : stands rows e ≡ true) where
    so_far_is : Same Cross (last_named_first copies (e ∷ elders rows e)) (held (is_own_or_elder rows e) table)
    so_far_is = last_first_is (e ∷ elders rows e) (kin_falls rows core.frame.grown e) (all_from_among (λ x. stands rows x ≡ true) (e ∷ elders rows e) (λ x m. kin_stands rows core.frame.grown e x st m))

    pub so_far_right : EachInTurn after Right value (last_named_first copies (e ∷ elders rows e))
    so_far_right = same_rightly laws (same_sym laws.symm so_far_is) value core.value_ok (held_ok core.frame (is_own_or_elder rows e)) (core.sees e st)

    pub so_far_end : fold after value (last_named_first copies (e ∷ elders rows e)) ≡ fold after value (held (is_own_or_elder rows e) table)
    so_far_end = sym (same_end laws (same_sym laws.symm so_far_is) value core.value_ok (held_ok core.frame (is_own_or_elder rows e)))
