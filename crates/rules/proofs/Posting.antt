-- A post: one line more, after all others.
use Rattle.std.proofs.Common.{◌≡◌, ℕ, Bool, true, false, cond, eqb, ◌⊎◌, List, [], ◌∷◌, ◌++◌, fold, sym, refl, ap, ◌∙◌, subst, inl, inr, append-nil}
use Rattle.std.specs.List.{AllByRecursion as All}
use Rattle.std.proofs.lemmas.Bool.{eq-eqb, ne_eqb, cases_eq, false_from_ne_true}
use Rattle.rules.specs.declared.rows.Row.{Row}
use Rattle.rules.specs.Entries.{stands, childless, is_own_or_elder}
use Rattle.rules.specs.FairCopy.{EachInTurn}
use Rattle.rules.proofs.Each.{All-push}
use Rattle.rules.proofs.Exchanges.{Same, Laws, same_right, right_append}
use Rattle.rules.proofs.Pairs.{pairs_push}
use Rattle.rules.proofs.Holdings.{Held, held, held_push}
use Rattle.rules.proofs.Kinship.{kin_self, kin_childless}
use Rattle.rules.proofs.Standing.{copied_with, Core, own}

module _ {V X : Type 0} {after : V → X → V} {Right : V → X → Type 0} {OkValue : V → Type 0} {OkItem : X → Type 0} {Cross : X → X → Type 0} (laws : Laws after Right OkValue OkItem Cross)
    {first : V} {rows : List Row} {table : List (Held X)} {copies : ℕ → List X} {value : V} {fair : List X} (core : Core after Right OkValue OkItem Cross first rows table copies value fair) where
  -- e has no child and posts x, which is right at what e sees, and each line crosses it or is held by e or an elder
  module _ (e : ℕ) (x : X) (st : stands rows e ≡ true) (ch : childless rows e ≡ true) (ok : OkItem x)
      (right : Right (fold after value (held (is_own_or_elder rows e) table)) x)
      (way : All (λ g. Cross g.item x ⊎ (is_own_or_elder rows e g.holder ≡ true)) table) where
    abbrev pub posted_table : List (Held X)
    posted_table = table ++ (record { holder = e; item = x } ∷ [])

    abbrev pub posted_copies : ℕ → List X
    posted_copies f = cond (eqb f e) (copies e ++ (x ∷ [])) (copies f)

    pushed : (t : ℕ → Bool) (b : Bool) → t e ≡ b → held t posted_table ≡ held t table ++ cond b (x ∷ []) []
    pushed t b h = held_push t table (record { holder = e; item = x }) ∙ ap (λ c. held t table ++ cond c (x ∷ []) []) h

    not_seen_by : (f : ℕ) → (e ≡ f → ⊥) → is_own_or_elder rows f e ≡ false
    not_seen_by f d = false_from_ne_true (is_own_or_elder rows f e) (λ h. d (sym (kin_childless rows core.frame.grown e f e ch refl h)))

    pub posted : Core after Right OkValue OkItem Cross first rows posted_table posted_copies value fair
    posted = record {
      frame = record {
        grown = core.frame.grown;
        holders = All-push _ table (record { holder = e; item = x }) core.frame.holders st;
        items_ok = All-push _ table (record { holder = e; item = x }) core.frame.items_ok ok;
        order = pairs_push _ table (record { holder = e; item = x }) core.frame.order way;
      };
      value_ok = core.value_ok;
      sees = λ f s. elim (cases_eq e f) [
        | inl i ↦ subst (λ y. EachInTurn after Right value (held (is_own_or_elder rows y) posted_table)) i
            (subst (EachInTurn after Right value) (sym (pushed (is_own_or_elder rows e) true (kin_self rows core.frame.grown e)))
            (right_append laws value (held (is_own_or_elder rows e) table) (x ∷ []) (core.sees e st) (right, tt)))
        | inr d ↦ subst (EachInTurn after Right value)
            (sym (pushed (is_own_or_elder rows f) false (not_seen_by f d) ∙ append-nil (held (is_own_or_elder rows f) table)))
            (core.sees f s)
      ];
      copied = λ f s. copied_with posted_table copies e (copies e ++ (x ∷ []))
          (subst (Same Cross (copies e ++ (x ∷ []))) (sym (pushed (own e) true (eq-eqb e e refl))) (same_right (x ∷ []) (core.copied e st)))
          f (λ d. subst (Same Cross (copies f)) (sym (pushed (own f) false (ne_eqb e f (λ i. d (sym i))) ∙ append-nil (held (own f) table))) (core.copied f s));
      fair_right = core.fair_right;
      fair_value = core.fair_value;
    }
