-- The register's lines are those of a table of held lines without their answers; so what is done to the one is done to the other,
-- and what a question finds in the one it finds in the other.
use Rattle.std.specs.List.{list_any}
use Rattle.std.proofs.Common.{◌≡◌, ℕ, Bool, false, List, [], ◌∷◌, map, Some, None, filter, sym, ◌∙◌}
use Rattle.std.specs.List.{AllByRecursion as All}
use Rattle.std.proofs.lemmas.Bool.{or_parts, cond_both}
use Rattle.std.proofs.lemmas.Simd.{map-map}
use Rattle.rules.specs.declared.lines.Line.{Line}
use Rattle.rules.specs.Calls.{holder_after, pass_on, earliest_holder}
use Rattle.rules.specs.Books.{Copied}
use Rattle.rules.proofs.Pairs.{filter_map_swap}
use Rattle.rules.proofs.Holdings.{Held, renamed}
use Rattle.rules.proofs.Standing.{left_of}
use Rattle.rules.proofs.Stores.{bare}

-- ---- no line passes a test

module _ {P : Type 0} (test : Line P → Bool) where
  pub none_earliest : (ls : List (Line P)) → earliest_holder test ls ≡ None → All (λ l. test l ≡ false) ls
  none_earliest [] e = tt
  none_earliest (l ∷ ls) e =
      cond_both (test l) (Some l.holder) (earliest_holder test ls) (λ o. o ≡ None → All (λ m. test m ≡ false) (l ∷ ls)) (λ t h. cc) (λ f h. (f, none_earliest ls h)) e

  pub none_some : (ls : List (Line P)) → list_any test ls ≡ false → All (λ l. test l ≡ false) ls
  none_some [] e = tt
  none_some (l ∷ ls) e = let es = or_parts (test l) (list_any test ls) e in (es.0, none_some ls es.1)

-- ---- lines without their answers

module _ {P O : Type 0} where
  pub kept_bare : (k : ℕ → Bool) (gs : List (Held (Copied P O))) → filter (λ l. k l.holder) (map bare gs) ≡ map bare (left_of k gs)
  kept_bare k gs = filter_map_swap bare (λ l. k l.holder) gs

  pub passed_bare : (e q : ℕ) (gs : List (Held (Copied P O))) → pass_on e q (map bare gs) ≡ map bare (renamed (holder_after e q) gs)
  passed_bare e q gs = map-map _ bare gs ∙ sym (map-map bare _ gs)

  pub all_bare : (Q : Line P → Type 0) (gs : List (Held (Copied P O))) → All Q (map bare gs) → All (λ g. Q (bare g)) gs
  all_bare Q [] a = tt
  all_bare Q (g ∷ gs) a = (a.0, all_bare Q gs a.1)
