-- An abandon: an entry ends with all that have it as an elder, and what they hold ends with them.
use Rattle.std.proofs.Common.{ℕ, Bool, List, sym, subst}
use Rattle.rules.specs.declared.rows.Row.{Row}
use Rattle.rules.specs.FairCopy.{EachInTurn}
use Rattle.rules.proofs.Exchanges.{Same}
use Rattle.rules.proofs.Holdings.{Held}
use Rattle.rules.proofs.Kinship.{Closed, rest, stood, is_outside, closed_outside}
use Rattle.rules.proofs.Standing.{Core, left_of, frame_rest, seen_rest, own_rest}

module _ {V X : Type 0} {after : V → X → V} {Right : V → X → Type 0} {OkValue : V → Type 0} {OkItem : X → Type 0} {Cross : X → X → Type 0}
    {first : V} {rows : List Row} {table : List (Held X)} {copies : ℕ → List X} {value : V} {fair : List X} (core : Core after Right OkValue OkItem Cross first rows table copies value fair) (e : ℕ) where
  abbrev left : ℕ → Bool
  left = is_outside rows e

  closed : Closed left rows
  closed = closed_outside rows core.frame.grown e

  pub abandoned : Core after Right OkValue OkItem Cross first (rest left rows) (left_of left table) copies value fair
  abandoned = record {
    frame = frame_rest core.frame left closed;
    value_ok = core.value_ok;
    sees = λ f s. (let so = stood left rows f s in subst (EachInTurn after Right value) (sym (seen_rest core.frame left closed f so.1)) (core.sees f so.0));
    copied = λ f s. (let so = stood left rows f s in subst (Same Cross (copies f)) (sym (own_rest core.frame left f so.1)) (core.copied f so.0));
    fair_right = core.fair_right;
    fair_value = core.fair_value;
  }
