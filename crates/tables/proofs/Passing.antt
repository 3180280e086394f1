-- A loop that passes lines on in their places, and one turn of it.
use Rattle.std.proofs.Common.{◌≡◌, ℕ, ◌+◌, ◌<◌, eqb, List, ◌++◌, length, get_or, take, drop, set, sym, ap, ◌∙◌}
use Rattle.std.proofs.lemmas.List.Edits.{map_over_more}
use Rattle.std.proofs.lemmas.Bool.{cond-true, cond-false, eq-eqb, ne_eqb}
use Rattle.rules.specs.declared.lines.Line.{Line}
use Rattle.rules.specs.Calls.{holder_after, pass_on}

module _ {P : Type 0} (from to : ℕ) where
  -- a line with another holder
  abbrev held : ℕ → Line P → Line P
  held h l = record { holder = h; cell = l.cell; posting = l.posting }

  -- the first i lines are passed on, and the others are as they were
  abbrev pub Passing : List (Line P) → List (Line P) → ℕ → Type 0
  Passing was ls i = ls ≡ pass_on from to (take i was) ++ drop i was

  module _ (was ls : List (Line P)) (i : ℕ) (at : Passing was ls i) (more : i < length was) (x : Line P) (read : x ≡ get_or ls i x) where
    -- the line at i gets the holder that it has after
    turned : (holder : ℕ) → holder ≡ holder_after from to (get_or ls i x).holder → Passing was (set ls i (held holder (get_or ls i x))) (i + 1)
    turned holder is = ap (λ h. set ls i (held h (get_or ls i x))) is ∙ map_over_more (λ l. held (holder_after from to l.holder) l) was ls i (get_or ls i x) more at (ap (get_or ls i) read)

    -- a line of the first one is given to the other
    pub passed : (get_or ls i x).holder ≡ from → Passing was (set ls i (held to (get_or ls i x))) (i + 1)
    passed own = turned to (sym (cond-true (eqb (get_or ls i x).holder from) to (get_or ls i x).holder (eq-eqb _ from own)))

    -- any other is left
    pub left : ((get_or ls i x).holder ≡ from → ⊥) → Passing was (set ls i (get_or ls i x)) (i + 1)
    left other = turned (get_or ls i x).holder (sym (cond-false (eqb (get_or ls i x).holder from) to (get_or ls i x).holder (ne_eqb _ from other)))
