-- Rows stay in order and numbered through a begin and through each kind of end.
use Rattle.std.proofs.Common.{◌≡◌, ℕ, ◌+◌, true, ◌||◌, eqb, List, [], ◌∷◌, ◌++◌, refl, ap, ◌∙◌}
use Rattle.rules.specs.declared.rows.Row.{Row}
use Rattle.rules.specs.Entries.{stands, childless, without, outside}
use Rattle.tables.specs.Order.{are_in_order, numbered_to}
use Rattle.tables.specs.Tables.{Records}
use Rattle.tables.proofs.InOrder.{in_order_push, in_order_without, in_order_outside, numbered_push, numbered_kept}

-- the rows of a register that has taken n begins
pub record Stand (n : ℕ) (rows : Records Row) : Type 0 where
  pub in_order : are_in_order rows.standing ≡ true
  pub numbered : numbered_to n rows.standing ≡ true

module _ (n : ℕ) (was rows : Records Row) (order : are_in_order was.standing ≡ true) (numbers : numbered_to n was.standing ≡ true) where
  kept : (left : List Row) → rows ≡ record { standing = left; room = was.room; slice = was.slice } → are_in_order left ≡ true → numbered_to n left ≡ true → Stand n rows
  kept left is in_order numbered = record { in_order = ap (λ t. are_in_order t.standing) is ∙ in_order; numbered = ap (λ t. numbered_to n t.standing) is ∙ numbered }

  pub one_ended : (e : ℕ) → childless was.standing e ≡ true → rows ≡ record { standing = without e was.standing; room = was.room; slice = was.slice } → Stand n rows
  one_ended e alone is = kept (without e was.standing) is (in_order_without was.standing order e alone) (numbered_kept _ n was.standing numbers)

  pub all_inside_ended : (e : ℕ) → rows ≡ record { standing = outside e was.standing; room = was.room; slice = was.slice } → Stand n rows
  all_inside_ended e is = kept (outside e was.standing) is (in_order_outside was.standing order e) (numbered_kept _ n was.standing numbers)

  pub one_begun : (q : ℕ) → (eqb q 0 || stands was.standing q) ≡ true → rows ≡ record { standing = was.standing ++ record { entry = n + 1; parent = q } ∷ []; room = was.room; slice = was.slice } → Stand (n + 1) rows
  one_begun q placed is =
      let begun : Row = record { entry = n + 1; parent = q } in
      record {
        in_order = ap (λ t. are_in_order t.standing) is ∙ in_order_push was.standing order n begun numbers refl placed;
        numbered = ap (λ t. numbered_to (n + 1) t.standing) is ∙ numbered_push n was.standing begun numbers refl;
      }
