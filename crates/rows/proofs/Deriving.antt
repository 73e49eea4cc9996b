-- The derived order and equality of rows are the order by low, then by high, and likeness.
use Rattle.std.proofs.Common.{◌≡◌, ◌&&◌, ap₂}
use Rattle.std.specs.Ordering.{ordering_then}
use Rattle.listing.proofs.Derived.{target_same, target_cmp}
use Rattle.rows.specs.declared.row.Row.{Row}
use Rattle.rows.specs.contracts.row.RowOrd.TheImpl as of_row
use Rattle.rows.specs.contracts.row.RowPartialEq.TheImpl as alike
use Rattle.rows.specs.Rows.{like}
use Rattle.rows.specs.Ranks.{rank_row}

pub ranked_row : (p r : Row) → (of_row.ghosts).cmp p r ≡ rank_row p r
ranked_row p r = ap₂ ordering_then (target_cmp p.low r.low) (target_cmp p.high r.high)

pub alike_row : (p r : Row) → (alike.ghosts).eq p r ≡ like p r
alike_row p r = ap₂ (λ a b. a && b) (target_same p.low r.low) (target_same p.high r.high)
