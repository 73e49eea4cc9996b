-- The order of rows: by low, then by high; and its laws. Assumes nothing.
use Rattle.std.specs.Prelude.{◌≡◌}
use Rattle.std.specs.Ordering.{ordering_then, eq_by_cmp}
use Rattle.std.specs.declared.cmp.Ordering.{Ordering}
use Rattle.std.specs.Cmp.{IsTotalOrder, IsEquivalence, then_total, on_total, both_tied, eq_by_cmp_equiv}
use Rattle.std.proofs.Common.{sym, subst}
use Rattle.listing.specs.Tests.{same_target}
use Rattle.listing.specs.Ranks.{rank_target, target_total, target_ties}
use Rattle.rows.specs.declared.row.Row.{Row}
use Rattle.rows.specs.Rows.{like}

-- the derived order of rows is this one, and their derived equality is `like`
abbrev pub rank_row : Row → Row → Ordering
rank_row p r = ordering_then (rank_target p.low r.low) (rank_target p.high r.high)

-- that order is total, and rows tie where they are alike
pub row_total : IsTotalOrder rank_row
row_total = then_total (on_total (λ (r : Row). r.low) target_total) (on_total (λ (r : Row). r.high) target_total)

pub row_ties : (p r : Row) → like p r ≡ eq_by_cmp rank_row p r
row_ties p r = both_tied (same_target p.low r.low) (same_target p.high r.high) (rank_target p.low r.low) (rank_target p.high r.high) (target_ties p.low r.low) (target_ties p.high r.high)

pub row_equiv : IsEquivalence like
row_equiv = subst IsEquivalence (λ i p r. sym (row_ties p r) i) (eq_by_cmp_equiv row_total)
