-- Rows in the order of their targets.
use Rattle.std.specs.Prelude.{◌≡◌, ◌⊎◌, List, [], ◌∷◌}
use Rattle.std.specs.List.Sorted.{IsPermutation}
use Rattle.listing.specs.Listing.{Rises}
use Rattle.rows.specs.declared.row.Row.{Row}
use Rattle.rows.specs.Rows.{zero_row, entry_of}
use Rattle.reduce.specs.Passes.{number_rows}

abbrev pub Alike : Row → Row → Type 0
Alike p r = (p.low ≡ r.low) × (p.high ≡ r.high)

-- r comes no earlier than p by its targets
abbrev pub Steps : Row → Row → Type 0
Steps p r = Alike p r ⊎ Rises (entry_of p) (entry_of r)

abbrev pub Onwards : Row → List Row → Type 0
Onwards p [] = Unit {0}
Onwards p (r ∷ rs) = Steps p r × Onwards r rs

abbrev pub Ascending : List Row → Type 0
Ascending [] = Unit {0}
Ascending (r ∷ rs) = Onwards r rs

-- ys are the rows of xs, sorted and numbered
pub record Arranged (xs ys : List Row) : Type 0 where
  pub sorted : List Row
  pub shuffled : IsPermutation xs sorted
  pub ascends : Ascending sorted
  pub is : ys ≡ number_rows zero_row 0 0 sorted
