-- From rows to what a load leaves.
use Rattle.std.proofs.Common.{◌≡◌, ℕ, List, subst}
use mathlib.Core.Path.{subst⁻¹}
use Rattle.listing.specs.declared.Target.{Target}
use Rattle.listing.specs.declared.Record.{Record}
use Rattle.listing.specs.Listing.{Listing}
use Rattle.rows.specs.declared.row.Row.{Row}
use Rattle.rows.specs.Rows.{given}
use Rattle.reduce.specs.Reduction.{Rowing}
use Rattle.reduce.specs.Contract.{Normalizes}
use Rattle.rows.specs.Placing.{placing, place_records}
use Rattle.reduce.proofs.Renaming.{rowing, renamed_normal}

module _ (n : ℕ) (root : Target) (rs : List Record) (rows : List Row) (ls : Listing n root rs) (e : given 0 rows ≡ place_records rs 0 rs) where
  pub rows_rowing : Rowing n (placing rs root) (given 0 rows)
  rows_rowing = subst⁻¹ (λ (xs : List Record). Rowing n (placing rs root) xs) e (rowing n root rs ls)

  pub rows_normal : (root' : Target) (ys : List Record) → Normalizes n (placing rs root) (given 0 rows) root' ys → Normalizes n root rs root' ys
  rows_normal root' ys h = renamed_normal n root rs ls root' ys (subst (λ (xs : List Record). Normalizes n (placing rs root) xs root' ys) e h)
