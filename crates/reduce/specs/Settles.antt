-- What settling a level does to the rows.
use Rattle.std.specs.Prelude.{◌≡◌, ℕ, ◌-◌, ◌<◌, List, [], ◌∷◌, ◌++◌, take, drop}
use Rattle.std.specs.List.Sorted.{IsPermutation}
use Rattle.rows.specs.declared.row.Row.{Row}
use Rattle.rows.specs.Rows.{zero_row}
use Rattle.reduce.specs.Passes.{image_of, move_rows, number_rows, write_back}
use Rattle.reduce.specs.Sorts.{Ascending}

abbrev pub OwnInside : ℕ → List Row → Type 0
OwnInside n [] = Unit {0}
OwnInside n (r ∷ rs) = (r.own < n) × OwnInside n rs

-- the rows at the places from a to b
abbrev pub part : ℕ → ℕ → List Row → List Row
part a b rows = take (b - a) (drop a rows)

-- the rows with the images of the targets of those from a to b
abbrev pub mapped_level : ℕ → ℕ → List Row → List Row
mapped_level a b rows = take a rows ++ (move_rows (image_of rows) a (part a b rows) ++ drop b rows)

pub record Settled (a b : ℕ) (rows after : List Row) : Type 0 where
  pub sorted : List Row
  pub shuffled : IsPermutation (move_rows (image_of rows) a (part a b rows)) sorted
  pub ascends : Ascending sorted
  pub is : after ≡ write_back (take a rows ++ (number_rows zero_row 0 0 sorted ++ drop b rows)) (number_rows zero_row 0 0 sorted)
