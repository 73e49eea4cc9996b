-- Rows: what they hold, and the records that they stand for.
use Rattle.std.specs.Prelude.{ℕ, ◌+◌, ◌<◌, Bool, false, ◌&&◌, List, [], ◌∷◌}
use Rattle.listing.specs.declared.Target.{Target}
use Rattle.listing.specs.declared.Target.TheVariants.{Node, False, True}
use Rattle.listing.specs.declared.Record.{Record}
use Rattle.listing.specs.Tests.{same_target}
use Rattle.rows.specs.declared.row.Row.{Row}

abbrev pub zero_row : Row
zero_row = record { low = False; high = False; level = 0; number = 0; own = 0; first = false; image = False }

-- the value that a read past the end is taken for
abbrev pub no_row : Row
no_row = record { low = Node 0 0; high = Node 0 0; level = 0; number = 0; own = 0; first = false; image = Node 0 0 }

-- the record that a row describes
abbrev pub entry_of : Row → Record
entry_of r = record { level = r.level; number = r.number; low = r.low; high = r.high }

-- the row that holds a record
abbrev pub row_of : Record → Row
row_of r = record { low = r.low; high = r.high; level = r.level; number = r.number; own = 0; first = false; image = False }

-- the records of rows, by their places from k on
abbrev pub given : ℕ → List Row → List Record
given k [] = []
given k (r ∷ rs) = record { level = r.level; number = k; low = r.low; high = r.high } ∷ given (k + 1) rs

-- whether two rows have the same targets
abbrev pub like : Row → Row → Bool
like p r = same_target p.low r.low && same_target p.high r.high

-- a target's place is below n
abbrev pub Inside : ℕ → Target → Type 0
Inside n (Node l p) = p < n
Inside n False = Unit {0}
Inside n True = Unit {0}

-- both targets of each row
abbrev pub AllInside : ℕ → List Row → Type 0
AllInside n [] = Unit {0}
AllInside n (r ∷ rs) = (Inside n r.low × Inside n r.high) × AllInside n rs
