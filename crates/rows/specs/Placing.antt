-- A listing with the places of its records for their numbers.
use Rattle.std.specs.Prelude.{◌≡◌, ℕ, ◌+◌, cond, List, [], ◌∷◌, map, Some}
use Rattle.listing.specs.declared.Target.{Target}
use Rattle.listing.specs.declared.Target.TheVariants.{Node, False, True}
use Rattle.listing.specs.declared.Record.{Record}
use Rattle.std.specs.List.{slice_get}
use Rattle.listing.specs.Listing.{node, names, Within, Above, Numbered, Targeted}
use Rattle.rows.specs.declared.row.Row.{Row}
use Rattle.rows.specs.Rows.{row_of}

-- the place of the record that t names, the first having place p
abbrev pub place_of : List Record → ℕ → Target → ℕ
place_of [] p t = p
place_of (r ∷ rs) p t = cond (names t r) p (place_of rs (p + 1) t)

abbrev pub placing : List Record → Target → Target
placing xs (Node l k) = Node l (place_of xs 0 (Node l k))
placing xs False = False
placing xs True = True

abbrev pub place_record : List Record → ℕ → Record → Record
place_record all p r = record { level = r.level; number = p; low = placing all r.low; high = placing all r.high }

abbrev pub place_records : List Record → ℕ → List Record → List Record
place_records all p [] = []
place_records all p (r ∷ rs) = place_record all p r ∷ place_records all (p + 1) rs

-- t is the node of the record at place p
abbrev pub AtPlace : List Record → Target → ℕ → Type 0
AtPlace rs t p = (r : Record) × (slice_get rs p ≡ Some r) × (node r ≡ t)

-- a target as the fourth rule asks it of a record on level l, and both targets of a record
abbrev pub KeptTarget : List Record → ℕ → Target → Type 0
KeptTarget rs l t = Within rs t × Above l t

abbrev pub KeptTargets : List Record → Record → Type 0
KeptTargets rs r = KeptTarget rs r.level r.low × KeptTarget rs r.level r.high

-- a row with places in its arcs, and the row of a record with places in its arcs
abbrev pub placed_arcs : List Record → Row → Row
placed_arcs rs r = record { low = placing rs r.low; high = placing rs r.high; level = r.level; number = r.number; own = r.own; first = r.first; image = r.image }

abbrev pub placed_row : List Record → Record → Row
placed_row rs r = placed_arcs rs (row_of r)

-- the rows hold the records rs, which keep the third and the fourth rule, with places in their arcs
pub record Held (rs : List Record) (rows : List Row) : Type 0 where
  pub numbered : Numbered rs
  pub targeted : Targeted rs
  pub are : rows ≡ map (placed_row rs) rs
