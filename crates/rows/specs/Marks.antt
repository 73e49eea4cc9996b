-- Rows that arcs name, and their marks.
use Rattle.std.specs.Prelude.{◌≡◌, ℕ, ◌<◌, Bool, true, false, cond, List, length, Decides, slice_index_or, slice_set}
use Rattle.listing.specs.declared.Target.{Target}
use Rattle.listing.specs.declared.Target.TheVariants.{Node, False, True}
use Rattle.rows.specs.declared.row.Row.{Row}
use Rattle.rows.specs.Rows.{no_row}

-- a row's low (false) or high (true)
abbrev pub arc : Bool → Row → Target
arc b r = cond b r.high r.low

-- a row with its mark set, or taken away
abbrev pub with_mark : Bool → Row → Row
with_mark m r = record { low = r.low; high = r.high; level = r.level; number = r.number; own = r.own; first = m; image = r.image }

abbrev pub bare : Row → Row
bare r = with_mark false r

-- the rows with a mark at the place that a target names
abbrev pub marked : Target → List Row → List Row
marked (Node l p) rows = slice_set rows p (with_mark true (slice_index_or rows p no_row))
marked False rows = rows
marked True rows = rows

-- an arc of one of the first m rows names place k
abbrev pub Named : List Row → ℕ → ℕ → Type 0
Named rows m k = (j : ℕ) × (j < m) × (b : Bool) × (l : ℕ) × (arc b (slice_index_or rows j no_row) ≡ Node l k)

-- exactly the places that arcs of the first m of the rows name are marked
abbrev pub Marks : List Row → ℕ → List Row → Type 0
Marks rows m after = (k : ℕ) → k < length rows → Decides (slice_index_or after k no_row).first (Named rows m k)

-- place k is not the first, and no arc names it
abbrev pub Unnamed : List Row → ℕ → Type 0
Unnamed rows k = (0 < k) × (k < length rows) × (Named rows (length rows) k → ⊥)

-- every place but the first is named by an arc
abbrev pub AllNamed : List Row → Type 0
AllNamed rows = (k : ℕ) → 0 < k → k < length rows → Named rows (length rows) k
