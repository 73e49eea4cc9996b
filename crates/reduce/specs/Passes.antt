-- What the passes over a level do to rows.
use Rattle.std.specs.Prelude.{ℕ, ◌+◌, Bool, true, false, cond, not, ◌&&◌, List, [], ◌∷◌, slice_index_or, slice_set}
use Rattle.listing.specs.declared.Target.{Target}
use Rattle.listing.specs.declared.Target.TheVariants.{Node, False, True}
use Rattle.listing.specs.declared.Record.{Record}
use Rattle.listing.specs.Tests.{same_target}
use Rattle.rows.specs.declared.row.Row.{Row}
use Rattle.rows.specs.Rows.{no_row, entry_of, like}

-- the records of the rows that are the first of their kind
abbrev pub kept : List Row → List Record
kept [] = []
kept (r ∷ rs) = cond r.first (entry_of r ∷ kept rs) (kept rs)

-- the image of a target: that of the row at its place
abbrev pub image_of : List Row → Target → Target
image_of rows (Node l p) = (slice_index_or rows p no_row).image
image_of rows False = False
image_of rows True = True

-- a row with the images of its targets, and the place k that it stands at
abbrev pub move_row : (Target → Target) → ℕ → Row → Row
move_row im k r = record { low = im r.low; high = im r.high; level = r.level; number = r.number; own = k; first = r.first; image = r.image }

abbrev pub move_rows : (Target → Target) → ℕ → List Row → List Row
move_rows im k [] = []
move_rows im k (r ∷ rs) = move_row im k r ∷ move_rows im (k + 1) rs

-- whether r's targets differ from each other and from those of the row p before it
abbrev pub fresh : Row → Row → Bool
fresh p r = not (same_target r.low r.high) && not (like p r)

abbrev pub mark : Row → Bool → ℕ → Row
mark r f k = record { low = r.low; high = r.high; level = r.level; number = k; own = r.own; first = f; image = r.image }

-- the rows with their numbers: p is the row before, j the number given last, k the next number
abbrev pub number_rows : Row → ℕ → ℕ → List Row → List Row
number_rows p j k [] = []
number_rows p j k (r ∷ rs) = cond (fresh p r) (mark r true k ∷ number_rows r k (k + 1) rs) (mark r false j ∷ number_rows r j k rs)

-- what a numbered row is replaced by
abbrev pub outcome : Row → Target
outcome t = cond (same_target t.low t.high) t.low (Node t.level t.number)

abbrev pub imaged : Row → Target → Row
imaged r t = record { low = r.low; high = r.high; level = r.level; number = r.number; own = r.own; first = r.first; image = t }

abbrev pub put_image : List Row → ℕ → Target → List Row
put_image rows p t = slice_set rows p (imaged (slice_index_or rows p no_row) t)

-- each of the rows ts has its outcome written at the place that it stood at
abbrev pub write_back : List Row → List Row → List Row
write_back rows [] = rows
write_back rows (t ∷ ts) = write_back (put_image rows t.own (outcome t)) ts
