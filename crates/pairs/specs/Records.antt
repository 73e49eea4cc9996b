-- The rows of a run read as records, and their value.
use Rattle.std.specs.Prelude.{◌≡◌, ℕ, Bool, true, false, cond, ◌&&◌, List, map, length, Some, None, filter, Option, ◌==◌, slice_set}
use Rattle.listing.specs.declared.Target.{Target}
use Rattle.listing.specs.declared.Target.TheVariants.{Node}
use Rattle.listing.specs.declared.Record.{Record}
use Rattle.listing.specs.Settings.{Setting}
use Rattle.listing.specs.Listing.{value, terminal, Listing}
use Rattle.pairs.specs.declared.Pair.{Pair}
use Rattle.pairs.specs.declared.Fixed.{Fixed}
use Rattle.pairs.specs.Pairs.{Side, Run, answer, level, kid, start, verdict, opens, ahead}

-- a row's number on its level: how many rows of its level are before it
unfoldable pub place : Run → List Pair → Pair → ℕ
place r ps p = length (filter (λ q. (level r q == level r p) && ahead r q p) ps)

-- an open pair's node, a closed pair's terminal
unfoldable pub name : Run → List Pair → Pair → Target
name r ps p = cond (opens r.operator p) (Node (level r p) (place r ps p)) (terminal (verdict r.operator p))

-- the record of a row: its level, its number there, and what its two children are named
unfoldable pub row : Run → List Pair → Pair → Record
row r ps p = record { level = level r p; number = place r ps p; low = name r ps (kid r false p); high = name r ps (kid r true p) }

-- the rows as records
unfoldable pub records_of : Run → List Pair → List Record
records_of r ps = map (row r ps) ps

-- the root of the rows: the root pair's name, which is a terminal where that pair is closed
abbrev pub root_of : Run → List Pair → Target
root_of r ps = name r ps (start r)

-- a setting with a side's fixed fact set
abbrev pub fixed_at : Option Fixed → List Bool → List Bool
fixed_at None s = s
fixed_at (Some f) s = slice_set s f.level f.bit

-- a side's value at a setting, its fixed fact set
abbrev pub side_value : Side → List Bool → Bool
side_value d s = value d.records (fixed_at d.fixed s) d.root

-- the run's value at a setting: the operator's answer of the two sides' values, each with its fixed fact set
abbrev pub run_value : Run → List Bool → Bool
run_value r s = answer r.operator (side_value r.left s) (side_value r.right s)

-- root and records are a listing by the rules whose value at every setting is the run's
pub record Means (r : Run) (root : Target) (rs : List Record) : Type 0 where
  pub listing : Listing r.facts root rs
  pub values : (s : List Bool) → Setting r.facts s → value rs s root ≡ run_value r s
