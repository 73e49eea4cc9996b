-- What a run does: its outcome, what the rows hold then, and what a fault leaves.
use Rattle.std.specs.Prelude.{◌≡◌, ℕ, ◌+◌, ◌-◌, ◌^◌, ◌≤◌, min, List, length, take, drop, Ok, Err, Result}
use Rattle.listing.specs.declared.Target.{Target}
use Rattle.listing.specs.declared.Record.{Record}
use Rattle.queue.specs.declared.Refused.{Refused}
use Rattle.rows.specs.declared.row.Row.{Row}
use Rattle.rows.specs.Rows.{given}
use Rattle.rows.specs.Placing.{place_records}
use Rattle.reduce.specs.Loading.{zeroed}
use Rattle.pairs.specs.declared.Pair.{Pair}
use Rattle.pairs.specs.declared.keys.PairKey.{PairKey}
use Rattle.pairs.specs.Keys.{key_of}
use Rattle.pairs.specs.Pairs.{Run, kid}
use Rattle.pairs.specs.Rows.{Rows, Outcome, done, no_row, queue_full, Comes, Refuses}
use Rattle.pairs.specs.Records.{records_of, root_of, Means}
use Rattle.sweep.specs.declared.faults.Request.{Request}
use Rattle.sweep.specs.declared.faults.RunFault.{RunFault}
use Rattle.sweep.specs.declared.faults.RunFault.TheVariants as fault
use Rattle.sweep.specs.declared.running.Task.{Task}
use Rattle.listing.specs.declared.Stored.{Stored}
use Rattle.sweep.specs.Reading.{side_of}

-- the run of two listings over n facts, each by its root and records
abbrev pub run_of : ℕ → Target → List Record → Target → List Record → Task → Run
run_of n root rs root' rs' task =
    record { facts = n; left = side_of root rs task.left; right = side_of root' rs' task.right; operator = task.operator }

-- the rows that a run can use: they are numbered in 32 bits
abbrev pub row_space : ℕ → ℕ
row_space m = min m (2 ^ 32 - 1)

-- the rows hold records: each row its record's level and arcs, the arcs naming rows by their places
abbrev pub Hold : List Row → List Record → Type 0
Hold rows rs = given 0 rows ≡ place_records rs 0 rs

-- the run has these rows, and comes out so
pub record ComesOut (r : Run) (space room : ℕ) (o : Outcome) : Type 0 where
  pub pairs : List Pair
  pub rows : Rows r pairs
  pub comes : Comes r pairs space room o

-- A run that is done: the rows, read as records, are a listing by the rules whose value at every setting is the run's; the
-- rows beyond are as they were.
pub record Done (r : Run) (space room : ℕ) (before after : List Row) (d : Stored) : Type 0 where
  pub out : ComesOut r space room done
  pub count : d.count ≡ length out.pairs
  pub root : d.root ≡ root_of r out.pairs
  pub hold : Hold (take d.count after) (records_of r out.pairs)
  pub means : Means r d.root (records_of r out.pairs)
  pub rest : drop d.count after ≡ drop d.count before

-- A queue that is full: the refused element, whole, is the request of the first arc, low before high, that found no room.
pub record Overfull (r : Run) (space room : ℕ) (f : Refused PairKey Request) : Type 0 where
  pub out : ComesOut r space room (queue_full f.element.carried.row)
  pub pair : Pair
  pub refuses : Refuses r out.pairs room f.element.carried.row pair f.element.carried.high
  pub key : f.element.key ≡ key_of r.facts (kid r f.element.carried.high pair)

-- how many rows were opened when a fault came
abbrev pub opened_at : RunFault → ℕ
opened_at (fault.Row k) = k
opened_at (fault.Full f) = f.element.carried.row + 1

-- the fault is the outcome's
abbrev pub Ends : Run → ℕ → ℕ → RunFault → Type 0
Ends r space room (fault.Row k) = ComesOut r space room (no_row k)
Ends r space room (fault.Full f) = Overfull r space room f

-- What a run answers, and what it leaves of the rows: after a fault, zeros in the rows opened, and the others as they were.
abbrev pub Runs : Run → ℕ → ℕ → List Row → List Row → Result Stored RunFault → Type 0
Runs r space room before after (Ok d) = Done r space room before after d
Runs r space room before after (Err f) = Ends r space room f × (opened_at f ≤ length before) × (after ≡ zeroed (opened_at f) before)

-- the same before the rows are cleared
abbrev pub Swept : Run → ℕ → ℕ → List Row → List Row → Result Stored RunFault → Type 0
Swept r space room before after (Ok d) = Done r space room before after d
Swept r space room before after (Err f) = Ends r space room f × (opened_at f ≤ length before) × (drop (opened_at f) after ≡ drop (opened_at f) before)
