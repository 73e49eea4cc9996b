-- What loading a source comes to: its listing is checked and made normal, by way of one row a record.
use Rattle.std.specs.Prelude.{◌≡◌, ℕ, ◌<◌, ◌≤◌, List, ◌++◌, length, drop, replicate, Ok, Err, Result, ◌≢◌}
use Rattle.listing.specs.declared.Target.{Target}
use Rattle.listing.specs.declared.Record.{Record}
use Rattle.listing.specs.Listing.{Listing}
use Rattle.reduce.specs.declared.faults.LoadFault.{LoadFault}
use Rattle.reduce.specs.declared.faults.LoadFault.TheVariants as fault
use Rattle.listing.specs.declared.Stored.{Stored}
use Rattle.rows.specs.declared.row.Row.{Row}
use Rattle.rows.specs.Rows.{zero_row}
use Rattle.rows.specs.Breaks.{Broken}
use Rattle.reduce.specs.Contract.{Normalizes}

-- the rows with zeros in the first m
abbrev pub zeroed : ℕ → List Row → List Row
zeroed m rows = replicate m zero_row ++ drop m rows

-- The caller's spaces at the call and after it.
pub record Spaces : Type 0 where
  pub rows : List Row
  pub rows_after : List Row
  pub records : List Record
  pub records_after : List Record

-- nothing is touched
pub record Untouched (s : Spaces) : Type 0 where
  pub rows : s.rows_after ≡ s.rows
  pub records : s.records_after ≡ s.records

-- the rows taken, m of them, are zeros and the others as they were; no record is changed
pub record Cleared (m : ℕ) (s : Spaces) : Type 0 where
  pub rows : s.rows_after ≡ zeroed m s.rows
  pub records : s.records_after ≡ s.records

-- n is the source's, its records are few enough, and there is a row for each
pub record Admitted (n m : ℕ) (rs : List Record) (s : Spaces) : Type 0 where
  pub facts : m ≡ n
  pub few : length rs ≤ 65535
  pub rows : length rs ≤ length s.rows

-- the normal listing of the source's value, whose records are ys: there is only one
pub record Fitting (n : ℕ) (root : Target) (rs : List Record) (root' : Target) (ys : List Record) : Type 0 where
  pub listing : Listing n root rs
  pub normal : Normalizes n root rs root' ys

-- exactly the normal listing's records are written, in front, and root and count are told
pub record Written (n : ℕ) (root : Target) (rs : List Record) (s : Spaces) (d : Stored) : Type 0 where
  pub records : List Record
  pub fitting : Fitting n root rs d.root records
  pub count : d.count ≡ length records
  pub fits : length records ≤ length s.records
  pub after : s.records_after ≡ records ++ drop (length records) s.records
  pub rows : s.rows_after ≡ zeroed (length rs) s.rows

-- the normal listing's records are too many for the record space
pub record Crowded (n : ℕ) (root : Target) (rs : List Record) (s : Spaces) : Type 0 where
  pub top : Target
  pub records : List Record
  pub fitting : Fitting n root rs top records
  pub lacks : length s.records < length records

-- what the work on the rows of a source answers, and what it leaves of the records
abbrev pub Works : ℕ → Target → List Record → List Record → List Record → Result Stored LoadFault → Type 0
Works n root rs space after (Ok d) =
    (ys : List Record) × Fitting n root rs d.root ys × (d.count ≡ length ys) × (length ys ≤ length space) × (after ≡ ys ++ drop (length ys) space)
Works n root rs space after (Err fault.Facts) = ⊥
Works n root rs space after (Err fault.Records) = ⊥
Works n root rs space after (Err (fault.Row k)) = ⊥
Works n root rs space after (Err (fault.Rule b)) = Broken n root rs b.rule b.place × (after ≡ space)
Works n root rs space after (Err fault.Space) =
    (top : Target) × (ys : List Record) × Fitting n root rs top ys × (length space < length ys) × (after ≡ space)

-- what a load of a source with these facts, root and records answers for n, and what it leaves: the first of
-- its faults, in the order told, or the normal listing
abbrev pub Loads : ℕ → ℕ → Target → List Record → Spaces → Result Stored LoadFault → Type 0
Loads n facts root rs s (Err fault.Facts) = (facts ≢ n) × Untouched s
Loads n facts root rs s (Err fault.Records) = (facts ≡ n) × (65535 < length rs) × Untouched s
Loads n facts root rs s (Err (fault.Row k)) = (facts ≡ n) × (length rs ≤ 65535) × (length s.rows < length rs) × (k ≡ length s.rows) × Untouched s
Loads n facts root rs s (Err (fault.Rule b)) = Admitted n facts rs s × Broken n root rs b.rule b.place × Cleared (length rs) s
Loads n facts root rs s (Err fault.Space) = Admitted n facts rs s × Crowded n root rs s × Cleared (length rs) s
Loads n facts root rs s (Ok d) = Admitted n facts rs s × Written n root rs s d
