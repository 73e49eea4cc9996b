-- Where a side's records of a level start. Inner functions cite this; no public contract does.
use Rattle.std.specs.Prelude.{◌≡◌, ℕ, ◌^◌, ◌<◌, ◌≤◌, List, length, Some, None, Option}
use Rattle.std.specs.List.{slice_get}
use Rattle.listing.specs.declared.Target.{Target}
use Rattle.listing.specs.declared.Target.TheVariants.{Node, False, True}
use Rattle.listing.specs.declared.Record.{Record}
use Rattle.pairs.specs.declared.Fixed.{Fixed}
use Rattle.listing.specs.Listing.{Within, Listing}
use Rattle.pairs.specs.Pairs.{Side}

-- the records before place p have levels below l
abbrev pub Passed : List Record → ℕ → ℕ → Type 0
Passed rs l p = (k : ℕ) (r : Record) → k < p → slice_get rs k ≡ Some r → r.level < l

-- level l starts at place p
pub record Starts (rs : List Record) (l p : ℕ) : Type 0 where
  pub passed : Passed rs l p
  pub reached : (k : ℕ) (r : Record) → p ≤ k → slice_get rs k ≡ Some r → l ≤ r.level

-- the fixed level, if there is one, starts at place p
abbrev pub Fixes : List Record → Option Fixed → ℕ → Type 0
Fixes rs None p = Unit {0}
Fixes rs (Some f) p = Starts rs f.level p

-- a target's level, if it has one, starts at place p
abbrev pub StartsFor : List Record → Target → ℕ → Type 0
StartsFor rs (Node l k) p = Starts rs l p
StartsFor rs False p = Unit {0}
StartsFor rs True p = Unit {0}

-- the side of a root and records that a reader reads
abbrev pub side_of : Target → List Record → Option Fixed → Side
side_of root rs f = record { records = rs; root = root; fixed = f }

-- a side's listing, and a target of it
pub record Held (n : ℕ) (root : Target) (rs : List Record) (t : Target) : Type 0 where
  pub few : length rs < 2 ^ 64
  pub listing : Listing n root rs
  pub within : Within rs t

-- a side can be read at a target on level l or behind it, where that level starts at place p
pub record Ready (n : ℕ) (root : Target) (rs : List Record) (fixed : Option Fixed) (fixed_start p l : ℕ) (t : Target) : Type 0 where
  pub held : Held n root rs t
  pub fixes : Fixes rs fixed fixed_start
  pub starts : Starts rs l p

-- the records before place p, which is one of them or behind the last, have levels below l
pub record Reached (rs : List Record) (l p : ℕ) : Type 0 where
  pub passed : Passed rs l p
  pub bound : p ≤ length rs
