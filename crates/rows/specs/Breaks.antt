-- Where a listing breaks a rule first: each rule in turn is tried over all records, from the first.
use Rattle.std.specs.Prelude.{◌≡◌, ℕ, zero, suc, ◌<◌, ◌≤◌, Bool, List, take, Some, ◌≢◌}
use Rattle.std.specs.List.{slice_get}
use Rattle.listing.specs.declared.Target.{Target}
use Rattle.listing.specs.declared.Record.{Record}
use Rattle.listing.specs.Members.{In}
use Rattle.listing.specs.Listing.{child, Within, Above, Rooted, Levelled, Next, Numbered, Targeted, Aims}
use Rattle.rows.specs.declared.faults.Rule.{Rule}
use Rattle.rows.specs.declared.faults.Rule.TheVariants as rule

-- p is the least place of which P holds
abbrev pub First : (ℕ → Type 0) → ℕ → Type 0
First P p = P p × ((k : ℕ) → k < p → P k → ⊥)

-- the record at place p has a level that is not below n
abbrev pub TooHigh : ℕ → List Record → ℕ → Type 0
TooHigh n rs p = (r : Record) × (slice_get rs p ≡ Some r) × (n ≤ r.level)

-- the record at place p is first and has another number than 0, or is not next to its predecessor
abbrev pub Misnumbered : List Record → ℕ → Type 0
Misnumbered rs zero = (r : Record) × (slice_get rs 0 ≡ Some r) × (r.number ≢ 0)
Misnumbered rs (suc p) = (q : Record) × (r : Record) × (slice_get rs p ≡ Some q) × (slice_get rs (suc p) ≡ Some r) × (Next q r → ⊥)

-- a target of the record at place p is neither a terminal nor a node of the listing on a higher level
abbrev pub Mistargeted : List Record → ℕ → Type 0
Mistargeted rs p = (r : Record) × (slice_get rs p ≡ Some r) × (b : Bool) × (Within rs (child b r) × Above r.level (child b r) → ⊥)

-- the record at place p, which is not the first, is no target of an earlier record
abbrev pub Unaimed : List Record → ℕ → Type 0
Unaimed rs p = (r : Record) × (slice_get rs p ≡ Some r) × (0 < p) × ((q : Record) → In q (take p rs) → Aims q r → ⊥)

-- the first break of n, a root and records: the rules before it are kept by all records, and it by all records before
abbrev pub Broken : ℕ → Target → List Record → Rule → ℕ → Type 0
Broken n root rs rule.Root p = (Rooted root rs → ⊥) × (p ≡ 0)
Broken n root rs rule.Level p = Rooted root rs × First (TooHigh n rs) p
Broken n root rs rule.Number p = Rooted root rs × Levelled n rs × First (Misnumbered rs) p
Broken n root rs rule.Target p = Rooted root rs × Levelled n rs × Numbered rs × First (Mistargeted rs) p
Broken n root rs rule.Aim p = Rooted root rs × Levelled n rs × Numbered rs × Targeted rs × First (Unaimed rs) p
