-- When records ys, with an image for each target, are what records xs reduce to.
use Rattle.std.specs.Prelude.{◌≡◌, ℕ, ◌+◌, ◌≤◌, ◌⊎◌, List, [], ◌∷◌, ◌≢◌}
use Rattle.listing.specs.declared.Target.{Target}
use Rattle.listing.specs.declared.Target.TheVariants.{False, True}
use Rattle.listing.specs.declared.Record.{Record}
use Rattle.listing.specs.Members.{In}
use Rattle.listing.specs.Listing.{node, Rooted, Aimed, Numbered, Sorted, Levelled, Targeted}

-- c has r's level, and the images of r's targets
pub record Copies (im : Target → Target) (r c : Record) : Type 0 where
  pub level : c.level ≡ r.level
  pub low : c.low ≡ im r.low
  pub high : c.high ≡ im r.high

-- r is replaced by the one image of its targets, or by a record with their images
abbrev pub Replaced : (Target → Target) → List Record → Record → Type 0
Replaced im ys r =
    ((im r.low ≡ im r.high) × (im (node r) ≡ im r.low)) ⊎
    ((c : Record) × In c ys × (im (node r) ≡ node c) × Copies im r c)

-- c replaces a record, and its targets differ
abbrev pub Replaces : (Target → Target) → List Record → Record → Type 0
Replaces im xs c = (r : Record) × In r xs × (im (node r) ≡ node c) × Copies im r c × (c.low ≢ c.high)

pub record Reduces (xs ys : List Record) (im : Target → Target) : Type 0 where
  pub at_false : im False ≡ False
  pub at_true : im True ≡ True
  pub numbered : Numbered ys
  pub sorted : Sorted ys
  pub all_replaced : (r : Record) → In r xs → Replaced im ys r
  pub all_replace : (c : Record) → In c ys → Replaces im xs c

-- the records' numbers are their places, the first having place k
abbrev pub Placed : ℕ → List Record → Type 0
Placed k [] = Unit {0}
Placed k (r ∷ rs) = (r.number ≡ k) × Placed (k + 1) rs

abbrev pub Onward : Record → List Record → Type 0
Onward p [] = Unit {0}
Onward p (r ∷ rs) = (p.level ≤ r.level) × Onward r rs

-- levels never fall
abbrev pub Monotone : List Record → Type 0
Monotone [] = Unit {0}
Monotone (r ∷ rs) = Onward r rs

-- R1 to R5, but with the place in the list for the number
pub record Rowing (n : ℕ) (root : Target) (rs : List Record) : Type 0 where
  pub rooted : Rooted root rs
  pub levelled : Levelled n rs
  pub placed : Placed 0 rs
  pub monotone : Monotone rs
  pub targeted : Targeted rs
  pub aimed : Aimed rs
