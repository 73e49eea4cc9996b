-- What the sample listings show: a normal listing there is, and neither half of the normal form can be left out.
use Rattle.std.specs.Prelude.{◌≡◌, ℕ, List}
use Rattle.listing.specs.declared.Target.{Target}
use Rattle.listing.specs.declared.Record.{Record}
use Rattle.listing.specs.Listing.{Within, Listing, Normal, Agree}

-- a normal listing over n facts
pub record Stands (n : ℕ) (root : Target) (rs : List Record) : Type 0 where
  pub listing : Listing n root rs
  pub normal : Normal rs

-- two different targets of a listing by the rules that have one value at all settings
pub record Confused (n : ℕ) (root : Target) (rs : List Record) (t u : Target) : Type 0 where
  pub listing : Listing n root rs
  pub first : Within rs t
  pub second : Within rs u
  pub alike : Agree n rs t rs u
  pub differ : t ≡ u → ⊥
