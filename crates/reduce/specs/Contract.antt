-- What a reduction comes to.
use Rattle.std.specs.Prelude.{ℕ, List}
use Rattle.listing.specs.declared.Target.{Target}
use Rattle.listing.specs.declared.Record.{Record}
use Rattle.listing.specs.Listing.{Listing, Normal, Agree}

-- (root', ys) is the normal listing by the rules whose value at every setting is that of (root, xs)
pub record Normalizes (n : ℕ) (root : Target) (xs : List Record) (root' : Target) (ys : List Record) : Type 0 where
  pub listing : Listing n root' ys
  pub normal : Normal ys
  pub same : Agree n ys root' xs root
