-- The two sides of a run.
use Rattle.std.proofs.Common.{◌≡◌, ℕ, List, subst}
use Rattle.listing.specs.declared.Target.{Target}
use Rattle.listing.specs.declared.Record.{Record}
use Rattle.listing.specs.Listing.{Listing}
use Rattle.pairs.specs.Pairs.{Sides}
use Rattle.sweep.specs.declared.running.Task.{Task}
use Rattle.sweep.specs.Running.{run_of}

-- both sides are listings over the left one's facts
pub sides_of : (n m : ℕ) (root : Target) (rs : List Record) (root' : Target) (rs' : List Record) (task : Task) → Listing n root rs → Listing m root' rs' → m ≡ n → Sides (run_of n root rs root' rs' task)
sides_of n m root rs root' rs' task a b e = record { left = a; right = subst (λ k. Listing k root' rs') e b }
