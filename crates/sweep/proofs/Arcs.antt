-- The arcs of a run as the elements of a queue.
use Rattle.std.proofs.Common.{◌≡◌, List, map, Ordering}
use Rattle.std.specs.Ordering.{MatchOrdering}
use Rattle.queue.specs.declared.Element.{Element}
use Rattle.pairs.specs.declared.Pair.{Pair}
use Rattle.pairs.specs.Pairs.{Run, Ahead}
use Rattle.pairs.specs.Rows.{Arc}
use Rattle.sweep.specs.declared.faults.Request.{Request}

module _ {K : Type 0} (keyed : Pair → K) where
  -- an arc as it waits in the queue
  abbrev pub element : Arc → Element K Request
  element a = record { key = keyed a.to; carried = record { row = a.row; high = a.high } }

  abbrev pub elements : List Arc → List (Element K Request)
  elements ws = map element ws

-- keys are ordered as the pairs
abbrev pub Orders : {K : Type 0} → Run → (Pair → K) → (K → K → Ordering) → Type 0
Orders r keyed rank = (p q : Pair) → MatchOrdering (rank (keyed p) (keyed q)) (Ahead r p q) (p ≡ q) (Ahead r q p)
