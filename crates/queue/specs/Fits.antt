-- Where a queue in a slice keeps its order, no more wait than its capacity. Assumes nothing.
use Rattle.std.specs.Prelude.{ℕ, ◌≤◌, List, length, take}
use Rattle.std.proofs.Common.{arith}
use Rattle.std.proofs.lemmas.List.{length-take-le}

-- those held in a slice are no more than its slots
pub held_fits : {X : Type 0} (held : ℕ) (slots : List X) → held ≤ length slots → length (take held slots) ≤ length slots
held_fits held slots h = let n = length-take-le held slots h in omega arith
