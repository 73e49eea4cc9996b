use Rattle.std.proofs.Common.{◌≤◌, length}
use Rattle.reduce.proofs.Reducing.{Reducing}
use Rattle.reduce.proofs.reduce_rows.reduce.Given as goal

abbrev pub invariant-loop-b : goal.invariant-loop-b
invariant-loop-b l = (l.b ≤ length l.initial.rows) × Reducing l.initial.rows l.b l.rows

abbrev pub decreases-loop-b : goal.decreases-loop-b
decreases-loop-b l = l.b
