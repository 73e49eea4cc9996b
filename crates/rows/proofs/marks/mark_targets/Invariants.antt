use Rattle.std.proofs.Common.{◌≡◌, map}
use Rattle.rows.specs.Marks.{bare, Marks}
use Rattle.rows.proofs.marks.mark_targets.Given as goal

abbrev pub invariant-loop-place : goal.invariant-loop-place
invariant-loop-place l = (map bare l.rows ≡ l.initial.rows) × Marks l.initial.rows l.place l.rows
