use Rattle.std.proofs.Common.{◌≡◌, length}
use Rattle.pairs.specs.Keys.{key_of}
use Rattle.sweep.specs.Reading.{Reached}
use Rattle.sweep.specs.Running.{run_of}
use Rattle.sweep.proofs.Stages.{Stage}
use Rattle.sweep.proofs.running.open_rows.Given as goal

abbrev pub invariant-loop-row : goal.invariant-loop-row
invariant-loop-row g l =
    let q = g.Q.Queue in
    (q.room l.queue ≡ q.room l.initial.queue) ×
    (l.key ≡ key_of (g.L.Source.facts l.left) l.key.pair) ×
    Reached (g.L.Source.listed l.left) l.key.level l.cursor.left ×
    Reached (g.R.Source.listed l.right) l.key.level l.cursor.right ×
    Stage (run_of (g.L.Source.facts l.left) (g.L.Source.top l.left) (g.L.Source.listed l.left) (g.R.Source.top l.right) (g.R.Source.listed l.right) l.task)
    (length l.initial.rows) (q.room l.initial.queue) l.initial.rows l.row l.key.pair l.rows (q.waiting l.queue)
