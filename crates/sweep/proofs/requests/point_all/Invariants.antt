use Rattle.std.proofs.Common.{◌≡◌, length}
use Rattle.sweep.proofs.Ties.{PointingOn}
use Rattle.sweep.proofs.requests.point_all.Given as goal

abbrev pub invariant-loop-e : goal.invariant-loop-e
invariant-loop-e g l =
    let q = g.Q.Queue in
    (q.room l.queue ≡ q.room l.initial.queue) ×
    PointingOn g.K.Ord.cmp l.key l.target (q.waiting l.initial.queue) (q.waiting l.queue) l.initial.rows l.rows

abbrev pub decreases-loop-e : goal.decreases-loop-e
decreases-loop-e g l = length (g.Q.Queue.waiting l.queue)
