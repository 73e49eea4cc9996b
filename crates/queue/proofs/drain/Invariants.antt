use Rattle.std.proofs.Common.{◌≡◌, length}
use Rattle.queue.proofs.drain.Given as goal

abbrev pub invariant-loop : goal.invariant-loop
invariant-loop g l = g.Q.Queue.room l.queue ≡ g.Q.Queue.room l.initial.queue

abbrev pub decreases-loop : goal.decreases-loop
decreases-loop g l = length (g.Q.Queue.waiting l.queue)
