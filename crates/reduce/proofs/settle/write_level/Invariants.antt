use Rattle.reduce.proofs.Looping.{Writing}
use Rattle.reduce.proofs.settle.write_level.Given as goal

abbrev pub invariant-loop-k : goal.invariant-loop-k
invariant-loop-k l = Writing l.initial.rows l.a l.b l.k l.rows
