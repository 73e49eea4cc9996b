use Rattle.reduce.proofs.Looping.{Mapping}
use Rattle.reduce.proofs.settle.map_level.Given as goal

abbrev pub invariant-loop-k : goal.invariant-loop-k
invariant-loop-k l = Mapping l.initial.rows l.a l.b l.k l.rows
