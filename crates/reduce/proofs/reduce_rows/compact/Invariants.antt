use Rattle.reduce.proofs.Compacting.{Compacting}
use Rattle.reduce.proofs.reduce_rows.compact.Given as goal

abbrev pub invariant-loop-k : goal.invariant-loop-k
invariant-loop-k l = Compacting l.initial.rows l.k l.count l.rows
