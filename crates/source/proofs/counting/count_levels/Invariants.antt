use Rattle.source.proofs.Levels.{Counts}
use Rattle.source.proofs.counting.count_levels.Given as goal

abbrev pub invariant-loop-r : goal.invariant-loop-r
invariant-loop-r g l = Counts l.counts l.yielded
