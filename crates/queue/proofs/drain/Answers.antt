use Rattle.std.proofs.Common.{arith}
use Rattle.std.proofs.lemmas.List.Sorted.{length_permutation}
use Rattle.queue.proofs.drain.Goals as goal

pub loop-smaller : goal.loop-smaller
loop-smaller g c = let n = length_permutation _ _ c.in-Some.ensures.taken in omega arith
