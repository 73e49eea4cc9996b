use Rattle.pairs.specs.Pairs.{verdict}
use Rattle.pairs.proofs.Pair.judged.Goals as goal

pub returns : goal.returns
unfolding verdict
returns c = c.requires
