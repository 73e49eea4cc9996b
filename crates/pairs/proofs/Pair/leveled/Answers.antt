use Rattle.pairs.specs.Pairs.{pair_level}
use Rattle.pairs.proofs.Pair.leveled.Goals as goal

pub returns : goal.returns
unfolding pair_level
returns c = λ i. record { level = c.requires i; pair = c.args.self }
