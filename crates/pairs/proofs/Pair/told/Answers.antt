use Rattle.pairs.specs.Pairs.{opens}
use Rattle.pairs.proofs.Pairs.{told}
use Rattle.pairs.proofs.Pair.told.Goals as goal

pub returns : goal.returns
unfolding opens
returns c = record { opens = c.requires; told = told c.args.operator c.args.self }
