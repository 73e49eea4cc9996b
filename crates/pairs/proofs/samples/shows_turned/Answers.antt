use mathlib.Core.Path.{subst⁻¹}
use Rattle.pairs.specs.Samples as sample
use Rattle.pairs.proofs.Sampled.{turned}
use Rattle.pairs.proofs.samples.shows_turned.Goals as goal

pub returns : goal.returns
returns c = subst⁻¹ sample.Turned c.requires turned
