use mathlib.Core.Path.{subst⁻¹}
use Rattle.pairs.specs.Samples as sample
use Rattle.pairs.proofs.Sampled.{just_one}
use Rattle.pairs.proofs.samples.shows_just_one.Goals as goal

pub returns : goal.returns
returns c = subst⁻¹ sample.JustOne c.requires just_one
