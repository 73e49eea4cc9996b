use mathlib.Core.Path.{subst⁻¹}
use Rattle.pairs.specs.Samples as sample
use Rattle.pairs.proofs.Sampled.{both_facts}
use Rattle.pairs.proofs.samples.shows_both_facts.Goals as goal

pub returns : goal.returns
returns c = subst⁻¹ sample.BothFacts c.requires both_facts
