use Rattle.std.proofs.Common.{refl}
use Rattle.listing.proofs.Counting.{counted, power_counts}
use Rattle.listing.proofs.settings.counted.Goals as goal

pub returns : goal.returns
returns c = record { power = refl; count = power_counts c.args.n c.args.power c.requires; counted = counted c.args.n }
