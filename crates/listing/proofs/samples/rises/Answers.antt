use Rattle.listing.proofs.Deciding as decides
use Rattle.listing.proofs.samples.rises.Goals as goal

pub returns : goal.returns
returns c = (decides.sorted c.args.records.now).0 c.requires
