use Rattle.listing.proofs.Deciding as decides
use Rattle.listing.proofs.samples.tests_facts.Goals as goal

pub returns : goal.returns
returns c = (decides.tested c.args.records.now).0 c.requires
