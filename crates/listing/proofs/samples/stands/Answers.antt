use Rattle.listing.proofs.Deciding as decides
use Rattle.listing.proofs.samples.stands.Goals as goal

pub returns : goal.returns
returns c = record {
  listing = (decides.is_listing c.args.n c.args.root c.args.records.now).0 c.requires.listing;
  normal = (decides.is_normal c.args.records.now).0 c.requires.normal;
}
