use Rattle.std.proofs.lemmas.Bool.{both_ways}
use Rattle.listing.specs.Tests.{same_target}
use Rattle.listing.proofs.Deciding as decides
use Rattle.listing.proofs.samples.confuses.Goals as goal

pub returns : goal.returns
returns c = record {
  listing = (decides.is_listing c.args.n c.args.root c.args.records.now).0 c.requires.listing;
  first = (decides.within c.args.records.now c.args.t).0 c.requires.first;
  second = (decides.within c.args.records.now c.args.u).0 c.requires.second;
  alike = (decides.agrees c.args.n c.args.records.now c.args.t c.args.records.now c.args.u).0 c.requires.alike;
  differ = λ e. both_ways (same_target c.args.t c.args.u) c.requires.differ ((decides.same_target c.args.t c.args.u).1 e);
}
