use Rattle.std.proofs.Common.{refl}
use Rattle.listing.proofs.Bridge.{canonical, least}
use Rattle.listing.proofs.Deciding.{decided}
use Rattle.listing.proofs.comparing.canonical.Goals as goal

pub returns : goal.returns
returns c = record {
  equal = refl;
  canonical = canonical c.args.left_root c.args.left.now c.args.right_root c.args.right.now c.args.equal c.requires;
  least = least c.args.left_root c.args.left.now;
  decided = decided c.args.left_root c.args.left.now;
}
