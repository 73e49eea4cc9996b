use Rattle.std.proofs.Common.{refl}
use Rattle.listing.proofs.Bridge.{told_apart}
use Rattle.listing.proofs.told_apart.Goals as goal

pub returns : goal.returns
returns c = record { same = refl; apart = told_apart c.args.t c.args.u c.args.same c.requires }
