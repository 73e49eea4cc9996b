use Rattle.std.proofs.Common.{arith}
use Rattle.listing.proofs.Rules.{ordered}
use Rattle.rows.proofs.Finding.{placed_node}
use Rattle.rows.proofs.places.placed.Goals as goal

pub returns : goal.returns
returns c = placed_node _ (ordered _ c.requires.numbered) c.args.level c.args.t c.in-Node.own c.in-Node.number c.in_ok-place.place c.in-Node.is (omega arith) c.in_ok-place.ensures
