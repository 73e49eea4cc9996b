use Rattle.source.proofs.Left.{first_left}
use Rattle.source.proofs.walking.first_left.Goals as goal

pub returns : goal.returns
returns g c = first_left (g.S.Source.listed c.args.source.now) c.args.place c.args.end c.record.result c.requires c.record.ensures
