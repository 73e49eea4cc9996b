use Rattle.queue.specs.Waiting.{element}
use Rattle.queue.proofs.Bags.{joined}
use Rattle.queue.proofs.arranged.join.Goals as goal

pub returns-clause-joins : goal.returns-clause-joins
returns-clause-joins g c = joined c.args.slots.now c.insert.new.elements _ c.args.held (element c.args.key c.args.carried) c.requires.free c.insert.ensures.joins
