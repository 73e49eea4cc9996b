use Rattle.std.proofs.Common.{take, refl}
use Rattle.std.proofs.lemmas.List.{length-take-le}
use Rattle.normalizing.proofs.Making.{front}
use Rattle.normalizing.proofs.texts.write_front.Goals as goal

pub returns : goal.returns
returns c =
    front c.args.n c.args.loaded.root _ (take c.args.loaded.count c.args.records.now) c.args.loaded.count c.args.output.now c.write.new.buffer c.write.result
    refl (length-take-le c.args.loaded.count c.args.records.now c.requires) c.write.ensures.wrote c.write.ensures.again
