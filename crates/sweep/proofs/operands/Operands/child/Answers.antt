use Rattle.std.proofs.Common.{ap, ◌∙◌}
use Rattle.pairs.specs.Pairs.{kid, move}
use Rattle.sweep.specs.Reading.{side_of}
use Rattle.sweep.proofs.operands.Operands.child.Goals as goal

pub returns : goal.returns
unfolding kid
returns g c o =
    let l = c.args.self.now.left in
    let r = c.args.self.now.right in
    let a = c.moved.ensures ∙ ap (λ m. move (side_of (g.L.Source.top l.source.now) (g.L.Source.listed l.source.now) l.fixed) m c.args.high c.args.key.pair.left) c.requires.level in
    let b = c.moved-2.ensures ∙ ap (λ m. move (side_of (g.R.Source.top r.source.now) (g.R.Source.listed r.source.now) r.fixed) m c.args.high c.args.key.pair.right) c.requires.level in
    λ i. record { left = a i; right = b i }
