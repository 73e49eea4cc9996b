use Rattle.std.proofs.Common.{ap, ◌∙◌}
use Rattle.pairs.specs.Pairs.{start, fixing}
use Rattle.sweep.proofs.operands.Operands.start.Goals as goal

pub returns : goal.returns
unfolding start
returns g c o =
    let a = c.settled.ensures ∙ ap (fixing (g.L.Source.listed c.args.self.now.left.source.now) c.args.self.now.left.fixed) c.root.ensures in
    let b = c.settled-2.ensures ∙ ap (fixing (g.R.Source.listed c.args.self.now.right.source.now) c.args.self.now.right.fixed) c.root-2.ensures in
    λ i. record { left = a i; right = b i }
