use Rattle.std.proofs.Common.{◌*◌, ◌+◌, ◌-◌, ap, arith}
use Rattle.source.specs.Walking.{left}
use Rattle.text_writing.proofs.Written.{filled_more, filled_all}
use Rattle.text_writing.proofs.writing.put_lines.Goals as goal

pub loop-place-preserved : goal.loop-place-preserved
loop-place-preserved g c =
    let s = c.in-Some.ensures.steps in
    filled_more (g.S.Source.facts c.args.source.now) (g.S.Source.listed c.args.source.now) c.loop-place.place-iterator.count c.in-Some.r (left g.S.Source.listed c.loop-place.place-iterator.iter) (left g.S.Source.listed c.next.new.self.iter)
    c.args.out.now c.loop-place.out c.loop-place.invariant s.0 c.n-n.result (31 * c.in-Some.place) (31 * c.in-Some.place + 31 - 31 * c.in-Some.place) c.next.new.self.count c.put_line.new.out
    c.n-n.ensures c.put_line.ensures (ap (λ k. 31 * k) s.1) (omega arith) s.2

pub returns : goal.returns
returns g c =
    filled_all (g.S.Source.facts c.args.source.now) (g.S.Source.listed c.args.source.now) c.loop-place.place-iterator.count _ c.args.out.now c.loop-place.out c.loop-place.invariant c.in-None.ensures.steps.0.0 c.requires
