use Rattle.std.proofs.Common.{◌<◌, length, ap, ◌∙◌, arith}
use Rattle.source.specs.Counting.{on_level}
use Rattle.source.specs.Walking.{left}
use Rattle.source.proofs.Left.{came_all, came_few}
use Rattle.source.proofs.Levels.{on_level_few, count_here, count_none}
use Rattle.source.proofs.counting.count_levels.Goals as goal

pub overflow_add-counts : goal.overflow_add-counts
overflow_add-counts g c =
    let few : length c.loop-r.yielded < length (g.S.Source.listed c.args.source.now) = came_few (left g.S.Source.listed) c.loop-r.yielded (cc) c.loop-r.yielded_by c.in-Some.r _ c.in-Some.ensures.steps in
    omega (arith, few, c.each_record-r-items.ensures.few, c.loop-r.invariant c.in-Some.r.level c.if-level-counts.true, on_level_few c.in-Some.r.level c.loop-r.yielded)

pub loop-r-preserved-then-level-counts : goal.loop-r-preserved-then-level-counts
loop-r-preserved-then-level-counts g c = count_here c.loop-r.counts c.loop-r.yielded c.in-Some.r c.loop-r.invariant c.if-level-counts.true

pub loop-r-preserved : goal.loop-r-preserved
loop-r-preserved g c = count_none c.loop-r.counts c.loop-r.yielded c.in-Some.r c.loop-r.invariant c.if-level-counts.false

pub returns : goal.returns
returns g c k b =
    c.loop-r.invariant k b ∙ ap (on_level k) (came_all (left g.S.Source.listed) c.loop-r.yielded (cc) c.loop-r.yielded_by c.in-None.ensures.steps.0)
