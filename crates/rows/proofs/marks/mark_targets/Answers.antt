use Rattle.std.proofs.Common.{true, false, arith}
use Rattle.rows.proofs.Marking.{inside_kept, marks_next}
use Rattle.rows.proofs.marks.mark_targets.Goals as goal

pub mark-requires : goal.mark-requires
mark-requires c = inside_kept _ c.args.rows.now c.loop-place.rows c.loop-place.invariant.0 c.requires.inside c.loop-place.auto.rows c.loop-place.place (omega arith) false

pub mark-requires-in-loop-place : goal.mark-requires-in-loop-place
mark-requires-in-loop-place c = inside_kept _ c.args.rows.now c.loop-place.rows c.loop-place.invariant.0 c.requires.inside (omega arith) c.loop-place.place (omega arith) true

pub loop-place-preserved : goal.loop-place-preserved
loop-place-preserved c =
    marks_next c.args.rows.now c.loop-place.rows c.mark.new.rows c.mark-in-loop-place.new.rows c.loop-place.place c.loop-place.invariant.0 c.loop-place.invariant.1 c.mark.ensures c.mark-in-loop-place.ensures
