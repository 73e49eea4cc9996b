use Rattle.std.proofs.Common.{arith}
use Rattle.rows.proofs.Marking.{unmarked_answer}
use Rattle.rows.proofs.marks.aim_break.Goals as goal

pub returns : goal.returns
returns c = record {
  bare = c.mark_targets.ensures.bare;
  aims = unmarked_answer c.args.rows.now c.mark_targets.new.rows c.first_unmarked.result c.mark_targets.ensures.marks (omega arith) c.first_unmarked.ensures;
}
