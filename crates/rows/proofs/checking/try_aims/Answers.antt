use Rattle.rows.specs.Breaks.{First, Unaimed}
use Rattle.rows.specs.declared.faults.Rule.TheVariants as of_rule
use Rattle.rows.proofs.Aiming.{held_inside, held_bare, aim_answer}
use Rattle.rows.proofs.Breaking.{told_break}
use Rattle.rows.proofs.checking.try_aims.Goals as goal

pub aim_break-requires : goal.aim_break-requires
aim_break-requires c = record {
  inside = held_inside c.requires.held.0 c.args.rows.now c.requires.held.1;
  bare = held_bare c.requires.held.0 c.args.rows.now c.requires.held.1;
}

pub returns : goal.returns
returns c rs h =
    told_break of_rule.Aim c.aim_break.result _ (First (Unaimed rs)) c.unbroken.result c.unbroken.ensures
    (aim_answer rs c.args.rows.now c.aim_break.new.rows c.aim_break.result h c.aim_break.ensures.bare c.aim_break.ensures.aims)
