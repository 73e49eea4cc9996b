use Rattle.std.proofs.Common.{map, sym, ◌∙◌, arith}
use Rattle.std.proofs.lemmas.List.{at_drop_all}
use Rattle.std.proofs.lemmas.Bool.{cond-true, cond-false}
use Rattle.listing.specs.Settings.{bit, fact}
use Rattle.listing.specs.Listing.{value}
use Rattle.listing.proofs.Walk.{step_walk}
use Rattle.listing.proofs.Laws.{only_value}
use Rattle.listing.proofs.walking.walk_from.Goals as goal
use Rattle.listing.proofs.walking.walk_from.Goals.{then-names, else-names}

pub loop-r-preserved : goal.loop-r-preserved
loop-r-preserved c =
    step_walk c.args.records.now (fact (map bit c.args.setting.now)) c.loop-r.target _ c.loop-r.r-index _ (omega arith)
    (elim c.if-names.branch [
      | then-names w ↦ w.target-is ∙ (rw w.fact_of.ensures at w.child-target.ensures) ∙ sym (cond-true _ _ _ (sym c.names.ensures ∙ w.if-names.true))
      | else-names w ↦ w.target-is ∙ sym (cond-false _ _ _ (sym c.names.ensures ∙ w.if-names.false))
    ])
    ∙ c.loop-r.invariant

pub returns : goal.returns
returns c = record {
  value = c.is_true.ensures ∙ sym (at_drop_all (λ rs. value rs (map bit c.args.setting.now) c.loop-r.target) c.args.records.now c.loop-r.r-index (omega arith)) ∙ c.loop-r.invariant;
  only = only_value c.args.start c.args.records.now (map bit c.args.setting.now);
}
