use Rattle.std.proofs.Common.{sym, ap, ◌∙◌}
use mathlib.Core.Path.{subst⁻¹}
use Rattle.std.proofs.lemmas.Bool.{cond-true, cond-false}
use Rattle.listing.specs.Listing.{Within}
use Rattle.pairs.specs.Pairs.{move, fixing}
use Rattle.pairs.proofs.Sides.{leads_within}
use Rattle.sweep.proofs.reading.Operand.moved.Goals as goal

pub settled-requires-clause-held : goal.settled-requires-clause-held
settled-requires-clause-held g c = record {
  few = c.requires.held.few;
  listing = c.requires.held.listing;
  within = subst⁻¹ (Within (g.S.Source.listed c.args.self.now.source.now)) c.lead.ensures (leads_within _ _ _ c.requires.held.listing c.args.level c.args.target c.requires.held.within (sym c.if-is_on.ensures) c.args.high);
}

pub returns-then-is_on : goal.returns-then-is_on
unfolding move
returns-then-is_on g c =
    c.settled.ensures ∙ ap (fixing (g.S.Source.listed c.args.self.now.source.now) c.args.self.now.fixed) c.lead.ensures ∙ sym (cond-true _ _ _ (sym c.if-is_on.ensures))

pub returns-else-is_on : goal.returns-else-is_on
unfolding move
returns-else-is_on g c = sym (cond-false _ _ _ (sym c.if-is_on.ensures))
