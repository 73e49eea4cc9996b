use Rattle.std.proofs.Common.{sym, ◌∙◌, subst}
use Rattle.sweep.specs.Reading.{Fixes}
use Rattle.sweep.proofs.Levels.{fixed_on, fixed_off, fixed_none, starts_on}
use Rattle.sweep.proofs.reading.Operand.settled.Goals as goal

pub lead-requires : goal.lead-requires
lead-requires g c = record {
  held = c.requires.held;
  starts = starts_on _ c.in-Some.fact.level _ _ (sym c.if-is_on.ensures) (subst (λ o. Fixes (g.S.Source.listed c.args.self.now.source.now) o c.args.self.now.fixed_start) c.in-Some.is c.requires.fixes);
}

pub returns-in-Some : goal.returns-in-Some
returns-in-Some g c = c.lead.ensures ∙ fixed_on _ _ c.in-Some.fact _ c.in-Some.is c.if-is_on.ensures

pub returns-in_default : goal.returns-in_default
returns-in_default g c = fixed_off _ _ c.in-Some.fact _ c.in-Some.is c.if-is_on.ensures

pub returns-in_default-2 : goal.returns-in_default-2
returns-in_default-2 g c = fixed_none _ _ _ c.in_default.is
