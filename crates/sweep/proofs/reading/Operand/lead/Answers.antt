use Rattle.std.proofs.Common.{◌≡◌, ◌∙◌, arith}
use mathlib.Core.Path.{subst⁻¹}
use Rattle.listing.specs.declared.Target.{Target}
use Rattle.pairs.specs.Pairs.{leads}
use Rattle.sweep.proofs.Levels.{at_bound, at_some, at_none, lead_false, lead_true}
use Rattle.sweep.proofs.reading.Operand.lead.Goals as goal

pub overflow_add-start : goal.overflow_add-start
overflow_add-start g c =
    let h = at_bound _ _ _ c.requires.held.listing c.args.target c.in-Node.level c.in-Node.number c.in-Node.is c.requires.held.within c.args.start c.requires.starts in
    omega (arith, c.requires.held.few)

pub returns-in-Some : goal.returns-in-Some
returns-in-Some g c =
    c.child.ensures ∙
    at_some _ _ _ c.requires.held.listing c.args.target c.in-Node.level c.in-Node.number c.in-Node.is c.requires.held.within c.args.start c.requires.starts c.args.high c.in-Some.r c.in-Some.ensures

pub returns-in-None : goal.returns-in-None
returns-in-None g c =
    absurd (at_none _ _ _ c.requires.held.listing c.args.target c.in-Node.level c.in-Node.number c.in-Node.is c.requires.held.within c.args.start c.requires.starts c.in-None.ensures)

pub returns-in-False : goal.returns-in-False
returns-in-False g c = subst⁻¹ (λ (t : Target). t ≡ leads (g.S.Source.listed c.args.self.now.source.now) c.args.high t) c.in-False.is (lead_false _ _)

pub returns-in-True : goal.returns-in-True
returns-in-True g c = subst⁻¹ (λ (t : Target). t ≡ leads (g.S.Source.listed c.args.self.now.source.now) c.args.high t) c.in-True.is (lead_true _ _)
