-- The derived comparisons of elements are those of their keys.
use Rattle.std.proofs.Common.{◌≡◌, refl}
use denote.RattleType.{RattleType}
use mir.Syntax.{Dict}
use Rattle.std.specs.declared.cmp.Ord as ord
use Rattle.std.specs.declared.cmp.Eq as eq
use Rattle.std.specs.declared.cmp.PartialEq as partial_eq
use Rattle.std.specs.declared.cmp.PartialOrd as partial_ord
use Rattle.queue.specs.declared.Element.{Element}
use Rattle.queue.specs.contracts.ElementPartialEq.TheImpl as by_eq
use Rattle.queue.specs.contracts.ElementPartialOrd.TheImpl as by_partial
use Rattle.queue.specs.contracts.ElementOrd.TheImpl as by_ord

module _ (K V : RattleType) (o : ord.Ghosts K.Denot) (e : eq.Ghosts K.Denot) (pe : partial_eq.Ghosts K.Denot) (po : partial_ord.Ghosts K.Denot) (d₁ d₂ d₃ d₄ : Dict) (a b : Element K.Denot V.Denot) where
  pub element_cmp : (by_ord.ghosts K V o d₁ e d₂ pe d₃ po d₄).cmp a b ≡ o.cmp a.key b.key
  element_cmp = refl

  pub element_partial_cmp : (by_partial.ghosts K V po d₄ pe d₃).partial_cmp a b ≡ po.partial_cmp a.key b.key
  element_partial_cmp = refl

  pub element_eq : (by_eq.ghosts K V pe d₃).eq a b ≡ pe.eq a.key b.key
  element_eq = refl
