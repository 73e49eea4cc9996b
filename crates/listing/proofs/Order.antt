-- The order of records by low and high is strict.
use Rattle.std.proofs.Common.{◌≡◌, sym, ◌∙◌, subst, inl, inr}
use mathlib.Core.Path.{subst⁻¹}
use Rattle.listing.specs.declared.Record.{Record}
use Rattle.listing.specs.Listing.{Before, Rises}
use Rattle.listing.specs.Ranks.{before_irr, before_trans}

pub rises_irr : (r q : Record) → r.low ≡ q.low → r.high ≡ q.high → Rises r q → ⊥
rises_irr r q e f (inl h) = before_irr q.low (rw e at h)
rises_irr r q e f (inr h) = before_irr q.high (rw f at h.1)

pub rises_trans : (p q r : Record) → Rises p q → Rises q r → Rises p r
rises_trans p q r (inl h) (inl g) = inl (before_trans p.low q.low r.low h g)
rises_trans p q r (inl h) (inr g) = inl (subst (λ t. Before p.low t) g.0 h)
rises_trans p q r (inr h) (inl g) = inl (subst⁻¹ (λ t. Before t r.low) h.0 g)
rises_trans p q r (inr h) (inr g) = inr (h.0 ∙ g.0, before_trans p.high q.high r.high h.1 g.1)

-- a rise is of the two targets alone
pub rises_move : (p q p' q' : Record) → p.low ≡ p'.low → p.high ≡ p'.high → q.low ≡ q'.low → q.high ≡ q'.high → Rises p q → Rises p' q'
rises_move p q p' q' a b c d (inl h) = inl (rw (a, c) at h)
rises_move p q p' q' a b c d (inr h) = inr (sym a ∙ h.0 ∙ c, rw (b, d) at h.1)
