-- Equations with their ends written out, which keeps large terms from being guessed. Assumes nothing.
use Rattle.std.proofs.Common.{◌≡◌, sym, ◌∙◌}

pub through : {X : Type 0} (a b c : X) → a ≡ b → b ≡ c → a ≡ c
through a b c p q = p ∙ q

-- what is equal to the same
pub both : {X : Type 0} (a b c : X) → a ≡ c → b ≡ c → a ≡ b
both a b c p q = p ∙ sym q
