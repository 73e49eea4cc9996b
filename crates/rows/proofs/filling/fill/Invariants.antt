use Rattle.std.proofs.Common.{◌≡◌, map}
use Rattle.listing.specs.Listing.{Levelled}
use Rattle.rows.proofs.Begun.{begun}
use Rattle.rows.proofs.filling.fill.Given as goal

abbrev pub invariant-loop-place : goal.invariant-loop-place
invariant-loop-place g l = (l.rows ≡ begun l.yielded l.initial.rows) × Levelled l.n (map (λ p. p.1) l.yielded)
