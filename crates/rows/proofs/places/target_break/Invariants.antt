use Rattle.std.proofs.Common.{◌≡◌, ℕ, ◌<◌, map}
use Rattle.rows.specs.Rows.{entry_of}
use Rattle.rows.specs.Breaks.{Mistargeted}
use Rattle.rows.proofs.Finding.{filled}
use Rattle.rows.proofs.places.target_break.Given as goal

abbrev pub invariant-loop-place : goal.invariant-loop-place
invariant-loop-place l =
    ((k : ℕ) → k < l.place → Mistargeted (map entry_of l.initial.rows) k → ⊥) ×
    (l.rows ≡ filled (map entry_of l.initial.rows) (map entry_of l.initial.rows) l.place)
