use Rattle.std.proofs.Common.{◌≡◌, ◌+◌, ◌-◌, ◌*◌, ◌/◌, ◌%◌, length}
use Rattle.text.specs.Layout.{line_fault}
use Rattle.text.proofs.opening.check_line.Given as goal

abbrev pub invariant-loop-k : goal.invariant-loop-k
invariant-loop-k l = (line_fault (l.columns - l.k) l.k l.rest ≡ line_fault l.columns 0 l.bytes) × (10 * (l.k / 2) + 4 * (l.k % 2) + length l.rest ≡ length l.bytes)
