use Rattle.std.proofs.Common.{◌≡◌, ◌+◌, ◌-◌, ◌*◌, drop}
use Rattle.text.specs.Layout.{lines_fault}
use Rattle.text.proofs.opening.check_lines.Given as goal

abbrev pub invariant-loop-i : goal.invariant-loop-i
invariant-loop-i l = lines_fault (l.count - l.i) (l.i + 1) (drop (31 * l.i) l.bytes) ≡ lines_fault l.count 1 l.bytes
