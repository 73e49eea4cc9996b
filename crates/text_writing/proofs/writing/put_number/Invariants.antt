use Rattle.std.proofs.Common.{◌≡◌, ◌+◌, ◌++◌, drop}
use Rattle.text_writing.specs.Writing.{leading, padded}
use Rattle.text_writing.proofs.writing.put_number.Given as goal

abbrev pub invariant-loop-i : goal.invariant-loop-i
invariant-loop-i l = padded (l.last + 1) l.value ≡ leading l.i l.rest ++ drop l.i l.column
