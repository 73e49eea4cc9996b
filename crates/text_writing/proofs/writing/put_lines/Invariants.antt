use Rattle.source.specs.Walking.{left}
use Rattle.text_writing.proofs.Written.{Filled}
use Rattle.text_writing.proofs.writing.put_lines.Given as goal

abbrev pub invariant-loop-place : goal.invariant-loop-place
invariant-loop-place g l = Filled (g.S.Source.facts l.source) (g.S.Source.listed l.source) l.place-iterator.count (left g.S.Source.listed l.place-iterator.iter) l.initial.out l.out
