use Rattle.std.proofs.Common.{◌+◌, ◌-◌, ◌/◌, length, sym, ◌∙◌, arith}
use Rattle.std.proofs.lemmas.Bool.{cond-true, eq-eqb}
use Rattle.text.proofs.Lines.{lines_some, lines_none, exits}
use Rattle.text.proofs.opening.check_lines.Goals as goal

pub returns-in_err-check_line : goal.returns-in_err-check_line
returns-in_err-check_line c =
    exits c.from_residual.result _ _ c.in_err-check_line.field-0.0 c.from_residual.ensures.1
    (cond-true _ _ _ (eq-eqb _ _ c.if-bytes-count.false) ∙ sym c.loop-i.invariant ∙
    lines_some c.args.bytes.now (length c.args.bytes.now / 31) c.loop-i.i (c.args.count - (c.loop-i.i + 1)) (c.args.count - c.loop-i.i) (omega (arith, c.as_chunks.ensures.front_len, c.loop-i-test.true))
    (omega (arith, c.as_chunks.ensures.front_len, c.loop-i-test.true, c.if-bytes-count.false)) c.in_err-check_line.field-0.0 (rw c.as_chunks.ensures.front at c.in_err-check_line.ensures))

pub loop-i-preserved : goal.loop-i-preserved
loop-i-preserved c =
    lines_none c.args.bytes.now (length c.args.bytes.now / 31) c.loop-i.i (c.args.count - (c.loop-i.i + 1)) (c.args.count - c.loop-i.i) (omega (arith, c.as_chunks.ensures.front_len, c.loop-i-test.true))
    (omega (arith, c.as_chunks.ensures.front_len, c.loop-i-test.true, c.if-bytes-count.false)) (rw c.as_chunks.ensures.front at c.in_ok-check_line.ensures)
    ∙ c.loop-i.invariant
