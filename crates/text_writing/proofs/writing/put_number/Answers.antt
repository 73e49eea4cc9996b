use Rattle.std.proofs.Common.{◌≡◌, ◌+◌, ◌-◌, ◌%◌, length, sym, ap, ◌∙◌, arith, length-set}
use Rattle.text_writing.specs.Writing.{padded}
use Rattle.text_writing.proofs.Written.{last_digit, one_digit, no_digit_left}
use Rattle.text_writing.proofs.writing.put_number.Goals as goal

pub loop-i-init : goal.loop-i-init
loop-i-init c = last_digit c.args.column.now (length c.args.column.now - 1) c.args.value (omega arith)

pub loop-i-preserved : goal.loop-i-preserved
loop-i-preserved c =
    c.loop-i.invariant ∙ one_digit c.loop-i.column (c.loop-i.i - 1) c.loop-i.i c.loop-i.rest c.lead.result (omega arith)
    (omega (arith, length-set c.args.column.now (length c.args.column.now - 1) (48 + c.args.value % 10))) c.lead.ensures

pub returns : goal.returns
returns c =
    let e : length c.args.column.now - 1 + 1 ≡ length c.args.column.now = omega arith in
    sym (ap (λ k. padded k c.args.value) (sym e) ∙ c.loop-i.invariant ∙ no_digit_left c.loop-i.column c.loop-i.i c.loop-i.rest (omega arith))
