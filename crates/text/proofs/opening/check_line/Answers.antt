use Rattle.std.proofs.Common.{◌≡◌, ◌+◌, ◌-◌, None, Some, sym, ap, ◌∙◌, arith}
use Rattle.text.specs.declared.faults.TextFault.TheVariants.{Column}
use Rattle.text.specs.Columns.{numeral}
use Rattle.text.specs.Layout.{line_fault, at_line}
use Rattle.text.proofs.Lines.{column_some, column_none, exits}
use Rattle.text.proofs.opening.check_line.Goals as goal

pub returns-in_err-ok_or : goal.returns-in_err-ok_or
returns-in_err-ok_or c =
    let none : None ≡ c.number_in.result = grind (arith, c.in_err-ok_or.ensures.value) in
    let told : Column c.args.line (c.loop-k.k + 1) ≡ c.in_err-ok_or.field-0.0 = grind (arith, c.in_err-ok_or.ensures.value) in
    exits c.from_residual.result _ _ c.in_err-ok_or.field-0.0 c.from_residual.ensures.1
    (ap (λ o. at_line o c.args.line None)
    (sym c.loop-k.invariant.0 ∙ column_none c.loop-k.rest.now c.loop-k.k (c.args.columns - (c.loop-k.k + 1)) (c.args.columns - c.loop-k.k) c.width_of.result (omega arith) c.width_of.ensures.width
    (none ∙ c.number_in.ensures.value ∙ ap numeral c.split_at.ensures.front))
    ∙ ap Some told)

pub loop-k-preserved : goal.loop-k-preserved
loop-k-preserved c =
    let some : Some c.in_ok-ok_or.field-0 ≡ c.number_in.result = grind (arith, c.in_ok-ok_or.ensures.value) in (
      ap (line_fault (c.args.columns - (c.loop-k.k + 1)) (c.loop-k.k + 1)) c.split_at.ensures.back
          ∙ column_some c.loop-k.rest.now c.loop-k.k (c.args.columns - (c.loop-k.k + 1)) (c.args.columns - c.loop-k.k) c.width_of.result (omega arith) c.width_of.ensures.width c.in_ok-ok_or.field-0
          (some ∙ c.number_in.ensures.value ∙ ap numeral c.split_at.ensures.front)
          ∙ c.loop-k.invariant.0,
      omega (arith, c.width_of.ensures.next, c.split_at.ensures.back_len, c.loop-k.invariant.1),
    )
