use Rattle.std.proofs.Common.{◌≡◌, ◌∙◌, None, arith}
use Rattle.text.specs.Layout.{text_fault}
use Rattle.text.proofs.Lines.{head_some, behind_is, exits}
use Rattle.text.proofs.opening.checked.Goals as goal

pub returns-in_err-check_header : goal.returns-in_err-check_header
returns-in_err-check_header c =
    let p = c.in-Some.ensures.cases in
    exits c.from_residual.result _ _ c.in_err-check_header.field-0.0 c.from_residual.ensures.1
    (head_some c.args.bytes.now c.in-Some.header.now c.in-Some.lines.now p.0 p.1 (omega (arith, p.2)) c.in_err-check_header.field-0.0 c.in_err-check_header.ensures)

pub returns-in_err-check_lines : goal.returns-in_err-check_lines
returns-in_err-check_lines c =
    let p = c.in-Some.ensures.cases in
    exits c.from_residual-in_err-check_lines.result _ _ c.in_err-check_lines.field-0.0 c.from_residual-in_err-check_lines.ensures.1
    (behind_is c.args.bytes.now c.in-Some.header.now c.in-Some.lines.now p.0 p.1 (omega (arith, p.2)) c.value_in.result c.value_in.ensures.value c.in_ok-check_header.ensures ∙ c.in_err-check_lines.ensures)

pub returns : goal.returns
returns c =
    let p = c.in-Some.ensures.cases in
    let e : text_fault c.args.bytes.now ≡ None =
    behind_is c.args.bytes.now c.in-Some.header.now c.in-Some.lines.now p.0 p.1 (omega (arith, p.2)) c.value_in.result c.value_in.ensures.value c.in_ok-check_header.ensures ∙ c.in_ok-check_lines.ensures in
    (e, p.0)
