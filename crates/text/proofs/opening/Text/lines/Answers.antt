use Rattle.std.proofs.Common.{◌≡◌, ◌-◌, ◌/◌, length, take, drop, ap, ◌∙◌, arith, length-drop}
use Rattle.std.proofs.lemmas.List.{take_rest}
use Rattle.text.proofs.Lines.{length_lines}
use Rattle.text.proofs.opening.Text.lines.Goals as goal

pub returns-clause-count : goal.returns-clause-count
returns-clause-count c =
    let bs = c.args.self.now.bytes.now in
    let l : length (take (length bs - 21) (drop 21 bs)) ≡ length bs - 21 = ap length (take_rest bs 21) ∙ length-drop 21 bs in
    omega (arith, l, c.as_chunks.ensures.front_len, length_lines ((length bs - 21) / 31) c.args.self.now.n (drop 21 bs))
