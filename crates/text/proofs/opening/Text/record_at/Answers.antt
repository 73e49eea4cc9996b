use Rattle.std.proofs.Common.{◌∙◌, sym, ap, Some, None, map}
use Rattle.std.specs.List.{slice_get}
use Rattle.text.specs.Layout.{record_of}
use Rattle.text.proofs.Lines.{lines_chunks}
use Rattle.source.proofs.Places.{get_nth, nth_map_at}
use Rattle.text.proofs.opening.Text.record_at.Goals as goal

pub returns-in_err-line : goal.returns-in_err-line
returns-in_err-line c =
    rw c.from_residual.ensures
    (nth_map_at (record_of c.args.self.now.n) c.lines.result.now c.args.place None (get_nth c.lines.result.now c.args.place None c.in_err-line.ensures.lookup) ∙ ap (λ ls. slice_get (map (record_of c.args.self.now.n) ls) c.args.place) c.lines.ensures.chunks ∙
    ap (λ rs. slice_get rs c.args.place) (sym (lines_chunks _ c.args.self.now.n _)))

pub returns : goal.returns
returns c =
    ap Some c.record_of.ensures ∙
    nth_map_at (record_of c.args.self.now.n) c.lines.result.now c.args.place (Some c.in_ok-line.line.now) (get_nth c.lines.result.now c.args.place (Some c.in_ok-line.line) c.in_ok-line.ensures.lookup) ∙
    ap (λ ls. slice_get (map (record_of c.args.self.now.n) ls) c.args.place) c.lines.ensures.chunks ∙
    ap (λ rs. slice_get rs c.args.place) (sym (lines_chunks _ c.args.self.now.n _))
