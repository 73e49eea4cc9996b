use Rattle.std.proofs.Common.{get_or, set, sym, ◌∙◌, ap₂, arith}
use Rattle.std.proofs.lemmas.Option.{slice_get-get_or}
use Rattle.source.proofs.Places.{front_more}
use Rattle.rows.specs.Rows.{no_row, entry_of}
use Rattle.reduce.proofs.loading.copy_out.Goals as goal

pub loop-place-preserved : goal.loop-place-preserved
loop-place-preserved c =
    ap₂ (λ xs v. set xs c.loop-place.place v) c.loop-place.invariant c.from.ensures ∙
    front_more entry_of c.args.rows.now c.args.records.now c.loop-place.place (get_or c.args.rows.now c.loop-place.place no_row) (sym (slice_get-get_or c.args.rows.now c.loop-place.place no_row (omega arith))) (omega arith)
