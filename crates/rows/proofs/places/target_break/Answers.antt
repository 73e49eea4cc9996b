use Rattle.std.proofs.Common.{◌<◌, map, length, ◌∙◌, arith, below_more}
use Rattle.std.proofs.lemmas.List.{length-map}
use Rattle.rows.specs.Rows.{entry_of}
use Rattle.rows.proofs.Finding.{filled_numbered, filled_broken, filled_kept, filled_next, filled_all, targeted_from}
use Rattle.rows.proofs.places.target_break.Goals as goal

pub placed_in-requires : goal.placed_in-requires
placed_in-requires c =
    let h : c.loop-place.place < length (map entry_of c.args.rows.now) = omega (arith, length-map c.args.rows.now entry_of) in
    record { numbered = filled_numbered (map entry_of c.args.rows.now) c.loop-place.rows c.loop-place.place c.loop-place.invariant.1 h c.requires.numbered; few = omega (arith, c.requires.few) }

pub returns-in_default : goal.returns-in_default
returns-in_default c =
    let h : c.loop-place.place < length (map entry_of c.args.rows.now) = omega (arith, length-map c.args.rows.now entry_of) in
    record { breaks = (filled_broken (map entry_of c.args.rows.now) c.loop-place.rows c.loop-place.place c.loop-place.invariant.1 h c.in_default.ensures, c.loop-place.invariant.0); below = omega arith }

pub loop-place-preserved : goal.loop-place-preserved
loop-place-preserved c =
    let h : c.loop-place.place < length (map entry_of c.args.rows.now) = omega (arith, length-map c.args.rows.now entry_of) in (
      below_more _ _ c.loop-place.invariant.0 (filled_kept (map entry_of c.args.rows.now) c.loop-place.rows c.loop-place.place c.loop-place.invariant.1 h c.in-Some.ensures.0),
      filled_next (map entry_of c.args.rows.now) c.loop-place.rows c.loop-place.place c.loop-place.invariant.1 h c.in-Some.row c.in-Some.ensures.1,
    )

pub returns : goal.returns
returns c = record {
  breaks = (
    targeted_from (map entry_of c.args.rows.now) c.loop-place.place (omega (arith, length-map c.args.rows.now entry_of)) c.loop-place.invariant.0,
    c.loop-place.invariant.1 ∙ filled_all (map entry_of c.args.rows.now) (map entry_of c.args.rows.now) c.loop-place.place (omega (arith, length-map c.args.rows.now entry_of)),
  );
  below = tt;
}
