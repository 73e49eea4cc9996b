use Rattle.std.proofs.Common.{◌≡◌, ◌<◌, ◌++◌, ◌∷◌, [], map, length, sym, subst, ap, ◌∙◌, arith}
use Rattle.std.specs.Iterator.{YieldsFirst}
use Rattle.std.specs.Iterator.Adapters.{enumerate_count}
use Rattle.std.proofs.lemmas.List.{length-map, map-append}
use Rattle.listing.specs.Listing.{Levelled}
use Rattle.source.specs.Walking.{left}
use Rattle.source.proofs.Left.{came_all, came_next, came_few}
use Rattle.rows.specs.Rows.{row_of}
use Rattle.rows.specs.Breaks.{First, TooHigh}
use Rattle.rows.proofs.Breaking.{levelled_more, too_high_first}
use Rattle.rows.proofs.Begun.{unnumbered, counted, begun_more, begun_all, entries}
use Rattle.rows.proofs.filling.fill.Goals as goal

-- the number of a record is how many came before it, and there is a row for it
place_is : (g : _) (c : goal.After-from g) → c.in-Some.place ≡ length c.loop-place.yielded
place_is g c =
    let start : enumerate_count c.into_iter-place-iterator.result ≡ 0 = cc in
    omega (arith, c.in-Some.ensures.steps.1, counted (YieldsFirst (left g.S.Source.listed)) _ c.loop-place.yielded _ c.loop-place.yielded_by, start)

few : (g : _) (c : goal.After-from g) → length c.loop-place.yielded < length c.args.rows.now
few g c =
    let came : length (map (λ p. p.1) c.loop-place.yielded) < length (g.S.Source.listed c.args.source.now) = came_few (left g.S.Source.listed) (map (λ p. p.1) c.loop-place.yielded) (cc) (unnumbered (YieldsFirst (left g.S.Source.listed)) _ c.loop-place.yielded _ c.loop-place.yielded_by) c.in-Some.r _ c.in-Some.ensures.steps.0 in
    omega (arith, came, c.requires, length-map c.loop-place.yielded (λ p. p.1))

pub returns-then-r-n-clause-breaks : goal.returns-then-r-n-clause-breaks
returns-then-r-n-clause-breaks g c =
    let rs = map (λ p. p.1) c.loop-place.yielded in
    let start : enumerate_count c.into_iter-place-iterator.result ≡ 0 = cc in
    let place : length rs ≡ c.in-Some.place = omega (arith, c.in-Some.ensures.steps.1, counted (YieldsFirst (left g.S.Source.listed)) _ c.loop-place.yielded _ c.loop-place.yielded_by, start, length-map c.loop-place.yielded (λ p. p.1)) in
    let first : First (TooHigh c.n-n.result (g.S.Source.listed c.args.source.now)) (length rs) =
    too_high_first c.n-n.result rs c.in-Some.r _ (g.S.Source.listed c.args.source.now)
    (came_next (left g.S.Source.listed) rs (cc) (unnumbered (YieldsFirst (left g.S.Source.listed)) _ c.loop-place.yielded _ c.loop-place.yielded_by) c.in-Some.r _ c.in-Some.ensures.steps.0) c.loop-place.invariant.1 c.if-r-n.true in
    subst (First (TooHigh (g.S.Source.facts c.args.source.now) (g.S.Source.listed c.args.source.now))) place
    (subst (λ n. First (TooHigh n (g.S.Source.listed c.args.source.now)) (length rs)) c.n-n.ensures first)

pub loop-place-preserved : goal.loop-place-preserved
loop-place-preserved g c = (
  rw (c.loop-place.invariant.0, place_is g c, c.from.ensures) (begun_more c.loop-place.yielded c.args.rows.now (length c.loop-place.yielded, c.in-Some.r) (few g c)),
  subst (Levelled c.n-n.result) (sym (map-append (λ p. p.1) c.loop-place.yielded ((c.in-Some.place, c.in-Some.r) ∷ [])))
      (levelled_more c.n-n.result (map (λ p. p.1) c.loop-place.yielded) c.in-Some.r c.loop-place.invariant.1 c.if-r-n.false),
)

pub returns-clause-breaks : goal.returns-clause-breaks
returns-clause-breaks g c =
    let all : map (λ p. p.1) c.loop-place.yielded ≡ g.S.Source.listed c.args.source.now =
    came_all (left g.S.Source.listed) (map (λ p. p.1) c.loop-place.yielded) (cc) (unnumbered (YieldsFirst (left g.S.Source.listed)) _ c.loop-place.yielded _ c.loop-place.yielded_by) c.in-None.ensures.steps.0.0 in
    let filled : c.loop-place.rows ≡ map row_of (g.S.Source.listed c.args.source.now) = c.loop-place.invariant.0 ∙ begun_all c.loop-place.yielded c.args.rows.now (g.S.Source.listed c.args.source.now) all c.requires in (
      subst (λ n. Levelled n (g.S.Source.listed c.args.source.now)) c.n-n.ensures (subst (Levelled c.n-n.result) all c.loop-place.invariant.1),
      rw filled (entries (g.S.Source.listed c.args.source.now)),
      rw filled (ap (map row_of) (entries (g.S.Source.listed c.args.source.now))),
    )
