use Rattle.std.proofs.Common.{◌<◌, ◌∷◌, length, sym, refl, ap, ◌∙◌, subst, arith, rules}
use Rattle.std.proofs.lemmas.Bool.{not-true, not-false}
use Rattle.std.proofs.lemmas.List.{get_or_default}
use Rattle.rows.specs.Rows.{no_row}
use Rattle.sweep.specs.Requests.{point}
use Rattle.std.specs.Ordering.{is_eq}
use Rattle.std.specs.List.Sorted.{IsPermutation}
use Rattle.std.proofs.lemmas.List.Sorted.{length_permutation}
use Rattle.queue.specs.Waiting.{Taken}
use Rattle.queue.specs.Rank.{UpTo}
use Rattle.sweep.proofs.Bags.{has_in, all_among}
use Rattle.sweep.proofs.Ties.{ne_is, pointing_none, pointing_more, on_end, on_low, on_all}
use Rattle.sweep.proofs.requests.point_all.Given as given
use Rattle.sweep.proofs.requests.point_all.Goals as goal
use Rattle.sweep.proofs.requests.point_all.Goals.{After-take, After-pointing}

pub loop-e-init : goal.loop-e-init
loop-e-init g c = (refl, pointing_none g.K.Ord.cmp c.args.key c.args.target _ _)

pub returns-then-is_ne : goal.returns-then-is_ne
returns-then-is_ne g c =
    let e = c.in-Some.e in
    let rank = g.K.Ord.cmp in
    let d = c.loop-e.invariant.1.base in
    let low = on_low rank c.args.key _ _ c.requires.least d in
    let l = c.in-Some.ensures.least in
    let z =
    on_end rank c.args.key g.met.K.Ord.total _ _ e c.requires.least d l.1
    (all_among (λ y. UpTo rank c.args.key y.key) _ low e (has_in _ e l.0))
    (ap is_eq (sym c.cmp.ensures) ∙ not-true _ (sym (ne_is c.cmp.result) ∙ sym c.is_ne.ensures ∙ c.if-is_ne.true)) in
    record {
      room = c.loop-e.invariant.0;
      pointed = record { gone = d.gone; ties = d.ties; rest = d.rest; apart = z.apart; rows = c.loop-e.invariant.1.rows };
    }

-- what `take` took is what `look` showed
taken : (g : given.Over) (c : goal.After-take g) → IsPermutation (g.Q.Queue.waiting c.loop-e.queue) (c.in-Some.e ∷ g.Q.Queue.waiting c.take.new.self)
taken g c =
    subst (λ o. Taken (g.Q.Queue.waiting c.loop-e.queue) (g.Q.Queue.waiting c.take.new.self) o)
    (c.take.ensures.next ∙ sym c.in-Some.ensures.next) c.take.ensures.taken

-- the row of what `look` showed
inside : (g : given.Over) (c : goal.After-take g) → c.in-Some.e.carried.row < length c.loop-e.rows
inside g c =
    let n = length c.args.rows.now in
    let h : c.in-Some.e.carried.row < n =
    all_among (λ y. y.carried.row < n) _ (on_all g.K.Ord.cmp c.args.key (λ y. y.carried.row < n) _ _ c.requires.within c.loop-e.invariant.1.base) c.in-Some.e (has_in _ c.in-Some.e c.in-Some.ensures.least.0) in
    omega (arith, c.loop-e.auto.rows)

pub offset_bounds-rows-at : goal.offset_bounds-rows-at
offset_bounds-rows-at g c = let h = inside g c in search rules

pub slice_copy_out-pointing : goal.slice_copy_out-pointing
slice_copy_out-pointing g c = inside g c

pub offset_bounds-rows-at-in-Some : goal.offset_bounds-rows-at-in-Some
offset_bounds-rows-at-in-Some g c = let h = inside g (goal.at.offset_bounds-rows-at-in-Some g c).After-take in search rules

pub bounds-rows-at : goal.bounds-rows-at
bounds-rows-at g c = inside g (goal.at.bounds-rows-at g c).After-take

pub loop-e-smaller : goal.loop-e-smaller
loop-e-smaller g c = let n = length_permutation _ _ (taken g (goal.at.loop-e-smaller g c).After-take) in omega arith

pub loop-e-preserved : goal.loop-e-preserved
loop-e-preserved g c = (
  c.take.ensures.room ∙ c.loop-e.invariant.0,
  pointing_more g.K.Ord.cmp c.args.key c.args.target _ _ _ c.in-Some.e _ _ _ c.loop-e.invariant.1
      (ap is_eq (sym c.cmp.ensures) ∙ not-false _ (sym (ne_is c.cmp.result) ∙ sym c.is_ne.ensures ∙ c.if-is_ne.false)) (taken g (goal.at.loop-e-preserved g c).After-take)
      (c.pointing.ensures ∙ ap (point c.args.target c.in-Some.e.carried.high) (get_or_default c.loop-e.rows c.in-Some.e.carried.row _ no_row (inside g (goal.at.loop-e-preserved g c).After-take))),
)
