use Rattle.std.proofs.Common.{◌≡◌, ◌+◌, ◌≤◌, true, false, ◌++◌, length, drop, set, is_err, Err, sym, refl, ap, ◌∙◌, ap₂, subst, subst₂, arith}
use mathlib.Core.Path.{subst⁻¹}
use Rattle.std.specs.List.Sorted.{IsPermutation}
use Rattle.std.proofs.lemmas.Result.{err_from_is_err_and, IfOk-from_err}
use Rattle.listing.specs.declared.Target.TheVariants.{Node}
use Rattle.pairs.specs.declared.Pair.{Pair}
use Rattle.pairs.specs.declared.keys.PairKey.{PairKey}
use Rattle.pairs.specs.Keys.{key_of}
use Rattle.pairs.specs.Pairs.{Run, Sides, pair_level, level, start, opens, verdict}
use Rattle.listing.specs.Listing.{terminal}
use Rattle.sweep.specs.Requests.{put_for, RefusedArc}
use Rattle.sweep.specs.declared.faults.RunFault.TheVariants as fault
use Rattle.sweep.specs.Running.{run_of, Ends, Swept}
use Rattle.listing.proofs.Rules.{root_within}
use Rattle.sweep.proofs.Levels.{reached_none, reached_up}
use Rattle.sweep.proofs.Sided.{sides_of}
use Rattle.sweep.proofs.Stages.{Stage, Mid, none_done, stage_first, stage_within, stage_no_row, stage_full, stage_put, mid_within, mid_done, mid_next}
use Rattle.sweep.proofs.running.open_rows.Given as given
use Rattle.sweep.proofs.running.open_rows.Goals as goal
use Rattle.sweep.proofs.running.open_rows.Goals.{After-key-key, In_ok-put_arcs}

pub start-requires : goal.start-requires
start-requires g c = record {
  left = record { few = c.fixed_start.ensures.few; listing = c.requires.left; within = root_within _ _ c.requires.left.rooted };
  right = record { few = c.fixed_start-2.ensures.few; listing = c.requires.right; within = root_within _ _ c.requires.right.rooted };
  fixes_left = c.fixed_start.ensures.fixes;
  fixes_right = c.fixed_start-2.ensures.fixes;
}

module _ (g : given.Over) (c : goal.After-key-key g) where
  -- the run, and what is asked of its sides
  abbrev the_run : Run
  the_run = run_of (g.L.Source.facts c.args.left.now) (g.L.Source.top c.args.left.now) (g.L.Source.listed c.args.left.now) (g.R.Source.top c.args.right.now) (g.R.Source.listed c.args.right.now) c.args.task

  sides : Sides the_run
  sides = sides_of _ _ _ _ _ _ c.args.task c.requires.left c.requires.right c.requires.facts

  -- the first key is the root pair's
  first_pair : c.key-key.result.pair ≡ start the_run
  first_pair = ap (λ (k : PairKey). k.pair) c.key-key.ensures ∙ c.start.ensures c.args.task.operator

  first_key : c.key-key.result ≡ key_of (g.L.Source.facts c.args.left.now) c.key-key.result.pair
  first_key = c.key-key.ensures ∙ ap₂ key_of c.n-n.ensures (sym (ap (λ (k : PairKey). k.pair) c.key-key.ensures))

pub returns-then-not-is_open : goal.returns-then-not-is_open
returns-then-not-is_open g c =
    let d = (goal.at.returns-then-not-is_open g c).After-key-key in
    let op = c.args.task.operator in
    record {
      room = refl;
      swept = none_done (the_run g d) (sides g d) (length c.args.rows.now) (g.Q.Queue.room c.args.queue.now) c.args.rows.now refl c.from.result
          (c.from.ensures ∙ ap terminal (c.verdict.ensures ∙ ap (verdict op) (first_pair g d)))
          (ap (opens op) (sym (first_pair g d)) ∙ sym c.is_open.ensures.opens ∙ c.if-not-is_open.true);
      empty = c.requires.empty;
    }

pub loop-row-init : goal.loop-row-init
loop-row-init g c =
    let d = (goal.at.loop-row-init g c).After-key-key in
    let op = c.args.task.operator in (
      refl,
      first_key g d,
      reached_none _ _,
      reached_none _ _,
      subst⁻¹ (λ (p : Pair). Stage (the_run g d) (length c.args.rows.now) (g.Q.Queue.room c.args.queue.now) c.args.rows.now 0 p c.args.rows.now (g.Q.Queue.waiting c.args.queue.now)) (first_pair g d)
          (stage_first (the_run g d) (sides g d) (length c.args.rows.now) (g.Q.Queue.room c.args.queue.now) c.args.rows.now refl
          (ap (opens op) (sym (first_pair g d)) ∙ sym c.is_open.ensures.opens ∙ c.if-not-is_open.false) (g.Q.Queue.waiting c.args.queue.now) c.requires.empty),
    )

pub children-children-requires : goal.children-children-requires
children-children-requires g c =
    let d = (goal.at.children-children-requires g c).After-key-key in
    let v = c.loop-row.invariant in
    let w = stage_within (the_run g d) (sides g d) _ _ _ refl c.loop-row.row c.loop-row.key.pair c.loop-row.rows _ v.4 in
    record {
      left = record { held = record { few = c.fixed_start.ensures.few; listing = c.requires.left; within = w.0 }; fixes = c.fixed_start.ensures.fixes; starts = c.advance-cursor.ensures.left };
      right = record { held = record { few = c.fixed_start-2.ensures.few; listing = c.requires.right; within = w.1 }; fixes = c.fixed_start-2.ensures.fixes; starts = c.advance-cursor.ensures.right };
      level = ap (λ (k : PairKey). k.level) v.1;
    }

pub returns-in_err-put_arcs : goal.returns-in_err-put_arcs
returns-in_err-put_arcs g c =
    let d = (goal.at.returns-in_err-put_arcs g c).After-key-key in
    let v = c.loop-row.invariant in
    let a = c.in_err-put_arcs.ensures in
    let low = c.children-children.result.low in
    let high = c.children-children.result.high in
    let room = g.Q.Queue.room c.args.queue.now in
    let space = length c.args.rows.now in
    let ws = g.Q.Queue.waiting c.loop-row.queue in
    let rows = set c.loop-row.rows c.loop-row.row c.drafted.result in
    let kids = c.children-children.ensures in
    let p = err_from_is_err_and c.from_residual.result c.from_residual.ensures.1 in
    let refused = subst₂ (λ m k. RefusedArc m k c.loop-row.row low high ws c.in_err-put_arcs.field-0.0) v.0 c.n-n.ensures a.put in
    let ends = stage_full (the_run g d) (sides g d) space room c.args.rows.now refl c.loop-row.row c.loop-row.key.pair c.loop-row.rows ws v.4 (omega (arith, v.4.size)) low high kids c.drafted.result c.in_err-put_arcs.field-0.0 refused in
    record {
      room = a.room ∙ v.0;
      swept = subst⁻¹ (λ res. Swept (the_run g d) space room c.args.rows.now rows res) p.1 (subst⁻¹ (λ f. Swept (the_run g d) space room c.args.rows.now rows (Err f)) p.2 ends);
      empty = IfOk-from_err c.from_residual.result _ (ap is_err p.1);
    }

module _ (g : given.Over) (c : goal.In_ok-put_arcs g) where
  abbrev run_here : Run
  run_here = run_of (g.L.Source.facts c.args.left.now) (g.L.Source.top c.args.left.now) (g.L.Source.listed c.args.left.now) (g.R.Source.top c.args.right.now) (g.R.Source.listed c.args.right.now) c.args.task

  sides_here : Sides run_here
  sides_here = sides_of _ _ _ _ _ _ c.args.task c.requires.left c.requires.right c.requires.facts

  -- the row is opened, and its arcs are put
  mid : Mid run_here (length c.args.rows.now) (g.Q.Queue.room c.args.queue.now) c.args.rows.now (c.loop-row.row + 1) (level run_here c.loop-row.key.pair) (set c.loop-row.rows c.loop-row.row c.drafted.result) (g.Q.Queue.waiting c.put_arcs.new.queue)
  mid =
      let v = c.loop-row.invariant in
      let low = c.children-children.result.low in
      let high = c.children-children.result.high in
      let ws = g.Q.Queue.waiting c.loop-row.queue in
      let vs = g.Q.Queue.waiting c.put_arcs.new.queue in
      let kids = c.children-children.ensures in
      let put = subst₂ (λ m k. (length vs ≤ m) × IsPermutation (put_for k c.loop-row.row true high ++ (put_for k c.loop-row.row false low ++ ws)) vs) v.0 c.n-n.ensures c.in_ok-put_arcs.ensures.put in
      stage_put run_here sides_here (length c.args.rows.now) (g.Q.Queue.room c.args.queue.now) c.args.rows.now refl c.loop-row.row c.loop-row.key.pair c.loop-row.rows ws v.4 (omega (arith, v.4.size)) low high kids
      c.drafted.result (c.drafted.ensures.level ∙ ap (λ (k : PairKey). k.level) v.1) c.drafted.ensures.low c.drafted.ensures.high vs put.0 put.1

pub next_pair-requires : goal.next_pair-requires
next_pair-requires g c =
    let d = (goal.at.next_pair-requires g c).In_ok-put_arcs in
    record {
      within = mid_within (run_here g d) (sides_here g d) (length c.args.rows.now) (g.Q.Queue.room c.args.queue.now) c.args.rows.now refl (c.loop-row.row + 1) (level (run_here g d) c.loop-row.key.pair)
          (set c.loop-row.rows c.loop-row.row c.drafted.result) (g.Q.Queue.waiting c.put_arcs.new.queue) (mid g d);
    }

pub returns-in-None : goal.returns-in-None
returns-in-None g c =
    let d = (goal.at.returns-in-None g c).In_ok-put_arcs in
    let e = (goal.at.returns-in-None g c).After-key-key in
    let a = c.in-None.ensures in
    let op = c.args.task.operator in
    record {
      room = a.room ∙ c.in_ok-put_arcs.ensures.room ∙ c.loop-row.invariant.0;
      swept = mid_done (run_here g d) (sides_here g d) (length c.args.rows.now) (g.Q.Queue.room c.args.queue.now) c.args.rows.now refl (c.loop-row.row + 1) (level (run_here g d) c.loop-row.key.pair)
          (set c.loop-row.rows c.loop-row.row c.drafted.result) (g.Q.Queue.waiting c.put_arcs.new.queue) (mid g d)
          (g.Q.Queue.waiting c.next_pair.new.queue) c.next_pair.new.rows (Node c.key-key.result.level 0)
          (ap (opens op) (sym (first_pair g e)) ∙ sym c.is_open.ensures.opens ∙ c.if-not-is_open.false)
          (ap (λ l. Node l 0) (ap (λ (k : PairKey). k.level) (first_key g e) ∙ ap (pair_level (g.L.Source.facts c.args.left.now)) (first_pair g e)))
          a.next;
      empty = a.next.1;
    }

pub loop-row-preserved : goal.loop-row-preserved
loop-row-preserved g c =
    let d = (goal.at.loop-row-preserved g c).In_ok-put_arcs in
    let v = c.loop-row.invariant in
    let a = c.in-Some.ensures in
    let n = mid_next (run_here g d) (sides_here g d) (length c.args.rows.now) (g.Q.Queue.room c.args.queue.now) c.args.rows.now refl (c.loop-row.row + 1) (level (run_here g d) c.loop-row.key.pair)
    (set c.loop-row.rows c.loop-row.row c.drafted.result) (g.Q.Queue.waiting c.put_arcs.new.queue) (mid g d)
    (g.Q.Queue.waiting c.next_pair.new.queue) c.next_pair.new.rows c.in-Some.pair a.next in
    let key = c.key-key-in-Some.ensures in
    let same : c.key-key-in-Some.result.pair ≡ c.in-Some.pair = ap (λ (k : PairKey). k.pair) key in
    let lev : c.key-key-in-Some.result.level ≡ pair_level (g.L.Source.facts c.args.left.now) c.in-Some.pair = ap (λ (k : PairKey). k.level) key ∙ ap (λ m. pair_level m c.in-Some.pair) c.n-n.ensures in
    let up : c.loop-row.key.level ≤ c.key-key-in-Some.result.level = omega (arith, lev, n.1, ap (λ (k : PairKey). k.level) v.1) in (
      a.room ∙ c.in_ok-put_arcs.ensures.room ∙ v.0,
      key ∙ ap₂ key_of c.n-n.ensures (sym same),
      reached_up _ _ _ _ up c.advance-cursor.ensures.reached_left,
      reached_up _ _ _ _ up c.advance-cursor.ensures.reached_right,
      subst⁻¹ (λ (p : Pair). Stage (run_here g d) (length c.args.rows.now) (g.Q.Queue.room c.args.queue.now) c.args.rows.now (c.loop-row.row + 1) p c.next_pair.new.rows (g.Q.Queue.waiting c.next_pair.new.queue)) same n.0,
    )

pub returns : goal.returns
returns g c =
    let d = (goal.at.returns g c).After-key-key in
    let v = c.loop-row.invariant in
    let end : c.loop-row.row ≡ length c.loop-row.rows = omega (arith, v.4.size) in
    record {
      room = v.0;
      swept = subst (λ k. Ends (the_run g d) (length c.args.rows.now) (g.Q.Queue.room c.args.queue.now) (fault.Row k) × (k ≤ length c.args.rows.now) × (drop k c.loop-row.rows ≡ drop k c.args.rows.now)) end
          (stage_no_row (the_run g d) (sides g d) _ _ _ refl c.loop-row.row c.loop-row.key.pair c.loop-row.rows _ v.4 (omega (arith, v.4.size)));
      empty = tt;
    }
