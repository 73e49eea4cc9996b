use Rattle.std.proofs.Common.{Some, Ordering, refl, subst}
use Rattle.queue.specs.Waiting.{Least}
use Rattle.listing.specs.declared.Target.TheVariants.{Node}
use Rattle.pairs.specs.declared.keys.PairKey.{PairKey}
use Rattle.pairs.proofs.KeyOrder.{key_cmp}
use Rattle.sweep.specs.Requests.{Pointed}
use Rattle.sweep.proofs.requests.next_pair.Goals as goal

pub returns : goal.returns
returns g c =
    let e = c.in_ok-e.e in
    let xs = g.Q.Queue.waiting c.args.queue.now in
    let ys = g.Q.Queue.waiting c.point_all.new.queue in
    let now = subst (λ (rank : PairKey → PairKey → Ordering). Least rank xs (Some e) × Pointed rank e.key (Node e.key.level c.args.row) xs ys c.args.rows.now c.point_all.new.rows) key_cmp (c.in_ok-e.ensures.least, c.point_all.ensures.pointed) in
    record {
      room = c.point_all.ensures.room;
      next = (e, now.0, refl, now.1);
    }
