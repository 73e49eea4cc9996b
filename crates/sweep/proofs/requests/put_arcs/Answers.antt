use Rattle.std.proofs.Common.{true, ◌∙◌, subst}
use Rattle.sweep.specs.Requests.{PutArc}
use Rattle.sweep.proofs.Putting.{put_high}
use Rattle.sweep.proofs.requests.put_arcs.Goals as goal

pub returns : goal.returns
returns g c =
    let a = c.in_ok-put_arc.ensures in
    let b = c.put_arc-2.ensures in
    record {
      room = b.room ∙ a.room;
      put = put_high (g.Q.Queue.room c.args.queue.now) c.args.n c.args.row c.args.children.low c.args.children.high (g.Q.Queue.waiting c.args.queue.now) (g.Q.Queue.waiting c.put_arc.new.queue)
          (g.Q.Queue.waiting c.put_arc-2.new.queue) a.put.1 c.put_arc-2.result
          (subst (λ m. PutArc m c.args.n c.args.row true c.args.children.high (g.Q.Queue.waiting c.put_arc.new.queue) (g.Q.Queue.waiting c.put_arc-2.new.queue) c.put_arc-2.result) a.room b.put);
    }
