use Rattle.std.proofs.Common.{◌≡◌, ◌∷◌, Some, sym, ap, subst}
use Rattle.std.specs.List.Sorted.{IsPermutation}
use Rattle.queue.specs.Waiting.{element, Put, Taken}
use Rattle.queue.proofs.Equal.{both}
use Rattle.queue.proofs.Ranks.{upto_told, after_told}
use Rattle.queue_front.specs.Front.{Fronts, fronts_single}
use Rattle.queue_front.proofs.Fronting.{two_kept, two_put, slot_kept, refill_kept, refill_same, refill_put}
use Rattle.queue_front.proofs.FrontSlotQueue.put.Given as given
use Rattle.queue_front.proofs.FrontSlotQueue.put.Goals as goal

pub invariant_of-self : goal.invariant_of-self
invariant_of-self g c =
    let s = c.args.self.now in
    let o = c.ordered in
    record {
      fronts = two_kept g.met.K.Ord.total c.in-Some.first (element c.args.key c.args.carried) o.result.0 o.result.1 o.ensures.front o.ensures.behind (g.Q.Queue.waiting s.below) s.slot c.in-Some.is (g.Q.Queue.waiting c.put.new.self) c.in-Ok.ensures.put.1 s.fronts;
    }

pub returns-in-Ok-clause-put : goal.returns-in-Ok-clause-put
returns-in-Ok-clause-put g c =
    let q = g.Q.Queue in
    let s = c.args.self.now in
    let o = c.ordered in
    let p = c.in-Ok.ensures in
    two_put g.met.K.Ord.total c.in-Some.first (element c.args.key c.args.carried) o.result.0 o.result.1 o.ensures.front o.ensures.behind (q.waiting s.below) s.slot c.in-Some.is (q.waiting c.put.new.self) p.put.1 (q.room s.below) p.put.0

-- what was taken below is what was shown, and one is put there again
module _ (g : given.Over) (c : goal.After-put-then-is_after g) where
  shown : c.take-self.result ≡ Some c.in-Some-look.next
  shown = both c.take-self.result (Some c.in-Some-look.next) (g.Q.Queue.next c.args.self.now.below) c.take-self.ensures.next c.in-Some-look.ensures.next

  taken : IsPermutation (g.Q.Queue.waiting c.args.self.now.below) (c.in-Some-look.next ∷ g.Q.Queue.waiting c.take-self.new.self)
  taken = subst (λ v. Taken (g.Q.Queue.waiting c.args.self.now.below) (g.Q.Queue.waiting c.take-self.new.self) v) shown c.take-self.ensures.taken

  again : Put (g.Q.Queue.waiting c.take-self.new.self) (g.Q.Queue.room c.args.self.now.below) (element c.args.key c.args.carried) (g.Q.Queue.waiting c.put-then-is_after.new.self) c.put-then-is_after.result
  again = subst (λ n. Put (g.Q.Queue.waiting c.take-self.new.self) n (element c.args.key c.args.carried) (g.Q.Queue.waiting c.put-then-is_after.new.self) c.put-then-is_after.result) c.take-self.ensures.room c.put-then-is_after.ensures.put

pub invariant_of-self-then-is_after : goal.invariant_of-self-then-is_after
invariant_of-self-then-is_after g c =
    let law = g.met.K.Ord.total in
    let q = g.Q.Queue in
    let s = c.args.self.now in
    let x = c.in-Some-look.next in
    let e = element c.args.key c.args.carried in
    record {
      fronts = refill_kept law s.slot c.take-self.result x e c.in-None.is (shown g c) (q.waiting s.below) (q.waiting c.take-self.new.self) (q.waiting c.put-then-is_after.new.self) (q.room s.below) c.put-then-is_after.result (taken g c) (again g c) c.in-Some-look.ensures.least
          (after_told law e.key x.key c.if-is_after.ensures);
    }

pub returns-then-is_after-clause-same : goal.returns-then-is_after-clause-same
returns-then-is_after-clause-same g c =
    let q = g.Q.Queue in
    let s = c.args.self.now in
    refill_same g.met.K.Ord.total s.slot c.take-self.result c.in-Some-look.next (element c.args.key c.args.carried) c.in-None.is (shown g c.before) (q.waiting s.below) (q.waiting c.take-self.new.self) (q.waiting c.put-then-is_after.new.self) (q.room s.below) c.put-then-is_after.result (taken g c.before)
    (again g c.before) (q.fits s.below) _

pub returns-then-is_after-clause-put : goal.returns-then-is_after-clause-put
returns-then-is_after-clause-put g c =
    let q = g.Q.Queue in
    let s = c.args.self.now in
    refill_put g.met.K.Ord.total s.slot c.take-self.result c.in-Some-look.next (element c.args.key c.args.carried) c.in-None.is (shown g c.before) (q.waiting s.below) (q.waiting c.take-self.new.self) (q.waiting c.put-then-is_after.new.self) (q.room s.below) c.put-then-is_after.result (taken g c.before)
    (again g c.before) (q.fits s.below)

pub invariant_of-self-else-is_after : goal.invariant_of-self-else-is_after
invariant_of-self-else-is_after g c =
    let law = g.met.K.Ord.total in
    let e = element c.args.key c.args.carried in
    record { fronts = slot_kept law c.in-Some-look.next e (g.Q.Queue.waiting c.args.self.now.below) c.in-Some-look.ensures.least (upto_told law e.key c.in-Some-look.next.key c.if-is_after.ensures) }

pub returns-in-Err-clause-same : goal.returns-in-Err-clause-same
returns-in-Err-clause-same g c =
    let s = c.args.self.now in
    subst (λ b. (h : Fronts g.K.Ord.cmp s.slot (g.Q.Queue.waiting b)) → record { slot = s.slot; below = b; fronts = h } ≡ s) (sym c.in-Err.ensures.same)
    (λ h. ap (λ k. record { slot = s.slot; below = s.below; fronts = k }) (fronts_single g.K.Ord.cmp s.slot (g.Q.Queue.waiting s.below) h s.fronts)) _
