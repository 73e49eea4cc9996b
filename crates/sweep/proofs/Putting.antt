-- Putting the arcs of a row.
use Rattle.std.proofs.Common.{ℕ, true, false, List, ◌++◌, Ok, Err, Result, ◌∙◌}
use Rattle.std.specs.List.Sorted.{IsPermutation}
use Rattle.std.proofs.lemmas.List.Sorted.{IsPermutation-trans, length_permutation}
use Rattle.queue.specs.declared.Element.{Element}
use Rattle.pairs.specs.declared.keys.PairKey.{PairKey}
use Rattle.sweep.specs.declared.faults.Request.{Request}
use Rattle.sweep.specs.declared.faults.RunFault.{RunFault}
use Rattle.sweep.specs.declared.requests.Child.{Child}
use Rattle.sweep.specs.Requests.{put_for, PutArc, PutArcs}
use Rattle.sweep.proofs.Ties.{shuffled_after}

module _ (room n row : ℕ) (low high : Child) (xs us ys : List (Element PairKey Request)) (s : IsPermutation (put_for n row false low ++ xs) us) where
  -- high is put where low was
  pub put_high : (res : Result (Unit {0}) RunFault) → PutArc room n row true high us ys res → PutArcs room n row low high xs ys res
  put_high (Ok u) h = (h.0, IsPermutation-trans _ (put_for n row true high ++ us) _ (shuffled_after (put_for n row true high) _ _ s) h.1)
  put_high (Err f) h = record { side = true; pair = h.0; wanted = h.1; full = h.2 ∙ length_permutation _ _ s; is = h.3 }
