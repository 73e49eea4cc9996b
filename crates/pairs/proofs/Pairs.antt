-- What the pairs of a run have.
use Rattle.std.proofs.Common.{◌≡◌, ℕ, ◌<◌, Bool, true, false, ◌||◌, sym, refl, ◌∙◌, ap₂, ⊎_elim, arith}
use mathlib.Core.Path.{subst⁻¹}
use Rattle.std.proofs.lemmas.Bool.{false≢true, true≢false, or_parts, or_cases}
use Rattle.listing.specs.declared.Target.{Target}
use Rattle.listing.specs.declared.Target.TheVariants.{Node, False, True}
use Rattle.pairs.specs.declared.Pair.{Pair}
use Rattle.listing.specs.Listing.{walk}
use Rattle.listing.proofs.Walk.{Choice}
use Rattle.pairs.specs.Pairs.{Run, Sides, answer, pair_level, level, kid, start, put, Closed, verdict, differ, opens, Open, Ahead, Told}
use Rattle.pairs.specs.Rows.{Reached, at_root, by_arc}
use Rattle.pairs.proofs.Valued.{fix, value}
use Rattle.pairs.proofs.Sides.{node_small, Good, good_root, root_walk, moved, walk_put}
use Rattle.pairs.proofs.PairOrder.{level_ahead}

differ_same : (a b : Bool) → differ a b ≡ false → b ≡ a
differ_same true true e = refl
differ_same true false e = absurd (true≢false e)
differ_same false true e = absurd (true≢false e)
differ_same false false e = refl

same_differ : (a b : Bool) → b ≡ a → differ a b ≡ true → ⊥
same_differ true true e h = false≢true h
same_differ true false e h = false≢true e
same_differ false true e h = true≢false e
same_differ false false e h = false≢true h

module _ (o : ℕ) (p : Pair) where
  -- whether the answer with f and g put is another
  abbrev gap : Bool → Bool → Bool
  gap f g = differ (verdict o p) (answer o (put f p.left) (put g p.right))

  gaps : opens o p ≡ false → (gap false true ≡ false) × (gap true false ≡ false) × (gap true true ≡ false)
  unfolding opens
  gaps e =
      let a = or_parts (gap false true) (gap true false || gap true true) e in
      let b = or_parts (gap true false) (gap true true) a.1 in
      (a.0, b.0, b.1)

  pub shut : opens o p ≡ false → Closed o p (verdict o p)
  unfolding verdict
  shut e false false = refl
  shut e false true = differ_same _ _ (gaps e).0
  shut e true false = differ_same _ _ (gaps e).1
  shut e true true = differ_same _ _ (gaps e).2

  pub ajar : opens o p ≡ true → (v : Bool) → Closed o p v → ⊥
  unfolding opens verdict
  ajar e v c =
      ⊎_elim (same_differ _ _ (c false true ∙ sym (c false false)))
      (λ k. ⊎_elim (same_differ _ _ (c true false ∙ sym (c false false))) (same_differ _ _ (c true true ∙ sym (c false false))) (or_cases _ _ k))
      (or_cases _ _ e)

pub told : (o : ℕ) (p : Pair) → Told o p
told o p = record { shut = shut o p; ajar = ajar o p }

abbrev pair : Target → Target → Pair
pair t u = record { left = t; right = u }

-- a pair of terminals is closed
final : (r : Run) (t u : Target) → ((f : Bool) → put f t ≡ put false t) → ((g : Bool) → put g u ≡ put false u) → Open r (pair t u) → ⊥
final r t u h k e = ajar r.operator (pair t u) e (answer r.operator (put false t) (put false u)) (λ f g. ap₂ (answer r.operator) (h f) (k g))

put_false : (f : Bool) → put f False ≡ put false False
put_false f = refl

put_true : (f : Bool) → put f True ≡ put false True
put_true f = refl

module _ (r : Run) (ok : Sides r) where
  abbrev pub Fine : Pair → Type 0
  Fine p = Good r.facts r.left ok.left p.left × Good r.facts r.right ok.right p.right

  pub fine : (p : Pair) → Reached r p → Fine p
  unfolding start kid
  fine p (at_root e) = subst⁻¹ Fine e (good_root r.facts r.left ok.left, good_root r.facts r.right ok.right)
  fine p (by_arc q b h o e) =
      let g = fine q h in
      subst⁻¹ Fine e (
        (moved r.facts r.left ok.left (level r q) q.left g.0).good b,
        (moved r.facts r.right ok.right (level r q) q.right g.1).good b,
      )

  small_by : (t u : Target) → Fine (pair t u) → Open r (pair t u) → level r (pair t u) < r.facts
  unfolding pair_level
  small_by (Node l k) u g o = let h = node_small _ _ _ ok.left l k g.0.0 in omega arith
  small_by False (Node l k) g o = let h = node_small _ _ _ ok.right l k g.1.0 in omega arith
  small_by False False g o = absurd (final r False False put_false put_false o)
  small_by False True g o = absurd (final r False True put_false put_true o)
  small_by True (Node l k) g o = let h = node_small _ _ _ ok.right l k g.1.0 in omega arith
  small_by True False g o = absurd (final r True False put_true put_false o)
  small_by True True g o = absurd (final r True True put_true put_true o)

  -- an open pair's level is a fact's
  pub small : (p : Pair) → Reached r p → Open r p → level r p < r.facts
  small p h o = small_by p.left p.right (fine p h) o

  -- levels rise from an open pair to its children
  pub rises : (p : Pair) → Reached r p → Open r p → (b : Bool) → level r p < level r (kid r b p)
  unfolding pair_level kid
  rises p h o b =
      let g = fine p h in
      let s = small p h o in
      let x = (moved r.facts r.left ok.left (level r p) p.left g.0).deeper (omega arith) s b in
      let y = (moved r.facts r.right ok.right (level r p) p.right g.1).deeper (omega arith) s b in
      omega arith

  pub kid_ahead : (p : Pair) → Reached r p → Open r p → (b : Bool) → Ahead r p (kid r b p)
  kid_ahead p h o b = level_ahead r p (kid r b p) (rises p h o b)

  -- a pair has the value of the child that its fact picks
  pub value_kid : (s : Choice) (p : Pair) → Reached r p → value r s p ≡ value r s (kid r (s (level r p)) p)
  unfolding value kid
  value_kid s p h =
      let g = fine p h in
      ap₂ (answer r.operator)
      ((moved r.facts r.left ok.left (level r p) p.left g.0).walks s)
      ((moved r.facts r.right ok.right (level r p) p.right g.1).walks s)

  -- a closed pair has the value of its answer
  pub value_shut : (s : Choice) (p : Pair) → opens r.operator p ≡ false → value r s p ≡ verdict r.operator p
  unfolding value
  value_shut s p e =
      ap₂ (answer r.operator) (sym (walk_put r.facts r.left ok.left (fix r.left.fixed s) p.left)) (sym (walk_put r.facts r.right ok.right (fix r.right.fixed s) p.right)) ∙
      shut r.operator p e (walk r.left.records (fix r.left.fixed s) p.left) (walk r.right.records (fix r.right.fixed s) p.right)

  pub value_start : (s : Choice) → value r s (start r) ≡ answer r.operator (walk r.left.records (fix r.left.fixed s) r.left.root) (walk r.right.records (fix r.right.fixed s) r.right.root)
  unfolding value start
  value_start s = ap₂ (answer r.operator) (root_walk r.facts r.left ok.left s) (root_walk r.facts r.right ok.right s)
