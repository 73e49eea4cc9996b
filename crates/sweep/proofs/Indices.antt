-- Pairs by their places among the rows.
use Rattle.std.proofs.Common.{◌≡◌, ℕ, zero, suc, ◌<◌, List, [], ◌∷◌, ◌++◌, length, Some, refl, ap, subst, arith}
use Rattle.std.specs.List.{slice_get}
use Rattle.rows.proofs.Breaking.{nth_in}
use Rattle.pairs.specs.declared.Pair.{Pair}
use Rattle.pairs.specs.Pairs.{Run, Ahead}
use Rattle.pairs.specs.Rows.{Ascending}
use Rattle.pairs.proofs.PairOrder.{irr, trans}

pub nth_append : {X : Type 0} (xs : List X) (x : X) (ys : List X) → slice_get (xs ++ (x ∷ ys)) (length xs) ≡ Some x
nth_append [] x ys = refl
nth_append (y ∷ xs) x ys = nth_append xs x ys

module _ (r : Run) where
  -- earlier places have earlier pairs
  pub ahead_places : (ps : List Pair) → Ascending r ps → (i j : ℕ) (p q : Pair) → slice_get ps i ≡ Some p → slice_get ps j ≡ Some q → Ahead r p q → i < j
  ahead_places [] a i j p q e f h = let z : ◌≡◌ {A = ℕ} 0 1 = cc in absurd (omega arith)
  ahead_places (x ∷ ps) a zero zero p q e f h = let z : p ≡ q = cc in absurd (irr r q (subst (λ (y : Pair). Ahead r y q) z h))
  ahead_places (x ∷ ps) a zero (suc j) p q e f h = omega arith
  ahead_places (x ∷ ps) a (suc i) zero p q e f h =
      let z : x ≡ q = cc in
      absurd (irr r p (trans r p q p h (subst (λ (y : Pair). Ahead r y p) z (a.0 p (nth_in p ps i e)))))
  ahead_places (x ∷ ps) a (suc i) (suc j) p q e f h = let z = ahead_places ps a.1 i j p q e f h in omega arith

  -- a pair stands at one place
  pub one_place : (ps : List Pair) → Ascending r ps → (i j : ℕ) (p q : Pair) → slice_get ps i ≡ Some p → slice_get ps j ≡ Some q → p ≡ q → i ≡ j
  one_place [] a i j p q e f h = let z : ◌≡◌ {A = ℕ} 0 1 = cc in absurd (omega arith)
  one_place (x ∷ ps) a zero zero p q e f h = refl
  one_place (x ∷ ps) a zero (suc j) p q e f h = let z : x ≡ q = cc in absurd (irr r q (subst (λ (y : Pair). Ahead r y q) z (a.0 q (nth_in q ps j f))))
  one_place (x ∷ ps) a (suc i) zero p q e f h = let z : x ≡ p = cc in absurd (irr r p (subst (λ (y : Pair). Ahead r y p) z (a.0 p (nth_in p ps i e))))
  one_place (x ∷ ps) a (suc i) (suc j) p q e f h = ap suc (one_place ps a.1 i j p q e f h)
