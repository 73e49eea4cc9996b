-- Which arcs are taken for a pair: just those that lead to it.
use Rattle.std.proofs.Common.{◌≡◌, ℕ, zero, suc, ◌+◌, ◌<◌, Bool, true, false, ◌⊎◌, List, [], ◌∷◌, ◌++◌, length, Some, Ordering, sym, refl, ap, ◌∙◌, subst, inl, inr, ⊎_elim, arith}
use mathlib.Core.Path.{subst⁻¹}
use Rattle.std.specs.Ordering.{is_eq}
use Rattle.std.specs.List.{AllByRecursion, slice_get}
use Rattle.std.proofs.lemmas.Bool.{cases_Bool, cond-true, cond-false, true≢false}
use Rattle.listing.specs.declared.Target.{Target}
use Rattle.listing.specs.Members.{In}
use Rattle.queue.specs.declared.Element.{Element}
use Rattle.std.proofs.lemmas.Option.{slice_get_within}
use Rattle.rows.proofs.Breaking.{nth_same}
use Rattle.pairs.specs.declared.Pair.{Pair}
use Rattle.pairs.specs.Pairs.{Run, Sides, kid, opens, Open, Ahead}
use Rattle.pairs.specs.Rows.{Ascending, Rows, Arc, arc, arcs, beyond, waiting}
use Rattle.pairs.proofs.PairOrder.{irr}
use Rattle.pairs.proofs.RowsList.{split_left}
use Rattle.pairs.proofs.Cuts.{each_beyond}
use Rattle.pairs.proofs.Lists.{among_left, among_right, among_cases, kept_among, among_kept}
use Rattle.sweep.specs.declared.faults.Request.{Request}
use Rattle.sweep.proofs.Arcs.{element, Orders}
use Rattle.sweep.proofs.Bags.{shuffled_bag, all_among, among_map, map_among}
use Rattle.sweep.proofs.Ties.{Drained}
use Rattle.sweep.proofs.Pointing.{Hit}
use Rattle.sweep.proofs.Going.{PutOn, Next, tie_same, self_ties}

-- a front's places are the list's
nth_left : {X : Type 0} (xs ys : List X) (i : ℕ) (x : X) → slice_get xs i ≡ Some x → slice_get (xs ++ ys) i ≡ Some x
nth_left [] ys i x e = let z : ◌≡◌ {A = ℕ} 0 1 = cc in absurd (omega arith)
nth_left (y ∷ xs) ys zero x e = e
nth_left (y ∷ xs) ys (suc i) x e = nth_left xs ys i x e

nth_front : {X : Type 0} (xs ys : List X) (i : ℕ) (x : X) → i < length xs → slice_get (xs ++ ys) i ≡ Some x → slice_get xs i ≡ Some x
nth_front [] ys i x l e = absurd (omega arith)
nth_front (y ∷ xs) ys zero x l e = e
nth_front (y ∷ xs) ys (suc i) x l e = nth_front xs ys i x (omega arith) e

pub among_all : {X : Type 0} (P : X → Type 0) (xs : List X) → ((x : X) → In x xs → P x) → AllByRecursion P xs
among_all P [] h = tt
among_all P (x ∷ xs) h = (h x (inl refl), among_all P xs (λ y m. h y (inr m)))

module _ (r : Run) where
  -- where an arc comes from
  record Parent (k : ℕ) (xs : List Pair) (a : Arc) : Type 0 where
    place : ℕ
    pair : Pair
    at : slice_get xs place ≡ Some pair
    row : a.row ≡ k + place
    to : a.to ≡ kid r a.high pair

  arc_parent : (k : ℕ) (x : Pair) (b : Bool) (a : Arc) → In a (arc r k x b) → (a.row ≡ k) × (a.to ≡ kid r a.high x)
  unfolding arc
  arc_parent k x b a m = by (cases_Bool (opens r.operator (kid r b x)))
    where
      here : Arc
      here = record { row = k; high = b; to = kid r b x }

      by : (opens r.operator (kid r b x) ≡ true) ⊎ (opens r.operator (kid r b x) ≡ false) → (a.row ≡ k) × (a.to ≡ kid r a.high x)
      by (inl o) =
          ⊎_elim (λ e. (ap (λ (z : Arc). z.row) e, ap (λ (z : Arc). z.to) e ∙ ap (λ d. kid r d x) (sym (ap (λ (z : Arc). z.high) e)))) (λ e. absurd e)
          (subst (In a) (cond-true (opens r.operator (kid r b x)) (record { row = k; high = b; to = kid r b x } ∷ []) [] o) m)
      by (inr c) = absurd (subst (In a) (cond-false (opens r.operator (kid r b x)) (record { row = k; high = b; to = kid r b x } ∷ []) [] c) m)

  arcs_parent : (k : ℕ) (xs : List Pair) (a : Arc) → In a (arcs r k xs) → Parent k xs a
  unfolding arcs
  arcs_parent k [] a m = absurd m
  arcs_parent k (x ∷ xs) a m =
      ⊎_elim (one false)
      (λ j. ⊎_elim (one true) (λ i. let w = arcs_parent (suc k) xs a i in record { place = suc w.place; pair = w.pair; at = w.at; row = omega (arith, w.row); to = w.to })
      (among_cases (arc r k x true) (arcs r (suc k) xs) a j))
      (among_cases (arc r k x false) (arc r k x true ++ arcs r (suc k) xs) a m)
    where
      one : (b : Bool) → In a (arc r k x b) → Parent k (x ∷ xs) a
      one b j = let e = arc_parent k x b a j in record { place = 0; pair = x; at = refl; row = omega (arith, e.0); to = e.1 }

  parent_arc : (k : ℕ) (xs : List Pair) (i : ℕ) (q : Pair) (b : Bool) → slice_get xs i ≡ Some q → Open r (kid r b q) → In (record { row = k + i; high = b; to = kid r b q }) (arcs r k xs)
  unfolding arcs arc
  parent_arc k [] i q b e o = let z : ◌≡◌ {A = ℕ} 0 1 = cc in absurd (omega arith)
  parent_arc k (x ∷ xs) zero q b e o = by b o
    where
      d : q ≡ x
      d = cc

      by : (b : Bool) → Open r (kid r b q) → In (record { row = k + 0; high = b; to = kid r b q }) (arc r k x false ++ (arc r k x true ++ arcs r (suc k) xs))
      by false h =
          among_left (arc r k x false) _ _
          (subst⁻¹ (In _) (cond-true (opens r.operator (kid r false x)) (record { row = k; high = false; to = kid r false x } ∷ []) [] (subst (λ (z : Pair). Open r (kid r false z)) d h))
          (inl (λ i. record { row = (let z : k + 0 ≡ k = omega arith in z) i; high = false; to = kid r false (d i) })))
      by true h =
          among_right (arc r k x false) _ _ (among_left (arc r k x true) _ _
          (subst⁻¹ (In _) (cond-true (opens r.operator (kid r true x)) (record { row = k; high = true; to = kid r true x } ∷ []) [] (subst (λ (z : Pair). Open r (kid r true z)) d h))
          (inl (λ i. record { row = (let z : k + 0 ≡ k = omega arith in z) i; high = true; to = kid r true (d i) }))))
  parent_arc k (x ∷ xs) (suc i) q b e o =
      among_right (arc r k x false) _ _ (among_right (arc r k x true) _ _
      (subst (λ n. In (record { row = n; high = b; to = kid r b q }) (arcs r (suc k) xs)) (let z : suc k + i ≡ k + suc i = omega arith in z) (parent_arc (suc k) xs i q b e o)))

module _ {K : Type 0} (r : Run) (keyed : Pair → K) (ps : List Pair) (space room : ℕ) (ok : Sides r) (w : Rows r ps) (k : ℕ) (ys : List Pair) (ws : List (Element K Request)) (v : PutOn r keyed ps space room k ys ws) where
  -- what waits is an arc of a row
  record Waits (y : Element K Request) : Type 0 where
    from : Arc
    is : y ≡ element keyed from
    parent : Parent r 0 ys from

  waits_arc : (y : Element K Request) → In y ws → Waits y
  unfolding waiting
  waits_arc y m =
      let d = among_map (element keyed) (waiting r ys) y (v.bag.there y m) in
      record { from = d.0; is = d.2; parent = arcs_parent r 0 ys d.0 (kept_among (λ (a : Arc). beyond r ys a.to) (arcs r 0 ys) d.0 d.1).0 }

  -- it is of one of the rows opened
  pub waits_row : (y : Element K Request) → In y ws → y.carried.row < k
  waits_row y m =
      let d = waits_arc y m in
      omega (arith, ap (λ (x : Element K Request). x.carried.row) d.is, d.parent.row, slice_get_within ys d.parent.place d.parent.pair d.parent.at, v.count)

  module _ (rank : K → K → Ordering) (orders : Orders r keyed rank) (e : Element K Request) (n : Next r keyed ps space room ok w k ys ws v rank orders e) (us : List (Element K Request)) (d : Drained rank e.key ws us) where
    waited : (y : Element K Request) → In y d.gone → In y ws
    waited y m = (shuffled_bag _ _ d.rest).back y (among_left d.gone us y m)

    pub gone_row : (y : Element K Request) → In y d.gone → y.carried.row < k
    gone_row y m = waits_row y (waited y m)

    -- each that is gone leads to the next pair
    pub gone_only : (y : Element K Request) → In y d.gone → (q : Pair) → slice_get ps y.carried.row ≡ Some q → kid r y.carried.high q ≡ n.pair
    gone_only y m q f =
        let a = waits_arc y (waited y m) in
        let row : y.carried.row ≡ a.parent.place = omega (arith, ap (λ (x : Element K Request). x.carried.row) a.is, a.parent.row) in
        let same : a.parent.pair ≡ q =
        nth_same ps a.parent.place a.parent.pair q
        (sym (subst⁻¹ (λ l. slice_get l a.parent.place ≡ Some a.parent.pair) v.rows (nth_left ys v.others a.parent.place a.parent.pair a.parent.at)))
        (subst (λ i. slice_get ps i ≡ Some q) row f) in
        let tie : is_eq (rank (keyed a.from.to) (keyed n.pair)) ≡ true =
        subst (λ x. is_eq (rank (keyed a.from.to) x) ≡ true) n.key
        (subst (λ (x : Element K Request). is_eq (rank x.key e.key) ≡ true) a.is (all_among (λ y. is_eq (rank y.key e.key) ≡ true) d.gone d.ties y m)) in
        ap (λ b. kid r b q) (ap (λ (x : Element K Request). x.carried.high) a.is) ∙ ap (kid r a.from.high) (sym same) ∙ sym a.parent.to ∙
        tie_same _ _ _ _ (orders a.from.to n.pair) tie

    next_row : ps ≡ ys ++ (n.pair ∷ n.rest)
    next_row = v.rows ∙ ap (λ l. ys ++ l) n.is

    -- and each arc that leads to it is gone
    pub gone_all : (t : Target) (j : ℕ) (q : Pair) (b : Bool) → j < k → slice_get ps j ≡ Some q → kid r b q ≡ n.pair → Hit {K = K} t d.gone j b
    unfolding waiting
    gone_all t j q b l f h =
        let at : slice_get ys j ≡ Some q = nth_front ys v.others j q (omega (arith, v.count)) (subst (λ z. slice_get z j ≡ Some q) v.rows f) in
        let op : Open r (kid r b q) = subst⁻¹ (Open r) h (w.sound n.pair (subst⁻¹ (In n.pair) next_row (among_right ys (n.pair ∷ n.rest) n.pair (inl refl)))).1 in
        let a : Arc = record { row = 0 + j; high = b; to = kid r b q } in
        let far : beyond r ys (kid r b q) ≡ true = each_beyond r ys (kid r b q) (λ x m. subst⁻¹ (Ahead r x) h (split_left r ys n.pair n.rest (subst (Ascending r) next_row w.ascending) x m)) in
        let inside : In (element keyed a) ws = v.bag.back _ (map_among (element keyed) (waiting r ys) a (among_kept (λ (c : Arc). beyond r ys c.to) (arcs r 0 ys) a (parent_arc r 0 ys j q b at op) far)) in
        let key : is_eq (rank (keyed (kid r b q)) e.key) ≡ true =
        subst⁻¹ (λ x. is_eq (rank (keyed (kid r b q)) x) ≡ true) (n.key ∙ ap keyed (sym h)) (self_ties _ _ _ _ (orders (kid r b q) (kid r b q)) (irr r (kid r b q)) (irr r (kid r b q))) in
        ⊎_elim (λ m. (element keyed a, m, (let z : 0 + j ≡ j = omega arith in z), refl))
        (λ m. absurd (true≢false (sym key ∙ all_among (λ y. is_eq (rank y.key e.key) ≡ false) us d.apart (element keyed a) m)))
        (among_cases d.gone us (element keyed a) ((shuffled_bag _ _ d.rest).there (element keyed a) inside))
