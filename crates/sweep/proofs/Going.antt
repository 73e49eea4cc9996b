-- What holds as the rows of a run are opened.
use Rattle.std.proofs.Common.{◌≡◌, ℕ, ◌+◌, ◌<◌, ◌≤◌, Bool, true, false, cond, not, ◌⊎◌, List, [], ◌∷◌, ◌++◌, length, take, Some, Ordering, Less, Equal, Greater, sym, refl, ap, ◌∙◌, subst, ap₂, subst₂, inl, inr, ⊎_elim, arith}
use mathlib.Core.Path.{subst⁻¹}
use Rattle.std.specs.Ordering.{MatchOrdering, is_eq, is_gt}
use Rattle.std.specs.List.{slice_get}
use Rattle.std.specs.List.Sorted.{IsPermutation}
use Rattle.std.proofs.lemmas.Bool.{cases_Bool, cond-true, true≢false, false≢true}
use Rattle.std.proofs.lemmas.List.{append_assoc, append-nil, length-append, length-map, map-append, take_at}
use Rattle.std.proofs.lemmas.List.Elements.{filter-append}
use Rattle.pairs.specs.declared.Pair.{Pair}
use Rattle.listing.specs.Members.{In}
use Rattle.pairs.specs.Pairs.{Run, Sides, kid, start, opens, Open, ahead, Ahead}
use Rattle.pairs.specs.Rows.{Ascending, Reached, at_root, Rows, Arc, arc, arcs, waiting, cut, passing, put_before, Refuses, done, no_row, queue_full, Fits, Comes}
use Rattle.pairs.proofs.Model.{later}
use Rattle.pairs.proofs.PairOrder.{irr, not_self}
use Rattle.pairs.proofs.RowsList.{split_left, head_start}
use Rattle.pairs.proofs.Lists.{among_left, among_right, kept_same, kept_none, kept_all}
use Rattle.pairs.proofs.Cuts.{waits_more, NotAfter}
use Rattle.sweep.proofs.Indices.{nth_append}
use Rattle.pairs.proofs.Sweep.{no_next, next_is, cut_is, fits_more, grown}
use Rattle.queue.specs.Rank.{UpTo}
use Rattle.queue.specs.Waiting.{Least}
use Rattle.queue.specs.declared.Element.{Element}
use Rattle.sweep.specs.declared.faults.Request.{Request}
use Rattle.sweep.proofs.Arcs.{element, elements, Orders}
use Rattle.sweep.proofs.Ties.{Drained}
use Rattle.sweep.proofs.Bags.{Bag, bag_refl, bag_sym, bag_trans, shuffled_bag, bag_append, bag_turn, bag_kept, bag_length, all_among, has_in, among_map, map_among, kept_map}

module _ {K : Type 0} (r : Run) (keyed : Pair → K) (ps : List Pair) (space room : ℕ) where
  -- row k is to be opened for p behind the rows xs, where ws waits
  pub record Going (k : ℕ) (xs : List Pair) (p : Pair) (ws : List (Element K Request)) : Type 0 where
    pub others : List Pair
    pub rows : ps ≡ xs ++ (p ∷ others)
    pub count : length xs ≡ k
    pub bag : Bag ws (elements keyed (later r p (waiting r xs)))
    pub small : length ws ≤ room
    pub fits : (j : ℕ) → j < k → Fits r ps space room j
    pub from : In (start r) (xs ++ (p ∷ []))

  -- k rows ys are opened and their arcs put, where ws waits
  pub record PutOn (k : ℕ) (ys : List Pair) (ws : List (Element K Request)) : Type 0 where
    pub others : List Pair
    pub rows : ps ≡ ys ++ others
    pub count : length ys ≡ k
    pub bag : Bag ws (elements keyed (waiting r ys))
    pub small : length ws ≤ room
    pub fits : (j : ℕ) → j < k → Fits r ps space room j
    pub from : In (start r) ys

  pub go_no_row : (k : ℕ) (xs : List Pair) (p : Pair) (ws : List (Element K Request)) → Going k xs p ws → space ≤ k → Comes r ps space room (no_row k)
  go_no_row k xs p ws v l = (omega (arith, ap length v.rows, length-append xs (p ∷ v.others), v.count), v.fits, l)

  module _ (ok : Sides r) (w : Rows r ps) where
    go_start : (qs : List Pair) → ps ≡ qs → Open r (start r) → (ws : List (Element K Request)) → ws ≡ [] → Going 0 [] (start r) ws
    unfolding later waiting arcs
    go_start [] e o ws n = absurd (subst (In (start r)) e (w.full (start r) (at_root refl) o))
    go_start (q ∷ zs) e o ws n =
        record {
          others = zs;
          rows = e ∙ ap (λ x. x ∷ zs) (head_start r ok ps w q zs e);
          count = refl;
          bag = subst⁻¹ (λ l. Bag l []) n (bag_refl []);
          small = omega (arith, ap length n);
          fits = λ j l. absurd (omega arith);
          from = inl refl;
        }

    pub go_first : Open r (start r) → (ws : List (Element K Request)) → ws ≡ [] → Going 0 [] (start r) ws
    go_first o ws n = go_start ps refl o ws n

    module _ (k : ℕ) (xs : List Pair) (p : Pair) (ws : List (Element K Request)) (v : Going k xs p ws) where
      split : ps ≡ (xs ++ (p ∷ [])) ++ v.others
      split = v.rows ∙ sym (append_assoc xs (p ∷ []) v.others)

      is_row : Reached r p × Open r p
      is_row = w.sound p (subst⁻¹ (In p) v.rows (among_right xs (p ∷ v.others) p (inl refl)))

      waits : waiting r (xs ++ (p ∷ [])) ≡ later r p (waiting r xs) ++ arcs r k (p ∷ [])
      waits = waits_more r ok xs p is_row.0 is_row.1 (split_left r xs p v.others (subst (Ascending r) v.rows w.ascending)) ∙ ap (λ n. later r p (waiting r xs) ++ arcs r n (p ∷ [])) v.count

      two_arcs : arcs r k (p ∷ []) ≡ arc r k p false ++ arc r k p true
      unfolding arcs
      two_arcs = ap (λ l. arc r k p false ++ l) (append-nil _)

      cut_now : cut r ps k ≡ length ws + (length (arc r k p false) + length (arc r k p true))
      cut_now =
          ap (cut r ps) (sym v.count) ∙ cut_is r ok ps w space room xs p v.others split ∙ ap length (waits ∙ ap (λ l. later r p (waiting r xs) ++ l) two_arcs) ∙
          length-append (later r p (waiting r xs)) _ ∙
          ap₂ ◌+◌ (sym (length-map (later r p (waiting r xs)) (element keyed)) ∙ sym (bag_length ws _ v.bag)) (length-append (arc r k p false) (arc r k p true))

      sized : (b : Bool) (us : List (Element K Request)) → length (elements keyed (arc r k p b) ++ us) ≡ length (arc r k p b) + length us
      sized b us = length-append (elements keyed (arc r k p b)) us ∙ ap (λ n. n + length us) (length-map (arc r k p b) (element keyed))

      long : k < length ps
      long = omega (arith, ap length v.rows, length-append xs (p ∷ v.others), v.count)

      row_at : slice_get ps k ≡ Some p
      row_at = subst⁻¹ (λ l. slice_get l k ≡ Some p) v.rows (subst (λ m. slice_get (xs ++ (p ∷ v.others)) m ≡ Some p) v.count (nth_append xs p v.others))

      one_arc : (b : Bool) → Open r (kid r b p) → length (arc r k p b) ≡ 1
      unfolding arc
      one_arc b o = ap length (cond-true (opens r.operator (kid r b p)) _ _ o)

      passes : passing r ps k p ≡ length ws
      unfolding passing later
      passes =
          ap (λ l. length (later r p (waiting r l))) (ap (take k) v.rows ∙ ap (λ m. take m (xs ++ (p ∷ v.others))) (sym v.count) ∙ take_at xs (p ∷ v.others) (length xs) refl) ∙
          sym (length-map (later r p (waiting r xs)) (element keyed)) ∙ sym (bag_length ws _ v.bag)

      -- arc b of row k finds no room
      pub go_full : k < space → (b : Bool) → Open r (kid r b p) → room ≡ length (cond b (elements keyed (arc r k p false)) [] ++ ws) → Comes r ps space room (queue_full k) × Refuses r ps room k p b
      unfolding put_before
      go_full l true o h =
          let n : room ≡ length (arc r k p false) + length ws = h ∙ sized false ws in (
            (long, v.fits, l, omega (arith, cut_now, one_arc true o)),
            record { row = row_at; opened = o; full = omega (arith, passes); first = λ _ c. omega (arith, passes, one_arc false c) },
          )
      go_full l false o h = (
        (long, v.fits, l, omega (arith, cut_now, one_arc false o)),
        record { row = row_at; opened = o; full = omega (arith, passes); first = λ e c. let z : ◌≡◌ {A = ℕ} 0 1 = cc in absurd (omega arith) },
      )

      -- both arcs of row k are put
      pub go_put : k < space → (vs : List (Element K Request)) → length vs ≤ room → IsPermutation (elements keyed (arc r k p true) ++ (elements keyed (arc r k p false) ++ ws)) vs → PutOn (k + 1) (xs ++ (p ∷ [])) vs
      go_put l vs m s =
          let low = elements keyed (arc r k p false) in
          let high = elements keyed (arc r k p true) in
          let old = elements keyed (later r p (waiting r xs)) in
          record {
            others = v.others;
            rows = split;
            count = omega (arith, grown r ok ps w space room xs p, v.count);
            bag =
                subst⁻¹ (Bag vs) (ap (elements keyed) (waits ∙ ap (λ l. later r p (waiting r xs) ++ l) two_arcs) ∙ map-append (element keyed) (later r p (waiting r xs)) _ ∙ ap (λ l. old ++ l) (map-append (element keyed) (arc r k p false) _))
                (bag_trans vs (high ++ (low ++ ws)) (old ++ (low ++ high)) (bag_sym _ _ (shuffled_bag _ _ s))
                (bag_trans (high ++ (low ++ ws)) (high ++ (low ++ old)) (old ++ (low ++ high))
                (bag_append high (low ++ ws) high (low ++ old) (bag_refl high) (bag_append low ws low old (bag_refl low) v.bag))
                (bag_trans (high ++ (low ++ old)) ((low ++ old) ++ high) (old ++ (low ++ high)) (bag_turn high (low ++ old))
                (subst (Bag ((low ++ old) ++ high)) (append_assoc old low high) (bag_append (low ++ old) high (old ++ low) high (bag_turn low old) (bag_refl high))))));
            small = m;
            fits = λ j i. fits_more r ok ps w space room k v.fits (l, omega (arith, cut_now, sized false ws, sized true (low ++ ws), bag_length _ _ (shuffled_bag _ _ s))) j (omega arith);
            from = v.from;
          }

upto_either : (A B C : Type 0) (o : Ordering) → MatchOrdering o A B C → is_gt o ≡ false → A ⊎ B
upto_either A B C Less h e = inl h
upto_either A B C Equal h e = inr h
upto_either A B C Greater h e = absurd (true≢false e)

pub tie_same : (A B C : Type 0) (o : Ordering) → MatchOrdering o A B C → is_eq o ≡ true → B
tie_same A B C Less h e = absurd (false≢true e)
tie_same A B C Equal h e = h
tie_same A B C Greater h e = absurd (false≢true e)

pub self_ties : (A B C : Type 0) (o : Ordering) → MatchOrdering o A B C → (A → ⊥) → (C → ⊥) → is_eq o ≡ true
self_ties A B C Less h f g = absurd (f h)
self_ties A B C Equal h f g = refl
self_ties A B C Greater h f g = absurd (g h)

no_arcs : (ws : List Arc) → length ws ≡ 0 → ws ≡ []
no_arcs [] e = refl
no_arcs (a ∷ ws) e = absurd (omega arith)

module _ {K : Type 0} (r : Run) (keyed : Pair → K) (ps : List Pair) (space room : ℕ) (ok : Sides r) (w : Rows r ps) (k : ℕ) (ys : List Pair) (ws : List (Element K Request)) (v : PutOn r keyed ps space room k ys ws) where
  -- none waits: all rows are opened
  pub go_done : ws ≡ [] → Comes r ps space room done × (ys ≡ ps)
  go_done e =
      let n : waiting r ys ≡ [] = no_arcs (waiting r ys) (sym (length-map (waiting r ys) (element keyed)) ∙ sym (bag_length ws _ v.bag) ∙ ap length e) in
      let z = no_next r ok ps w ys v.others v.rows v.from n in
      let f : ps ≡ ys = v.rows ∙ ap (λ l. ys ++ l) z ∙ append-nil ys in
      ((λ j l. v.fits j (omega (arith, ap length f, v.count))), sym f)

  module _ (rank : K → K → Ordering) (orders : Orders r keyed rank) where
    -- the least key is the next row's
    pub record Next (e : Element K Request) : Type 0 where
      pub pair : Pair
      pub key : e.key ≡ keyed pair
      pub rest : List Pair
      pub is : v.others ≡ pair ∷ rest
      pub low : (c : Arc) → In c (waiting r ys) → NotAfter r pair c.to

    pub go_next : (e : Element K Request) → Least rank ws (Some e) → Next e
    go_next e h =
        let d = among_map (element keyed) (waiting r ys) e (v.bag.there e (has_in ws e h.0)) in
        let p = d.0.to in
        let f : e.key ≡ keyed p = ap (λ (x : Element K Request). x.key) d.2 in
        let low : (c : Arc) → In c (waiting r ys) → NotAfter r p c.to = λ c m.
        upto_either _ _ _ (rank (keyed p) (keyed c.to)) (orders p c.to)
        (subst (λ x. UpTo rank x (keyed c.to)) f (all_among (λ y. UpTo rank e.key y.key) ws h.1 (element keyed c) (v.bag.back _ (map_among (element keyed) (waiting r ys) c m)))) in
        let n = next_is r ok ps w ys v.others v.rows v.from p d.0 d.1 refl low in
        record { pair = p; key = f; rest = n.0; is = n.1; low = low }

    module _ (e : Element K Request) (n : Next e) where
      abbrev p : Pair
      p = n.pair

      test : Element K Request → Bool
      test y = not (is_eq (rank y.key e.key))

      test_is : (c : Arc) → In c (waiting r ys) → test (element keyed c) ≡ ahead r p c.to
      unfolding test
      test_is c m = ⊎_elim yes_ahead no_ahead (n.low c m)
        where
          yes_ahead : Ahead r n.pair c.to → not (is_eq (rank (keyed c.to) e.key)) ≡ ahead r n.pair c.to
          yes_ahead h =
              ⊎_elim
              (λ t. absurd (irr r c.to (subst (λ (z : Pair). Ahead r z c.to) (sym (tie_same _ _ _ _ (orders c.to n.pair) (subst (λ x. is_eq (rank (keyed c.to) x) ≡ true) n.key t))) h)))
              (λ t. ap not t ∙ sym h) (cases_Bool (is_eq (rank (keyed c.to) e.key)))

          no_ahead : n.pair ≡ c.to → not (is_eq (rank (keyed c.to) e.key)) ≡ ahead r n.pair c.to
          no_ahead f =
              ap not (subst (λ x. is_eq (rank (keyed c.to) x) ≡ true) (sym (n.key ∙ ap keyed f)) (self_ties _ _ _ _ (orders c.to c.to) (irr r c.to) (irr r c.to))) ∙
              sym (subst (λ (z : Pair). ahead r z c.to ≡ false) (sym f) (not_self r c.to))

      pub go_on : (us : List (Element K Request)) → Drained rank e.key ws us → Going r keyed ps space room k ys p us
      unfolding later test
      go_on us d =
          record {
            others = n.rest;
            rows = v.rows ∙ ap (λ l. ys ++ l) n.is;
            count = v.count;
            bag =
                subst₂ (λ l m. Bag l m)
                (filter-append test d.gone us ∙ ap₂ ◌++◌ (kept_none test d.gone (λ y m. ap not (all_among (λ y. is_eq (rank y.key e.key) ≡ true) d.gone d.ties y m))) (kept_all test us (λ y m. ap not (all_among (λ y. is_eq (rank y.key e.key) ≡ false) us d.apart y m))))
                (kept_map test (element keyed) (waiting r ys) ∙ ap (elements keyed) (kept_same (λ c. test (element keyed c)) (λ c. ahead r p c.to) (waiting r ys) test_is))
                (bag_kept test (d.gone ++ us) (elements keyed (waiting r ys)) (bag_trans (d.gone ++ us) ws _ (bag_sym _ _ (shuffled_bag _ _ d.rest)) v.bag));
            small = omega (arith, v.small, bag_length _ _ (shuffled_bag _ _ d.rest), length-append d.gone us);
            fits = v.fits;
            from = among_left ys (p ∷ []) (start r) v.from;
          }
