-- The arcs that wait behind a front of the rows.
use Rattle.std.proofs.Common.{◌≡◌, ℕ, suc, ◌+◌, Bool, true, false, cond, ◌&&◌, ◌⊎◌, List, [], ◌∷◌, ◌++◌, length, filter, sym, refl, ap, ◌∙◌, subst, ap₂, inl, inr, ⊎_elim, arith}
use mathlib.Core.Path.{subst⁻¹}
use Rattle.std.proofs.lemmas.List.{append_assoc}
use Rattle.std.proofs.lemmas.List.Elements.{filter-append}
use Rattle.std.proofs.lemmas.Bool.{cases_Bool, cond-true, cond-false, false≢true, and_parts, and_from}
use Rattle.pairs.specs.declared.Pair.{Pair}
use Rattle.listing.specs.Members.{In}
use Rattle.pairs.specs.Pairs.{Run, Sides, kid, opens, Open, ahead, Ahead}
use Rattle.pairs.specs.Rows.{Reached, Arc, arc, arcs, beyond, waiting}
use Rattle.pairs.proofs.Model.{least, later}
use Rattle.pairs.proofs.PairOrder.{irr, trans, total}
use Rattle.pairs.proofs.Pairs.{kid_ahead}
use Rattle.pairs.proofs.Lists.{among_left, among_right, among_cases, kept_same, kept_all, kept_among, among_kept, kept_kept}

and_true : (b : Bool) → (b && true) ≡ b
and_true true = refl
and_true false = refl

and_assoc : (a b c : Bool) → (a && (b && c)) ≡ ((a && b) && c)
and_assoc true b c = refl
and_assoc false b c = refl

module _ (r : Run) where
  pub beyond_push : (xs : List Pair) (p q : Pair) → beyond r (xs ++ (p ∷ [])) q ≡ (beyond r xs q && ahead r p q)
  unfolding beyond
  beyond_push [] p q = and_true _
  beyond_push (x ∷ xs) p q = ap (λ b. ahead r x q && b) (beyond_push xs p q) ∙ and_assoc (ahead r x q) (beyond r xs q) (ahead r p q)

  pub beyond_each : (xs : List Pair) (q : Pair) → beyond r xs q ≡ true → (x : Pair) → In x xs → Ahead r x q
  unfolding beyond
  beyond_each [] q e x m = absurd m
  beyond_each (y ∷ xs) q e x (inl f) = subst⁻¹ (λ (z : Pair). Ahead r z q) f (and_parts (ahead r y q) (beyond r xs q) e).0
  beyond_each (y ∷ xs) q e x (inr m) = beyond_each xs q (and_parts (ahead r y q) (beyond r xs q) e).1 x m

  pub each_beyond : (xs : List Pair) (q : Pair) → ((x : Pair) → In x xs → Ahead r x q) → beyond r xs q ≡ true
  unfolding beyond
  each_beyond [] q h = refl
  each_beyond (y ∷ xs) q h = and_from _ _ (h y (inl refl)) (each_beyond xs q (λ x m. h x (inr m)))

  pub arcs_append : (k : ℕ) (xs ys : List Pair) → arcs r k (xs ++ ys) ≡ arcs r k xs ++ arcs r (length xs + k) ys
  unfolding arcs
  arcs_append k [] ys = ap (λ n. arcs r n ys) (omega arith)
  arcs_append k (x ∷ xs) ys =
      ap (λ l. arc r k x false ++ (arc r k x true ++ l)) (arcs_append (suc k) xs ys ∙ ap (λ n. arcs r (suc k) xs ++ arcs r n ys) (omega arith)) ∙
      ap (λ l. arc r k x false ++ l) (sym (append_assoc (arc r k x true) (arcs r (suc k) xs) _)) ∙
      sym (append_assoc (arc r k x false) (arc r k x true ++ arcs r (suc k) xs) _)

  arc_in : (k : ℕ) (x : Pair) (b : Bool) (a : Arc) → In a (arc r k x b) → (a.to ≡ kid r b x) × Open r (kid r b x)
  unfolding arc
  arc_in k x b a m = by (cases_Bool (opens r.operator (kid r b x)))
    where
      here : Arc
      here = record { row = k; high = b; to = kid r b x }

      by : (opens r.operator (kid r b x) ≡ true) ⊎ (opens r.operator (kid r b x) ≡ false) → (a.to ≡ kid r b x) × Open r (kid r b x)
      by (inl o) = ⊎_elim (λ e. (ap (λ (z : Arc). z.to) e, o)) (λ e. absurd e) (subst (In a) (cond-true (opens r.operator (kid r b x)) (here ∷ []) [] o) m)
      by (inr c) = absurd (subst (In a) (cond-false (opens r.operator (kid r b x)) (here ∷ []) [] c) m)

  -- where an arc comes from
  pub record From (xs : List Pair) (q : Pair) : Type 0 where
    pub parent : Pair
    pub bit : Bool
    pub among : In parent xs
    pub is : q ≡ kid r bit parent
    pub isopen : Open r q

  pub arcs_in : (k : ℕ) (xs : List Pair) (a : Arc) → In a (arcs r k xs) → From xs a.to
  unfolding arcs
  arcs_in k [] a m = absurd m
  arcs_in k (x ∷ xs) a m = ⊎_elim (one false) (λ j. ⊎_elim (one true) (λ i. more (arcs_in (suc k) xs a i)) (among_cases (arc r k x true) (arcs r (suc k) xs) a j)) (among_cases (arc r k x false) (arc r k x true ++ arcs r (suc k) xs) a m)
    where
      one : (b : Bool) → In a (arc r k x b) → From (x ∷ xs) a.to
      one b j = let e = arc_in k x b a j in record { parent = x; bit = b; among = inl refl; is = e.0; isopen = subst⁻¹ (Open r) e.0 e.1 }

      more : From xs a.to → From (x ∷ xs) a.to
      more f = record { parent = f.parent; bit = f.bit; among = inr f.among; is = f.is; isopen = f.isopen }

  in_arc : (k : ℕ) (x : Pair) (b : Bool) → Open r (kid r b x) → In (record { row = k; high = b; to = kid r b x }) (arc r k x b)
  unfolding arc
  in_arc k x b o = subst⁻¹ (In _) (cond-true _ _ _ o) (inl refl)

  pub in_arcs : (k : ℕ) (xs : List Pair) (x : Pair) → In x xs → (b : Bool) → Open r (kid r b x) → (a : Arc) × In a (arcs r k xs) × (a.to ≡ kid r b x)
  unfolding arcs
  in_arcs k [] x m b o = absurd m
  in_arcs k (y ∷ xs) x (inl e) false o =
      let f = ap (kid r false) (sym e) in
      (record { row = k; high = false; to = kid r false y }, among_left _ _ _ (in_arc k y false (subst⁻¹ (Open r) f o)), f)
  in_arcs k (y ∷ xs) x (inl e) true o =
      let f = ap (kid r true) (sym e) in
      (record { row = k; high = true; to = kid r true y }, among_right (arc r k y false) _ _ (among_left _ _ _ (in_arc k y true (subst⁻¹ (Open r) f o))), f)
  in_arcs k (y ∷ xs) x (inr m) b o =
      let w = in_arcs (suc k) xs x m b o in
      (w.0, among_right (arc r k y false) _ _ (among_right (arc r k y true) _ _ w.1), w.2)

  -- what waits: the open pairs beyond the rows that arcs lead to
  pub waits_in : (xs : List Pair) (a : Arc) → In a (waiting r xs) → From xs a.to × (beyond r xs a.to ≡ true)
  unfolding waiting
  waits_in xs a m =
      let k = kept_among (λ (a : Arc). beyond r xs a.to) (arcs r 0 xs) a m in
      (arcs_in 0 xs a k.0, k.1)

  pub in_waits : (xs : List Pair) (x : Pair) → In x xs → (b : Bool) → Open r (kid r b x) → beyond r xs (kid r b x) ≡ true → (a : Arc) × In a (waiting r xs) × (a.to ≡ kid r b x)
  unfolding waiting
  in_waits xs x m b o e =
      let w = in_arcs 0 xs x m b o in
      (w.0, among_kept (λ (a : Arc). beyond r xs a.to) (arcs r 0 xs) w.0 w.1 (ap (beyond r xs) w.2 ∙ e), w.2)

  -- one more row: what waited beyond it, and its own arcs
  pub waits_more : Sides r → (xs : List Pair) (p : Pair) → Reached r p → Open r p → ((x : Pair) → In x xs → Ahead r x p) →
      waiting r (xs ++ (p ∷ [])) ≡ later r p (waiting r xs) ++ arcs r (length xs) (p ∷ [])
  unfolding waiting later
  waits_more ok xs p h o up =
      let f : Arc → Bool = λ a. beyond r (xs ++ (p ∷ [])) a.to in
      let new = arcs r (length xs) (p ∷ []) in
      ap (filter f) (arcs_append 0 xs (p ∷ []) ∙ ap (λ n. arcs r 0 xs ++ arcs r n (p ∷ [])) (omega arith)) ∙
      filter-append f (arcs r 0 xs) new ∙
      ap₂ ◌++◌
      (kept_same f (λ a. beyond r xs a.to && ahead r p a.to) (arcs r 0 xs) (λ a m. beyond_push xs p a.to) ∙
      kept_kept (λ (a : Arc). beyond r xs a.to) (λ (a : Arc). ahead r p a.to) (arcs r 0 xs))
      (kept_all f new (λ a m.
      let w = arcs_in (length xs) (p ∷ []) a m in
      let g : w.parent ≡ p = ⊎_elim (λ e. e) (λ e. absurd e) w.among in
      let k : Ahead r p a.to = subst⁻¹ (Ahead r p) (w.is ∙ ap (kid r w.bit) g) (kid_ahead r ok p h o w.bit) in
      beyond_push xs p a.to ∙ and_from _ _ (each_beyond xs a.to (λ x j. trans r x p a.to (up x j) k)) k))

  -- p, or a pair that an arc waits for
  abbrev pub Wanted : Pair → List Arc → Pair → Type 0
  Wanted p ws q = (q ≡ p) ⊎ ((a : Arc) × In a ws × (q ≡ a.to))

  -- p is q, or ahead of it
  abbrev pub NotAfter : Pair → Pair → Type 0
  NotAfter p q = Ahead r p q ⊎ (p ≡ q)

  not_after_trans : (p q s : Pair) → NotAfter p q → NotAfter q s → NotAfter p s
  not_after_trans p q s (inl h) (inl g) = inl (trans r p q s h g)
  not_after_trans p q s (inl h) (inr e) = inl (subst (Ahead r p) e h)
  not_after_trans p q s (inr e) (inl g) = inl (subst⁻¹ (λ (z : Pair). Ahead r z s) e g)
  not_after_trans p q s (inr e) (inr f) = inr (e ∙ f)

  pub not_after_both : (p q : Pair) → NotAfter p q → NotAfter q p → p ≡ q
  not_after_both p q (inl h) (inl g) = absurd (irr r p (trans r p q p h g))
  not_after_both p q (inl h) (inr e) = sym e
  not_after_both p q (inr e) g = e

  -- the lesser of two
  lesser : Pair → Pair → Pair
  lesser q p = cond (ahead r q p) q p

  lesser_is : (q p : Pair) → (lesser q p ≡ q) ⊎ (lesser q p ≡ p)
  unfolding lesser
  lesser_is q p = ⊎_elim (λ e. inl (cond-true _ _ _ e)) (λ e. inr (cond-false _ _ _ e)) (cases_Bool (ahead r q p))

  lesser_first : (q p : Pair) → NotAfter (lesser q p) q × NotAfter (lesser q p) p
  unfolding lesser
  lesser_first q p =
      ⊎_elim (λ e. subst⁻¹ (λ (z : Pair). NotAfter z q × NotAfter z p) (cond-true _ _ _ e) (inr refl, inl e))
      (λ e. subst⁻¹ (λ (z : Pair). NotAfter z q × NotAfter z p) (cond-false _ _ _ e)
      (⊎_elim (λ h. inl h) (λ k. ⊎_elim (λ g. inr g) (λ h. absurd (false≢true (sym e ∙ h))) k) (total r p q), inr refl))
      (cases_Bool (ahead r q p))

  pub least_wanted : (p : Pair) (ws : List Arc) → Wanted p ws (least r p ws)
  unfolding least lesser
  least_wanted p [] = inl refl
  least_wanted p (a ∷ ws) =
      ⊎_elim (λ e. ⊎_elim (λ f. inr (a, inl refl, e ∙ f)) (λ f. inl (e ∙ f)) (lesser_is a.to p))
      (λ k. inr (k.0, inr k.1, k.2))
      (least_wanted (lesser a.to p) ws)

  pub least_first : (p : Pair) (ws : List Arc) (q : Pair) → Wanted p ws q → NotAfter (least r p ws) q
  unfolding least lesser
  least_first p [] q (inl e) = inr (sym e)
  least_first p [] q (inr k) = absurd k.1
  least_first p (a ∷ ws) q (inl e) =
      not_after_trans _ (lesser a.to p) q (least_first (lesser a.to p) ws (lesser a.to p) (inl refl)) (subst⁻¹ (NotAfter _) e (lesser_first a.to p).1)
  least_first p (a ∷ ws) q (inr k) =
      ⊎_elim
      (λ f. not_after_trans _ (lesser a.to p) q (least_first (lesser a.to p) ws (lesser a.to p) (inl refl))
      (subst⁻¹ (NotAfter _) (k.2 ∙ ap (λ (z : Arc). z.to) f) (lesser_first a.to p).0))
      (λ j. least_first (lesser a.to p) ws q (inr (k.0, j, k.2)))
      k.1
