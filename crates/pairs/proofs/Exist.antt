-- A run has rows, and just one list of them.
use Rattle.std.proofs.Common.{◌≡◌, ℕ, zero, suc, ◌<◌, ◌≤◌, Bool, true, false, ◌⊎◌, List, [], ◌∷◌, ◌++◌, map, length, filter, sym, refl, ap, ◌∙◌, subst, ap₂, inl, inr, ⊎_elim, arith}
use mathlib.Core.Path.{subst⁻¹}
use Rattle.std.proofs.lemmas.Bool.{cases_Bool, cond-true, cond-false, true≢false, and_parts, and_from, and_right}
use Rattle.listing.specs.declared.Target.{Target}
use Rattle.listing.specs.declared.Target.TheVariants.{Node, False, True}
use Rattle.listing.specs.declared.Record.{Record}
use Rattle.pairs.specs.declared.Pair.{Pair}
use Rattle.listing.specs.Listing.{node, Within}
use Rattle.listing.specs.Members.{In}
use Rattle.pairs.specs.Pairs.{Run, Sides, kid, start, opens, Open, ahead, Ahead}
use Rattle.pairs.specs.Rows.{Ascending, Reached, at_root, by_arc, Rows, Arc, beyond, waiting}
use Rattle.pairs.proofs.Model.{least}
use Rattle.pairs.proofs.PairOrder.{irr, trans, not_self}
use Rattle.pairs.proofs.Pairs.{kid_ahead, fine}
use Rattle.pairs.proofs.Lists.{among_left, among_right, among_cases}
use Rattle.pairs.proofs.Cuts.{beyond_push, beyond_each, each_beyond, waits_in, in_waits, Wanted, least_wanted, least_first}

module _ {A : Type 0} (f g : A → Bool) where
  one_more : (x : A) (xs : List A) → f x ≡ true → length (filter f (x ∷ xs)) ≡ suc (length (filter f xs))
  one_more x xs e = ap length (cond-true _ _ _ e)

  no_more : (x : A) (xs : List A) → f x ≡ false → length (filter f (x ∷ xs)) ≡ length (filter f xs)
  no_more x xs e = ap length (cond-false _ _ _ e)

module _ {A : Type 0} (f g : A → Bool) (h : (x : A) → g x ≡ true → f x ≡ true) where
  kept_le : (xs : List A) → length (filter g xs) ≤ length (filter f xs)
  kept_le [] = omega arith
  kept_le (x ∷ xs) = by (kept_le xs) (cases_Bool (g x)) (cases_Bool (f x))
    where
      by : length (filter g xs) ≤ length (filter f xs) → (g x ≡ true) ⊎ (g x ≡ false) → (f x ≡ true) ⊎ (f x ≡ false) → length (filter g (x ∷ xs)) ≤ length (filter f (x ∷ xs))
      by ih (inl e) d = omega (arith, one_more g f x xs e, one_more f g x xs (h x e))
      by ih (inr e) (inl d) = omega (arith, no_more g f x xs e, one_more f g x xs d)
      by ih (inr e) (inr d) = omega (arith, no_more g f x xs e, no_more f g x xs d)

  kept_lt : (xs : List A) (x : A) → In x xs → f x ≡ true → g x ≡ false → length (filter g xs) < length (filter f xs)
  kept_lt [] x m a b = absurd m
  kept_lt (y ∷ xs) x (inl e) a b = omega (arith, no_more g f y xs (ap g (sym e) ∙ b), one_more f g y xs (ap f (sym e) ∙ a), kept_le xs)
  kept_lt (y ∷ xs) x (inr m) a b = by (kept_lt xs x m a b) (cases_Bool (g y)) (cases_Bool (f y))
    where
      by : length (filter g xs) < length (filter f xs) → (g y ≡ true) ⊎ (g y ≡ false) → (f y ≡ true) ⊎ (f y ≡ false) → length (filter g (y ∷ xs)) < length (filter f (y ∷ xs))
      by ih (inl e) d = omega (arith, one_more g f y xs e, one_more f g y xs (h y e))
      by ih (inr e) (inl d) = omega (arith, no_more g f y xs e, one_more f g y xs d)
      by ih (inr e) (inr d) = omega (arith, no_more g f y xs e, no_more f g y xs d)

-- all targets of a listing, and all pairs of two lists of targets
all_targets : List Record → List Target
all_targets [] = False ∷ True ∷ []
all_targets (r ∷ rs) = node r ∷ all_targets rs

false_in : (rs : List Record) → In False (all_targets rs)
unfolding all_targets
false_in [] = inl refl
false_in (r ∷ rs) = inr (false_in rs)

true_in : (rs : List Record) → In True (all_targets rs)
unfolding all_targets
true_in [] = inr (inl refl)
true_in (r ∷ rs) = inr (true_in rs)

node_in : (rs : List Record) (r : Record) → In r rs → In (node r) (all_targets rs)
unfolding all_targets
node_in [] r m = absurd m
node_in (q ∷ rs) r (inl e) = inl (ap node e)
node_in (q ∷ rs) r (inr m) = inr (node_in rs r m)

over_in : (rs : List Record) (t : Target) → Within rs t → In t (all_targets rs)
over_in rs (Node l k) o = subst (λ t. In t (all_targets rs)) o.2 (node_in rs o.0 o.1)
over_in rs False o = false_in rs
over_in rs True o = true_in rs

abbrev pair : Target → Target → Pair
pair t u = record { left = t; right = u }

all_pairs : List Target → List Target → List Pair
all_pairs [] us = []
all_pairs (t ∷ ts) us = map (pair t) us ++ all_pairs ts us

map_among : (t x : Target) (us : List Target) (u : Target) → t ≡ x → In u us → In (pair t u) (map (pair x) us)
map_among t x [] u e m = absurd m
map_among t x (v ∷ us) u e (inl f) = inl (ap₂ pair e f)
map_among t x (v ∷ us) u e (inr m) = inr (map_among t x us u e m)

pairs_in : (ts us : List Target) (t u : Target) → In t ts → In u us → In (pair t u) (all_pairs ts us)
unfolding all_pairs
pairs_in [] us t u m k = absurd m
pairs_in (x ∷ ts) us t u (inl e) k = among_left (map (pair x) us) _ _ (map_among t x us u e k)
pairs_in (x ∷ ts) us t u (inr m) k = among_right (map (pair x) us) _ _ (pairs_in ts us t u m k)

module _ (r : Run) where
  pub ascending_push : (xs : List Pair) (p : Pair) → Ascending r xs → ((x : Pair) → In x xs → Ahead r x p) → Ascending r (xs ++ (p ∷ []))
  ascending_push [] p a h = ((λ q m. absurd m), tt)
  ascending_push (x ∷ xs) p a h = (
    (λ q m. ⊎_elim (λ k. a.0 q k) (λ k. ⊎_elim (λ e. subst⁻¹ (Ahead r x) e (h x (inl refl))) (λ e. absurd e) k) (among_cases xs (p ∷ []) q m)),
    ascending_push xs p a.1 (λ y m. h y (inr m)),
  )

  module _ (ok : Sides r) where
    all : List Pair
    all = all_pairs (all_targets r.left.records) (all_targets r.right.records)

    reached_in : (p : Pair) → Reached r p → In p all
    unfolding all
    reached_in p h = let g = fine r ok p h in pairs_in _ _ p.left p.right (over_in _ p.left g.0.0) (over_in _ p.right g.1.0)

    -- how many pairs are left beyond the rows
    left_over : List Pair → ℕ
    left_over xs = length (filter (beyond r xs) all)

    left_falls : (xs : List Pair) (p : Pair) → Reached r p → beyond r xs p ≡ true → left_over (xs ++ (p ∷ [])) < left_over xs
    unfolding left_over
    left_falls xs p h e =
        kept_lt (beyond r xs) (beyond r (xs ++ (p ∷ []))) (λ q g. (and_parts (beyond r xs q) (ahead r p q) (sym (beyond_push r xs p q) ∙ g)).0) all p (reached_in p h) e
        (beyond_push r xs p p ∙ and_right _ _ (not_self r p))

    -- what the rows so far keep
    record Front (xs : List Pair) : Type 0 where
      asc : Ascending r xs
      sound : (x : Pair) → In x xs → Reached r x × Open r x
      starts : In (start r) xs
      shut : (x : Pair) → In x xs → (b : Bool) → Open r (kid r b x) → In (kid r b x) xs ⊎ (beyond r xs (kid r b x) ≡ true)

    front_start : Open r (start r) → Front (start r ∷ [])
    front_start o =
        record {
          asc = ((λ q m. absurd m), tt);
          sound = λ x m. ⊎_elim (λ e. (at_root e, subst⁻¹ (Open r) e o)) (λ e. absurd e) m;
          starts = inl refl;
          shut = λ x m b k. inr (each_beyond r (start r ∷ []) (kid r b x) (λ y j. ⊎_elim (λ e. ⊎_elim (λ f. subst⁻¹ (λ (z : Pair). Ahead r z (kid r b x)) (e ∙ sym f) (kid_ahead r ok x (at_root f) (subst⁻¹ (Open r) f o) b)) (λ f. absurd f) m) (λ e. absurd e) j));
        }

    front_end : (xs : List Pair) → Front xs → waiting r xs ≡ [] → Rows r xs
    front_end xs v e =
        record { ascending = v.asc; sound = v.sound; full = reach }
      where
        reach : (p : Pair) → Reached r p → Open r p → In p xs
        reach p (at_root f) o = subst⁻¹ (λ (z : Pair). In z xs) f v.starts
        reach p (by_arc q b h k f) o =
            let m = reach q h k in
            let n = subst (Open r) f o in
            subst⁻¹ (λ (z : Pair). In z xs) f
            (⊎_elim (λ j. j) (λ j. absurd (let w = in_waits r xs q m b n j in subst (In w.0) e w.1)) (v.shut q m b n))

    module _ (xs : List Pair) (v : Front xs) (a : Arc) (ws : List Arc) (e : waiting r xs ≡ a ∷ ws) where
      p : Pair
      p = least r a.to ws

      -- what the least waiting pair is
      record Next : Type 0 where
        reached : Reached r p
        opened : Open r p
        past : beyond r xs p ≡ true

      next_of : (c : Arc) → In c (waiting r xs) → p ≡ c.to → Next
      next_of c m f =
          let w = waits_in r xs c m in
          let s = v.sound w.0.parent w.0.among in
          record { reached = by_arc w.0.parent w.0.bit s.0 s.1 (f ∙ w.0.is); opened = subst⁻¹ (Open r) f w.0.isopen; past = ap (beyond r xs) f ∙ w.1 }

      is_next : Next
      unfolding p
      is_next =
          ⊎_elim (λ f. next_of a (subst⁻¹ (In a) e (inl refl)) f) (λ k. next_of k.0 (subst⁻¹ (In k.0) e (inr k.1)) k.2) (least_wanted r a.to ws)

      up : (x : Pair) → In x xs → Ahead r x p
      up = beyond_each r xs p is_next.past

      front_more : Front (xs ++ (p ∷ []))
      unfolding p
      front_more =
          record {
            asc = ascending_push xs p v.asc up;
            sound = λ x m. ⊎_elim (v.sound x) (λ k. ⊎_elim (λ f. subst⁻¹ (λ (z : Pair). Reached r z × Open r z) f (is_next.reached, is_next.opened)) (λ f. absurd f) k) (among_cases xs (p ∷ []) x m);
            starts = among_left xs (p ∷ []) (start r) v.starts;
            shut = λ x m b o. ⊎_elim (old x b o) (λ k. ⊎_elim (λ f. inr (own x b f)) (λ f. absurd f) k) (among_cases xs (p ∷ []) x m);
          }
        where
          own : (x : Pair) (b : Bool) → x ≡ p → beyond r (xs ++ (p ∷ [])) (kid r b x) ≡ true
          own x b f =
              let k : Ahead r p (kid r b x) = subst⁻¹ (λ (z : Pair). Ahead r p (kid r b z)) f (kid_ahead r ok p is_next.reached is_next.opened b) in
              beyond_push r xs p (kid r b x) ∙ and_from _ _ (each_beyond r xs (kid r b x) (λ y j. trans r y p (kid r b x) (up y j) k)) k

          wanted : (c : Arc) (q : Pair) → c.to ≡ q → In c (a ∷ ws) → Wanted r a.to ws q
          wanted c q f (inl g) = inl (sym f ∙ ap (λ (z : Arc). z.to) g)
          wanted c q f (inr m) = inr (c, m, sym f)

          old : (x : Pair) (b : Bool) → Open r (kid r b x) → In x xs → In (kid r b x) (xs ++ (p ∷ [])) ⊎ (beyond r (xs ++ (p ∷ [])) (kid r b x) ≡ true)
          old x b o m =
              ⊎_elim (λ k. inl (among_left xs (p ∷ []) _ k))
              (λ k.
              let w = in_waits r xs x m b o k in
              ⊎_elim (λ h. inr (beyond_push r xs p (kid r b x) ∙ and_from _ _ k h)) (λ f. inl (among_right xs (p ∷ []) _ (inl (sym f))))
              (least_first r a.to ws (kid r b x) (wanted w.0 (kid r b x) w.2 (subst (In w.0) e w.1))))
              (v.shut x m b o)

    grow : (fuel : ℕ) (xs : List Pair) → Front xs → left_over xs < fuel → (ps : List Pair) × Rows r ps
    grow zero xs v l = absurd (omega arith)
    grow (suc k) xs v l = by (λ ys u j. grow k ys u j) (waiting r xs) refl
      where
        by : ((ys : List Pair) → Front ys → left_over ys < k → (ps : List Pair) × Rows r ps) → (ws : List Arc) → waiting r xs ≡ ws → (ps : List Pair) × Rows r ps
        by ih [] e = (xs, front_end xs v e)
        by ih (a ∷ ws) e =
            let n = is_next xs v a ws e in
            let f = left_falls xs (p xs v a ws e) n.reached n.past in
            ih (xs ++ (p xs v a ws e ∷ [])) (front_more xs v a ws e) (omega arith)

    pub shut_rows : opens r.operator (start r) ≡ false → Rows r []
    shut_rows c = record { ascending = tt; sound = λ p m. absurd m; full = none }
      where
        shuts : (p : Pair) → Reached r p → opens r.operator p ≡ true → ⊥
        shuts p (at_root e) o = true≢false (sym o ∙ ap (opens r.operator) e ∙ c)
        shuts p (by_arc q b h k e) o = shuts q h k

        none : (p : Pair) → Reached r p → Open r p → ⊥
        none p h o = shuts p h o

    pub rows_are : (ps : List Pair) × Rows r ps
    rows_are = ⊎_elim (λ o. grow (suc (left_over (start r ∷ []))) (start r ∷ []) (front_start o) (omega arith)) (λ c. ([], shut_rows c)) (cases_Bool (opens r.operator (start r)))

  -- ascending lists with the same members are equal
  heads : (x : Pair) (xs : List Pair) (y : Pair) (ys : List Pair) → ((q : Pair) → In q xs → Ahead r x q) → ((q : Pair) → In q ys → Ahead r y q) → In x (y ∷ ys) → In y (x ∷ xs) → x ≡ y
  heads x xs y ys ex ey (inl e) k = e
  heads x xs y ys ex ey (inr m) (inl e) = sym e
  heads x xs y ys ex ey (inr m) (inr k) = absurd (irr r x (trans r x y x (ex y k) (ey x m)))

  tails : (x : Pair) (xs : List Pair) (y : Pair) (ys : List Pair) → x ≡ y → ((q : Pair) → In q xs → Ahead r x q) → ((q : Pair) → In q (x ∷ xs) → In q (y ∷ ys)) → (q : Pair) → In q xs → In q ys
  tails x xs y ys e ex w q m = ⊎_elim (λ f. absurd (irr r x (subst (Ahead r x) (f ∙ sym e) (ex q m)))) (λ k. k) (w q (inr m))

  same_members : (xs ys : List Pair) → Ascending r xs → Ascending r ys → ((q : Pair) → In q xs → In q ys) → ((q : Pair) → In q ys → In q xs) → xs ≡ ys
  same_members [] [] a b f g = refl
  same_members [] (y ∷ ys) a b f g = absurd (g y (inl refl))
  same_members (x ∷ xs) [] a b f g = absurd (f x (inl refl))
  same_members (x ∷ xs) (y ∷ ys) a b f g =
      let e = heads x xs y ys a.0 b.0 (f x (inl refl)) (g y (inl refl)) in
      ap₂ ◌∷◌ e (same_members xs ys a.1 b.1 (tails x xs y ys e a.0 f) (tails y ys x xs (sym e) b.0 g))

  pub rows_alone : (ps qs : List Pair) → Rows r ps → Rows r qs → ps ≡ qs
  rows_alone ps qs v w =
      same_members ps qs v.ascending w.ascending (λ q m. let s = v.sound q m in w.full q s.0 s.1) (λ q m. let s = w.sound q m in v.full q s.0 s.1)
