-- The model of the sweep comes out right.
use Rattle.std.proofs.Common.{◌≡◌, ℕ, zero, suc, ◌+◌, ◌<◌, true, false, ltb, List, [], ◌∷◌, ◌++◌, length, take, sym, refl, ap, ◌∙◌, subst, inl, inr, ⊎_elim, arith}
use mathlib.Core.Path.{subst⁻¹}
use Rattle.std.proofs.lemmas.List.{append_assoc, append-nil, length-append, take_at}
use Rattle.std.proofs.lemmas.Bool.{cases_eq, cond_both, ltb-true, ltb-false}
use Rattle.pairs.specs.declared.Pair.{Pair}
use Rattle.listing.specs.Members.{In}
use Rattle.pairs.specs.Pairs.{Run, Sides, start, opens, Open, Ahead}
use Rattle.pairs.specs.Rows.{Ascending, Reached, at_root, by_arc, Rows, Arc, arcs, beyond, waiting, cut, done, queue_full, Fits, Comes}
use Rattle.pairs.proofs.Model.{least, later, Result, next, enter, sweep, ModelRight}
use Rattle.pairs.proofs.PairOrder.{irr, trans}
use Rattle.pairs.proofs.Pairs.{kid_ahead}
use Rattle.pairs.proofs.Lists.{among_left, among_right, among_cases}
use Rattle.pairs.proofs.RowsList.{split_left, split_right, head_start}
use Rattle.pairs.proofs.Cuts.{beyond_each, each_beyond, waits_in, in_waits, waits_more, Wanted, NotAfter, not_after_both, least_wanted, least_first}
use Rattle.pairs.proofs.Exist.{rows_alone, shut_rows}

module _ (r : Run) (ok : Sides r) (ps : List Pair) (w : Rows r ps) where
  -- what waits behind rows ys is of the other rows
  wait_rest : (ys zs : List Pair) → ps ≡ ys ++ zs → (c : Arc) → In c (waiting r ys) → In c.to zs
  wait_rest ys zs e c m =
      let k = waits_in r ys c m in
      let f = k.0 in
      let s = w.sound f.parent (subst⁻¹ (In f.parent) e (among_left ys zs f.parent f.among)) in
      let h = w.full c.to (by_arc f.parent f.bit s.0 s.1 f.is) f.isopen in
      ⊎_elim (λ j. absurd (irr r c.to (beyond_each r ys c.to k.1 c.to j))) (λ j. j) (among_cases ys zs c.to (subst (In c.to) e h))

  -- the next row waits
  next_waits : (ys : List Pair) (q : Pair) (zs : List Pair) → ps ≡ ys ++ (q ∷ zs) → In (start r) ys → (c : Arc) × In c (waiting r ys) × (c.to ≡ q)
  next_waits ys q zs e m = by s.0
    where
      a : Ascending r (ys ++ (q ∷ zs))
      a = subst (Ascending r) e w.ascending

      s : Reached r q × Open r q
      s = w.sound q (subst⁻¹ (In q) e (among_right ys (q ∷ zs) q (inl refl)))

      by : Reached r q → (c : Arc) × In c (waiting r ys) × (c.to ≡ q)
      by (at_root f) = absurd (irr r q (subst (λ (z : Pair). Ahead r z q) (sym f) (split_left r ys q zs a (start r) m)))
      by (by_arc p b k o f) =
          let g : Ahead r p q = subst⁻¹ (Ahead r p) f (kid_ahead r ok p k o b) in
          ⊎_elim
          (λ j.
          let c = in_waits r ys p j b (subst (Open r) f s.1) (subst (λ (z : Pair). beyond r ys z ≡ true) f (each_beyond r ys q (split_left r ys q zs a))) in
          (c.0, c.1, c.2 ∙ sym f))
          (λ j. absurd (⊎_elim (λ i. irr r q (subst (λ (z : Pair). Ahead r z q) i g)) (λ i. irr r p (trans r p q p g (split_right r ys q zs a p i))) j))
          (among_cases ys (q ∷ zs) p (subst (In p) e (w.full p k o)))

  pub no_next : (ys zs : List Pair) → ps ≡ ys ++ zs → In (start r) ys → waiting r ys ≡ [] → zs ≡ []
  no_next ys [] e m n = refl
  no_next ys (q ∷ zs) e m n = absurd (let c = next_waits ys q zs e m in subst (In c.0) n c.1)

  -- a pair that waits, and that none waits before, is the next row
  pub next_is : (ys zs : List Pair) → ps ≡ ys ++ zs → In (start r) ys → (p : Pair) (d : Arc) → In d (waiting r ys) → p ≡ d.to →
      ((c : Arc) → In c (waiting r ys) → NotAfter r p c.to) → (xs : List Pair) × (zs ≡ p ∷ xs)
  next_is ys [] e m p d k f low = absurd (wait_rest ys [] e d k)
  next_is ys (q ∷ zs) e m p d k f low = (zs, ap (λ z. z ∷ zs) (not_after_both r q p behind ahead))
    where
      behind : NotAfter r q p
      behind =
          subst⁻¹ (NotAfter r q) f (⊎_elim (λ f. inr (sym f)) (λ j. inl (split_right r ys q zs (subst (Ascending r) e w.ascending) d.to j)) (wait_rest ys (q ∷ zs) e d k))

      ahead : NotAfter r p q
      ahead = let c = next_waits ys q zs e m in subst (NotAfter r p) c.2 (low c.0 c.1)

  some_next : (ys zs : List Pair) → ps ≡ ys ++ zs → In (start r) ys → (a : Arc) (us : List Arc) → waiting r ys ≡ a ∷ us → (xs : List Pair) × (zs ≡ least r a.to us ∷ xs)
  some_next ys zs e m a us n = by (least_wanted r a.to us)
    where
      p : Pair
      p = least r a.to us

      low : (c : Arc) → In c (waiting r ys) → NotAfter r p c.to
      low c k = least_first r a.to us c.to (⊎_elim (λ g. inl (ap (λ (z : Arc). z.to) g)) (λ j. inr (c, j, refl)) (subst (In c) n k))

      by : Wanted r a.to us p → (xs : List Pair) × (zs ≡ p ∷ xs)
      by (inl f) = next_is ys zs e m p a (subst⁻¹ (In a) n (inl refl)) f low
      by (inr k) = next_is ys zs e m p k.0 (subst⁻¹ (In k.0) n (inr k.1)) k.2 low

  module _ (space capacity : ℕ) where
    abbrev Right : Result → Type 0
    Right x = Comes r ps space capacity x.came × (x.rows ≡ take (length x.rows) ps) × (x.came ≡ done → x.rows ≡ ps)

    front : (xs zs : List Pair) → ps ≡ xs ++ zs → xs ≡ take (length xs) ps
    front xs zs e = sym (ap (take (length xs)) e ∙ take_at xs zs (length xs) refl)

    pub grown : (xs : List Pair) (p : Pair) → length (xs ++ (p ∷ [])) ≡ suc (length xs)
    grown xs p = omega (arith, length-append xs (p ∷ []))

    -- the cut after a row is what waits behind it
    pub cut_is : (xs : List Pair) (p : Pair) (zs : List Pair) → ps ≡ (xs ++ (p ∷ [])) ++ zs → cut r ps (length xs) ≡ length (waiting r (xs ++ (p ∷ [])))
    unfolding cut
    cut_is xs p zs e = ap (λ l. length (waiting r l)) (ap (take (suc (length xs))) e ∙ take_at (xs ++ (p ∷ [])) zs (suc (length xs)) (grown xs p))

    -- what holds when the row of p is to be opened behind rows xs
    record Ready (left : ℕ) (xs : List Pair) (p : Pair) (zs : List Pair) (ws : List Arc) : Type 0 where
      rows : ps ≡ xs ++ (p ∷ zs)
      wait : ws ≡ later r p (waiting r xs)
      free : left + length xs ≡ space
      fits : (j : ℕ) → j < length xs → Fits r ps space capacity j
      from : In (start r) (xs ++ (p ∷ []))

    long : (xs : List Pair) (p : Pair) (zs : List Pair) → ps ≡ xs ++ (p ∷ zs) → length xs < length ps
    long xs p zs e = omega (arith, ap length e, length-append xs (p ∷ zs))

    pub fits_more : (k : ℕ) → ((j : ℕ) → j < k → Fits r ps space capacity j) → Fits r ps space capacity k → (j : ℕ) → j < suc k → Fits r ps space capacity j
    fits_more k h f j l = ⊎_elim (λ e. subst⁻¹ (Fits r ps space capacity) e f) (λ d. h j (omega arith)) (cases_eq j k)

    right : (left : ℕ) (xs : List Pair) (p : Pair) (zs : List Pair) (ws : List Arc) → Ready left xs p zs ws → Right (enter r capacity left xs p ws)
    unfolding enter next
    right zero xs p zs ws v =
        ((long xs p zs v.rows, v.fits, (let e = v.free in omega arith)), front xs (p ∷ zs) v.rows, (λ e. let z : ◌≡◌ {A = ℕ} 0 1 = cc in absurd (omega arith)))
    right (suc left) xs p zs ws v = by (λ q us xs' u. right left ys q xs' us u)
      where
        ys : List Pair
        ys = xs ++ (p ∷ [])

        vs : List Arc
        vs = ws ++ arcs r (length xs) (p ∷ [])

        split : ps ≡ ys ++ zs
        split = v.rows ∙ sym (append_assoc xs (p ∷ []) zs)

        s : Reached r p × Open r p
        s = w.sound p (subst⁻¹ (In p) v.rows (among_right xs (p ∷ zs) p (inl refl)))

        waits : waiting r ys ≡ vs
        waits = waits_more r ok xs p s.0 s.1 (split_left r xs p zs (subst (Ascending r) v.rows w.ascending)) ∙ ap (λ l. l ++ arcs r (length xs) (p ∷ [])) (sym v.wait)

        cuts : cut r ps (length xs) ≡ length vs
        cuts = cut_is xs p zs split ∙ ap length waits

        full : ltb capacity (length vs) ≡ true → Right (record { rows = ys; came = queue_full (length xs) })
        full e =
            ((long xs p zs v.rows, v.fits, (let f = v.free in omega arith), omega (arith, cuts, ltb-true capacity (length vs) e)), front ys zs split, (λ f. let z : ◌≡◌ {A = ℕ} 0 1 = cc in absurd (omega arith)))

        fits : ltb capacity (length vs) ≡ false → (j : ℕ) → j < length ys → Fits r ps space capacity j
        fits e j l = fits_more (length xs) v.fits ((let f = v.free in omega arith), omega (arith, cuts, ltb-false capacity (length vs) e)) j (omega (arith, grown xs p))

        over : (us : List Arc) → vs ≡ us → zs ≡ [] → ltb capacity (length vs) ≡ false → Right (record { rows = ys; came = done })
        over us e f c =
            let g : ps ≡ ys = split ∙ ap (λ l. ys ++ l) f ∙ append-nil ys in
            ((λ k l. fits c k (omega (arith, ap length g))), front ys zs split, (λ h. sym g))

        by : ((q : Pair) (us : List Arc) (xs' : List Pair) → Ready left ys q xs' us → Right (enter r capacity left ys q us)) → Right (enter r capacity (suc left) xs p ws)
        by ih = cond_both (ltb capacity (length vs)) _ _ Right full (λ c. on vs refl c)
          where
            on : (us : List Arc) → vs ≡ us → ltb capacity (length vs) ≡ false → Right (next r (λ q us. enter r capacity left ys q us) (record { rows = ys; came = done }) us)
            on [] e c = over [] e (no_next ys zs split v.from (waits ∙ e)) c
            on (a ∷ us) e c =
                let n = some_next ys zs split v.from a us (waits ∙ e) in
                let q = least r a.to us in
                ih q (later r q (a ∷ us)) n.0
                (record {
                  rows = split ∙ ap (λ l. ys ++ l) n.1;
                  wait = ap (later r q) (sym (waits ∙ e));
                  free = (let f = v.free in omega (arith, grown xs p));
                  fits = fits c;
                  from = among_left ys (q ∷ []) (start r) v.from;
                })

    begin : (qs : List Pair) → ps ≡ qs → Open r (start r) → Right (enter r capacity space [] (start r) [])
    unfolding later waiting arcs
    begin [] e o = absurd (subst (In (start r)) e (w.full (start r) (at_root refl) o))
    begin (q ∷ zs) e o =
        right space [] (start r) zs []
        (record {
          rows = e ∙ ap (λ x. x ∷ zs) (head_start r ok ps w q zs e);
          wait = nothing;
          free = omega arith;
          fits = λ j l. absurd (omega arith);
          from = inl refl;
        })
      where
        nothing : [] ≡ later r (start r) (waiting r [])
        nothing = refl

    pub comes : Right (sweep r space capacity)
    unfolding sweep
    comes = cond_both (opens r.operator (start r)) _ _ Right (begin ps refl) (λ c.
        let e = rows_alone r ps [] w (shut_rows r ok c) in
        ((λ k l. absurd (omega (arith, ap length e))), refl, (λ f. sym e)))

pub model_right : ModelRight
model_right r ok ps w space capacity = comes r ok ps w space capacity
