-- The rows form a listing with the answer of the two sides.
use Rattle.std.proofs.Common.{◌≡◌, ℕ, zero, suc, ◌+◌, ◌<◌, ◌≤◌, Bool, true, false, cond, ◌&&◌, eqb, ◌⊎◌, List, [], ◌∷◌, ◌++◌, map, length, get_or, set, Some, None, filter, Option, sym, refl, ap, ◌∙◌, subst, ap₂, inl, inr, ⊎_elim, arith, get_or-set_other, get_or-set_same}
use mathlib.Core.Path.{subst⁻¹}
use Rattle.std.proofs.lemmas.List.{append_assoc, append-nil, length-append}
use Rattle.std.proofs.lemmas.List.Elements.{filter-append}
use Rattle.std.proofs.lemmas.Bool.{cases_Bool, cases_lt, cond-true, cond-false, eq-eqb, eqb-true, eqb-false, ne_eqb, and_right}
use Rattle.listing.specs.declared.Target.TheVariants.{False, True}
use Rattle.listing.specs.declared.Record.{Record}
use Rattle.pairs.specs.declared.Pair.{Pair}
use Rattle.listing.specs.Listing.{node, child, walk, Within, Above, Rooted, Follows, Numbered, Aims, Aimed, Levelled, Listing, terminal}
use Rattle.listing.proofs.Walk.{Choice}
use Rattle.listing.specs.Listing.{Reached as Found}
use Rattle.listing.specs.Members.{In}
use Rattle.pairs.specs.Pairs.{Side, Run, Sides, answer, level, kid, start, verdict, opens, Open, ahead, Ahead}
use Rattle.pairs.specs.Rows.{Ascending, Reached, at_root, by_arc, Rows}
use Rattle.pairs.specs.Records.{place, name, row, records_of, root_of, fixed_at, side_value, Means}
use Rattle.pairs.proofs.Valued.{fix, value}
use Rattle.listing.specs.Settings.{fact, Setting}
use Rattle.listing.proofs.Bridge.{near}
use Rattle.pairs.specs.declared.Fixed.{Fixed}
use Rattle.pairs.proofs.PairOrder.{irr, trans, ahead_level, not_ahead, not_self}
use Rattle.pairs.proofs.Pairs.{small, rises, kid_ahead, value_kid, value_shut, value_start}
use Rattle.pairs.proofs.Lists.{in_map, map_in, among_left, among_right, among_cases, kept_same, kept_none}
use Rattle.listing.proofs.Unique.{walk_false, walk_true}
use Rattle.listing.proofs.Laws.{walk_node}
use Rattle.listing.proofs.Rules.{chain}

-- a setting with the fixed fact set, on the levels below n
fix_set : (n : ℕ) (o : Option Fixed) (s : List Bool) → Setting n s → (i : ℕ) → i < n → fix o (fact s) i ≡ fact (fixed_at o s) i
unfolding fix
fix_set n None s len i h = refl
fix_set n (Some f) s len i h = ⊎_elim here other (cases_Bool (eqb i f.level))
  where
    here : eqb i f.level ≡ true → cond (eqb i f.level) f.bit (fact s i) ≡ fact (set s f.level f.bit) i
    here e =
        let q : i ≡ f.level = eqb-true i f.level e in
        let l : f.level < length s = omega arith in
        cond-true _ _ _ e ∙ sym (ap (λ k. get_or (set s f.level f.bit) k false) q ∙ get_or-set_same s f.level f.bit false l)

    other : eqb i f.level ≡ false → cond (eqb i f.level) f.bit (fact s i) ≡ fact (set s f.level f.bit) i
    other e = cond-false _ _ _ e ∙ sym (get_or-set_other s f.level i f.bit false (eqb-false i f.level e))

fixed_walk : (n : ℕ) (d : Side) → Levelled n d.records → (s : List Bool) → Setting n s → walk d.records (fix d.fixed (fact s)) d.root ≡ side_value d s
fixed_walk n d h s len = near n d.records h (fix d.fixed (fact s)) (fact (fixed_at d.fixed s)) (fix_set n d.fixed s len) d.root

module _ (r : Run) where
  -- how many of the pairs are on a level
  abbrev count_on : ℕ → List Pair → ℕ
  count_on l xs = length (filter (λ q. eqb (level r q) l) xs)

  pub split_left : (xs : List Pair) (p : Pair) (zs : List Pair) → Ascending r (xs ++ (p ∷ zs)) → (x : Pair) → In x xs → Ahead r x p
  split_left [] p zs a x m = absurd m
  split_left (y ∷ xs) p zs a x (inl e) = subst⁻¹ (λ (z : Pair). Ahead r z p) e (a.0 p (among_right xs (p ∷ zs) p (inl refl)))
  split_left (y ∷ xs) p zs a x (inr m) = split_left xs p zs a.1 x m

  pub split_right : (xs : List Pair) (p : Pair) (zs : List Pair) → Ascending r (xs ++ (p ∷ zs)) → (z : Pair) → In z zs → Ahead r p z
  split_right [] p zs a z m = a.0 z m
  split_right (y ∷ xs) p zs a z m = split_right xs p zs a.1 z m

  place_split : (xs : List Pair) (p : Pair) (zs : List Pair) → Ascending r (xs ++ (p ∷ zs)) → place r (xs ++ (p ∷ zs)) p ≡ count_on (level r p) xs
  unfolding place
  place_split xs p zs a =
      let f : Pair → Bool = λ q. eqb (level r q) (level r p) && ahead r q p in
      ap length
      (filter-append f xs (p ∷ zs) ∙
      ap₂ ◌++◌
      (kept_same f (λ q. eqb (level r q) (level r p)) xs (λ x m. ap (λ b. eqb (level r x) (level r p) && b) (split_left xs p zs a x m) ∙ and_true _))
      (kept_none f (p ∷ zs) (λ x m. and_right _ _ (⊎_elim (λ e. subst⁻¹ (λ (z : Pair). ahead r z p ≡ false) e (not_self r p)) (λ k. not_ahead r x p (split_right xs p zs a x k)) m))) ∙
      append-nil _)
    where
      and_true : (b : Bool) → (b && true) ≡ b
      and_true true = refl
      and_true false = refl

  -- the next row goes on on its predecessor's level, or starts a higher one
  next_count : (xs : List Pair) (p q : Pair) → ((x : Pair) → In x xs → Ahead r x p) → Ahead r p q → (level r p < level r q) ⊎ (level r q ≤ level r p) →
      ((level r q ≡ level r p) × (count_on (level r q) (xs ++ (p ∷ [])) ≡ count_on (level r p) xs + 1)) ⊎ ((level r p < level r q) × (count_on (level r q) (xs ++ (p ∷ [])) ≡ 0))
  next_count xs p q h k (inl l) =
      inr (
        l,
        ap length (kept_none (λ x. eqb (level r x) (level r q)) (xs ++ (p ∷ [])) (λ x m.
            ne_eqb _ _ (λ e. ⊎_elim (λ j. let z = ahead_level r x p (h x j) in omega arith) (λ j. ⊎_elim (λ g. let z = ap (level r) g in omega arith) (λ g. absurd g) j) (among_cases xs (p ∷ []) x m)))),
      )
  next_count xs p q h k (inr l) =
      let e : level r q ≡ level r p = let z = ahead_level r p q k in omega arith in
      inl (
        e,
        ap (λ l. count_on l (xs ++ (p ∷ []))) e ∙
            ap length (filter-append (λ x. eqb (level r x) (level r p)) xs (p ∷ [])) ∙
            length-append _ _ ∙
            ap (λ l. count_on (level r p) xs + length l) (cond-true _ _ _ (eq-eqb (level r p) (level r p) refl)),
      )

  module _ (ok : Sides r) (ps : List Pair) (w : Rows r ps) where
    name_open : (p : Pair) → Open r p → name r ps p ≡ node (row r ps p)
    unfolding name row
    name_open p o = cond-true _ _ _ o

    name_shut : (p : Pair) → opens r.operator p ≡ false → name r ps p ≡ terminal (verdict r.operator p)
    unfolding name
    name_shut p e = cond-false _ _ _ e

    place_at : (xs : List Pair) (p : Pair) (zs : List Pair) → ps ≡ xs ++ (p ∷ zs) → place r ps p ≡ count_on (level r p) xs
    place_at xs p zs e = subst⁻¹ (λ l. place r l p ≡ count_on (level r p) xs) e (place_split xs p zs (subst (Ascending r) e w.ascending))

    shift : (xs : List Pair) (p : Pair) (zs : List Pair) → ps ≡ xs ++ (p ∷ zs) → ps ≡ (xs ++ (p ∷ [])) ++ zs
    shift xs p zs e = e ∙ sym (append_assoc xs (p ∷ []) zs)

    follows : (xs : List Pair) (p : Pair) (zs : List Pair) → ps ≡ xs ++ (p ∷ zs) → Follows (row r ps p) (map (row r ps) zs)
    unfolding row
    follows xs p [] e = tt
    follows xs p (q ∷ zs) e =
        let a = subst (Ascending r) e w.ascending in
        let f = shift xs p (q ∷ zs) e in
        let n = next_count xs p q (split_left xs p (q ∷ zs) a) (split_right xs p (q ∷ zs) a q (inl refl)) (cases_lt (level r p) (level r q)) in
        (rw (place_at xs p (q ∷ zs) e, place_at (xs ++ (p ∷ [])) q zs f) n, follows (xs ++ (p ∷ [])) q zs f)

    reach_start : (p : Pair) → Reached r p → (p ≡ start r) ⊎ (Open r (start r) × Ahead r (start r) p)
    reach_start p (at_root e) = inl e
    reach_start p (by_arc q b h o e) = by (reach_start q h)
      where
        k : Ahead r q p
        k = subst⁻¹ (Ahead r q) e (kid_ahead r ok q h o b)

        by : (q ≡ start r) ⊎ (Open r (start r) × Ahead r (start r) q) → (p ≡ start r) ⊎ (Open r (start r) × Ahead r (start r) p)
        by (inl f) = inr (subst (Open r) f o, subst (λ (z : Pair). Ahead r z p) f k)
        by (inr g) = inr (g.0, trans r (start r) q p g.1 k)

    -- the first row is the root pair
    pub head_start : (p : Pair) (zs : List Pair) → ps ≡ p ∷ zs → p ≡ start r
    head_start p zs e = by (reach_start p s.0)
      where
        s : Reached r p × Open r p
        s = w.sound p (subst⁻¹ (In p) e (inl refl))

        by : (p ≡ start r) ⊎ (Open r (start r) × Ahead r (start r) p) → p ≡ start r
        by (inl f) = f
        by (inr g) =
            ⊎_elim (λ f. sym f) (λ m. absurd (irr r p (trans r p (start r) p ((subst (Ascending r) e w.ascending).0 (start r) m) g.1)))
            (subst (In (start r)) e (w.full (start r) (at_root refl) g.0))

    terminal_cases : (b : Bool) → (terminal b ≡ False) ⊎ (terminal b ≡ True)
    terminal_cases false = inl refl
    terminal_cases true = inr refl

    rooted_by : (qs : List Pair) → ps ≡ qs → Rooted (name r ps (start r)) (map (row r ps) qs)
    rooted_by [] e =
        let c : opens r.operator (start r) ≡ false = ⊎_elim (λ o. absurd (subst (In (start r)) e (w.full (start r) (at_root refl) o))) (λ f. f) (cases_Bool (opens r.operator (start r))) in
        rw (name_shut (start r) c) (terminal_cases (verdict r.operator (start r)))
    rooted_by (p ∷ zs) e = rw (← (head_start p zs e)) (name_open p (w.sound p (subst⁻¹ (In p) e (inl refl))).1)

    pub first_place : (p : Pair) (zs : List Pair) → ps ≡ p ∷ zs → (row r ps p).number ≡ 0
    unfolding row
    first_place p zs e = place_at [] p zs e

    numbered_by : (qs : List Pair) → ps ≡ qs → Numbered (map (row r ps) qs)
    numbered_by [] e = tt
    numbered_by (p ∷ zs) e = (first_place p zs e, follows [] p zs e)

    -- a row has the name of an open child for a target
    aims : (p q : Pair) (b : Bool) → q ≡ kid r b p → Open r q → Aims (row r ps p) (row r ps q)
    unfolding row
    aims p q true e o = inr (ap (name r ps) (sym e) ∙ name_open q o)
    aims p q false e o = inl (ap (name r ps) (sym e) ∙ name_open q o)

    found : (xs : List Pair) (before : List Record) (zs : List Pair) → ps ≡ xs ++ zs → In (start r) xs → ((x : Pair) → In x xs → In (row r ps x) before) → Found before (map (row r ps) zs)
    found xs before [] e m h = tt
    found xs before (q ∷ zs) e m h = (
      by s.0,
      found (xs ++ (q ∷ [])) (row r ps q ∷ before) zs (shift xs q zs e) (among_left xs (q ∷ []) (start r) m)
          (λ x k. ⊎_elim (λ j. inr (h x j)) (λ j. ⊎_elim (λ f. inl (ap (row r ps) f)) (λ f. absurd f) j) (among_cases xs (q ∷ []) x k)),
    )
      where
        a : Ascending r (xs ++ (q ∷ zs))
        a = subst (Ascending r) e w.ascending

        s : Reached r q × Open r q
        s = w.sound q (subst⁻¹ (In q) e (among_right xs (q ∷ zs) q (inl refl)))

        by : Reached r q → (p : Record) × In p before × Aims p (row r ps q)
        by (at_root f) = absurd (irr r q (subst (λ (z : Pair). Ahead r z q) (sym f) (split_left xs q zs a (start r) m)))
        by (by_arc p b k o f) =
            let g : Ahead r p q = subst⁻¹ (Ahead r p) f (kid_ahead r ok p k o b) in
            ⊎_elim (λ j. (row r ps p, h p j, aims p q b f s.1))
            (λ j. absurd (⊎_elim (λ i. irr r q (subst (λ (z : Pair). Ahead r z q) i g)) (λ i. irr r p (trans r p q p g (split_right xs q zs a p i))) j))
            (among_cases xs (q ∷ zs) p (subst (In p) e (w.full p k o)))

    aimed_by : (qs : List Pair) → ps ≡ qs → Aimed (map (row r ps) qs)
    aimed_by [] e = tt
    aimed_by (p ∷ zs) e = found (p ∷ []) (row r ps p ∷ []) zs e (inl (sym (head_start p zs e))) (λ x m. ⊎_elim (λ f. inl (ap (row r ps) f)) (λ f. absurd f) m)

    above_terminal : (l : ℕ) (b : Bool) → Within (map (row r ps) ps) (terminal b) × Above l (terminal b)
    above_terminal l false = (tt, tt)
    above_terminal l true = (tt, tt)

    above_row : (l : ℕ) (q : Pair) → In q ps → l < level r q → Within (map (row r ps) ps) (node (row r ps q)) × Above l (node (row r ps q))
    unfolding row
    above_row l q m h = ((row r ps q, in_map (row r ps) ps q m, refl), h)

    target : (p : Pair) → In p ps → (b : Bool) → Within (map (row r ps) ps) (name r ps (kid r b p)) × Above (level r p) (name r ps (kid r b p))
    target p m b =
        let s = w.sound p m in
        let q = kid r b p in
        ⊎_elim
        (λ o. rw (name_open q o) (above_row (level r p) q (w.full q (by_arc p b s.0 s.1 refl) o) (rises r ok p s.0 s.1 b)))
        (λ c. rw (name_shut q c) (above_terminal (level r p) (verdict r.operator q)))
        (cases_Bool (opens r.operator q))

    each : (P : Record → Type 0) → ((p : Pair) → In p ps → P (row r ps p)) → (q : Record) → In q (map (row r ps) ps) → P q
    each P h q m = let k = map_in (row r ps) ps q m in subst⁻¹ P k.2 (h k.0 k.1)

    row_level : (p : Pair) → In p ps → (row r ps p).level < r.facts
    unfolding row
    row_level p m = let s = w.sound p m in small r ok p s.0 s.1

    arc_of : (p : Pair) → In p ps → (b : Bool) → Within (map (row r ps) ps) (child b (row r ps p)) × Above (row r ps p).level (child b (row r ps p))
    unfolding row
    arc_of p m true = target p m true
    arc_of p m false = target p m false

    listed : Listing r.facts (name r ps (start r)) (map (row r ps) ps)
    listed =
        record {
          rooted = rooted_by ps refl;
          levelled = each (λ q. q.level < r.facts) row_level;
          numbered = numbered_by ps refl;
          targeted = λ q m b. each (λ q. Within (map (row r ps) ps) (child b q) × Above q.level (child b q)) (λ p k. arc_of p k b) q m;
          aimed = aimed_by ps refl;
        }

    walk_terminal : (s : Choice) (b : Bool) → walk (map (row r ps) ps) s (terminal b) ≡ b
    walk_terminal s false = walk_false (map (row r ps) ps) s
    walk_terminal s true = walk_true (map (row r ps) ps) s

    walk_row : (s : Choice) (p : Pair) → In p ps → walk (map (row r ps) ps) s (node (row r ps p)) ≡ walk (map (row r ps) ps) s (name r ps (kid r (s (level r p)) p))
    unfolding row
    walk_row s p m =
        walk_node (map (row r ps) ps) (chain _ _ _ listed) s (row r ps p) (in_map (row r ps) ps p m) ∙
        ap (walk (map (row r ps) ps) s) (pick (s (level r p)))
      where
        pick : (b : Bool) → cond b (name r ps (kid r true p)) (name r ps (kid r false p)) ≡ name r ps (kid r b p)
        pick true = refl
        pick false = refl

    -- at any setting, a pair's name has the pair's value
    walks : (fuel : ℕ) (s : Choice) (p : Pair) → Reached r p → r.facts ≤ level r p + fuel → walk (map (row r ps) ps) s (name r ps p) ≡ value r s p
    walks zero s p h f =
        ⊎_elim (λ o. absurd (let z = small r ok p h o in omega arith))
        (λ c. ap (walk (map (row r ps) ps) s) (name_shut p c) ∙ walk_terminal s (verdict r.operator p) ∙ sym (value_shut r ok s p c))
        (cases_Bool (opens r.operator p))
    walks (suc k) s p h f = by (walks k s q) (cases_Bool (opens r.operator p))
      where
        q : Pair
        q = kid r (s (level r p)) p

        by : (Reached r q → r.facts ≤ level r q + k → walk (map (row r ps) ps) s (name r ps q) ≡ value r s q) → (opens r.operator p ≡ true) ⊎ (opens r.operator p ≡ false) → walk (map (row r ps) ps) s (name r ps p) ≡ value r s p
        by ih (inl o) =
            ap (walk (map (row r ps) ps) s) (name_open p o) ∙ walk_row s p (w.full p h o) ∙
            ih (by_arc p (s (level r p)) h o refl) (let z = rises r ok p h o (s (level r p)) in omega arith) ∙
            sym (value_kid r ok s p h)
        by ih (inr c) = ap (walk (map (row r ps) ps) s) (name_shut p c) ∙ walk_terminal s (verdict r.operator p) ∙ sym (value_shut r ok s p c)

    pub rows_list : Listing r.facts (root_of r ps) (records_of r ps)
    unfolding records_of
    rows_list = listed

    rows_walk : (s : Choice) → walk (records_of r ps) s (root_of r ps) ≡ answer r.operator (walk r.left.records (fix r.left.fixed s) r.left.root) (walk r.right.records (fix r.right.fixed s) r.right.root)
    unfolding records_of
    rows_walk s = walks r.facts s (start r) (at_root refl) (omega arith) ∙ value_start r ok s

    -- the rows are a listing with the run's value
    pub rows_mean : Means r (root_of r ps) (records_of r ps)
    rows_mean =
        record {
          listing = rows_list;
          values = λ s len.
              rows_walk (fact s) ∙
              ap₂ (answer r.operator) (fixed_walk r.facts r.left ok.left.levelled s len) (fixed_walk r.facts r.right ok.right.levelled s len);
        }
