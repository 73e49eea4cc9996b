-- The stages of a run: what holds when a row is to be opened, and what follows.
use Rattle.std.proofs.Common.{◌≡◌, ℕ, ◌+◌, ◌<◌, ◌≤◌, Bool, true, false, cond, List, [], ◌∷◌, ◌++◌, length, take, drop, set, Some, None, sym, refl, ap, ◌∙◌, subst, ap₂, inl, ⊎_elim, arith, drop-set-lt}
use mathlib.Core.Path.{subst⁻¹}
use Rattle.std.specs.List.Sorted.{IsPermutation}
use Rattle.std.specs.List.{slice_get, AllByRecursion}
use Rattle.std.proofs.lemmas.List.{length-set, drop-drop}
use Rattle.std.proofs.lemmas.Bool.{cases_Bool, cond-true, cond-false}
use Rattle.listing.specs.declared.Target.{Target}
use Rattle.listing.specs.declared.Target.TheVariants.{Node}
use Rattle.listing.specs.Members.{In}
use Rattle.listing.specs.Listing.{Within, terminal}
use Rattle.queue.specs.declared.Element.{Element}
use Rattle.rows.specs.declared.row.Row.{Row}
use Rattle.rows.specs.Marks as mark
use Rattle.rows.proofs.Breaking.{nth_in}
use Rattle.pairs.specs.declared.Pair.{Pair}
use Rattle.pairs.specs.declared.keys.PairKey.{PairKey}
use Rattle.pairs.specs.Keys.{key_of, rank_key}
use Rattle.pairs.specs.Pairs.{Run, Sides, level, kid, start, opens, verdict, Open}
use Rattle.pairs.specs.Rows.{Ascending, Rows, at_root, arc, queue_full, Comes, Refuses}
use Rattle.pairs.specs.Records.{root_of, records_of, name, row, place, Means}
use Rattle.pairs.proofs.PairOrder.{ahead_level}
use Rattle.pairs.proofs.Pairs.{fine}
use Rattle.pairs.proofs.Exist.{rows_are, shut_rows}
use Rattle.pairs.proofs.RowsList.{split_left, head_start, first_place, rows_mean}
use Rattle.pairs.proofs.KeyOrder.{meets}
use Rattle.pairs.proofs.Lists.{among_right}
use Rattle.sweep.specs.declared.faults.Request.{Request}
use Rattle.sweep.specs.declared.faults.RunFault.{RunFault}
use Rattle.sweep.specs.declared.faults.RunFault.TheVariants as fault
use Rattle.sweep.specs.declared.requests.Child.{Child}
use Rattle.sweep.specs.declared.requests.Child.TheVariants as child
use Rattle.sweep.specs.Requests.{child_of, put_for, Kids, RefusedArc, draft, pointed, Pointed, NextPair}
use Rattle.sweep.specs.Running.{Hold, Done, opened_at, Ends}
use Rattle.sweep.proofs.Arcs.{elements, Orders}
use Rattle.sweep.proofs.Going.{Going, PutOn, Next, go_no_row, go_first, go_full, go_put, go_done, go_next, go_on}
use Rattle.sweep.proofs.Gone.{among_all, waits_row, gone_row, gone_only, gone_all}
use Rattle.sweep.proofs.Indices.{nth_append}
use Rattle.sweep.proofs.Pointing.{pointed_length, pointed_behind}
use Rattle.sweep.proofs.Holding.{Holding, hold_none, hold_open, hold_point}
use Rattle.sweep.proofs.Readout.{held}
use Rattle.sweep.proofs.Ties.{Drained}

abbrev Keyed : Run → Pair → PairKey
Keyed r p = key_of r.facts p

-- row k is to be opened for the pair p
pub record Stage (r : Run) (space room : ℕ) (before : List Row) (k : ℕ) (p : Pair) (rows : List Row) (ws : List (Element PairKey Request)) : Type 0 where
  pub pairs : List Pair
  pub are : Rows r pairs
  pub front : List Pair
  pub going : Going r (Keyed r) pairs space room k front p ws
  pub holds : Holding r pairs k (k + 1) rows
  pub size : length rows ≡ space
  pub bound : k ≤ space
  pub rest : drop k rows ≡ drop k before

-- k rows are opened and their arcs put; the last one's level is l
pub record Mid (r : Run) (space room : ℕ) (before : List Row) (k l : ℕ) (rows : List Row) (ws : List (Element PairKey Request)) : Type 0 where
  pub pairs : List Pair
  pub are : Rows r pairs
  pub front : List Pair
  pub put : PutOn r (Keyed r) pairs space room k front ws
  pub holds : Holding r pairs k k rows
  pub size : length rows ≡ space
  pub bound : k ≤ space
  pub rest : drop k rows ≡ drop k before
  pub onward : (q : Pair) (zs : List Pair) → put.others ≡ q ∷ zs → l ≤ level r q

drop_one : {X : Type 0} (k : ℕ) (xs ys : List X) → drop k xs ≡ drop k ys → drop (k + 1) xs ≡ drop (k + 1) ys
drop_one k xs ys e = ap (λ n. drop n xs) (omega arith) ∙ sym (drop-drop 1 k xs) ∙ ap (drop 1) e ∙ drop-drop 1 k ys ∙ ap (λ n. drop n ys) (omega arith)

-- what is put for an arc is the arc as it waits
put_is : (r : Run) (k : ℕ) (p : Pair) (b : Bool) (c : Child) → c ≡ child_of r.operator (kid r b p) → put_for r.facts k b c ≡ elements (Keyed r) (arc r k p b)
unfolding arc
put_is r k p b c e = ⊎_elim yes_open shut (cases_Bool (opens r.operator (kid r b p)))
  where
    yes_open : opens r.operator (kid r b p) ≡ true → put_for r.facts k b c ≡ elements (Keyed r) (cond (opens r.operator (kid r b p)) (record { row = k; high = b; to = kid r b p } ∷ []) [])
    yes_open h =
        ap (put_for r.facts k b) (e ∙ cond-true (opens r.operator (kid r b p)) _ _ h) ∙
        ap (elements (Keyed r)) (sym (cond-true (opens r.operator (kid r b p)) (record { row = k; high = b; to = kid r b p } ∷ []) [] h))

    shut : opens r.operator (kid r b p) ≡ false → put_for r.facts k b c ≡ elements (Keyed r) (cond (opens r.operator (kid r b p)) (record { row = k; high = b; to = kid r b p } ∷ []) [])
    shut h =
        ap (put_for r.facts k b) (e ∙ cond-false (opens r.operator (kid r b p)) _ _ h) ∙
        ap (elements (Keyed r)) (sym (cond-false (opens r.operator (kid r b p)) (record { row = k; high = b; to = kid r b p } ∷ []) [] h))

draft_shut : (r : Run) (p : Pair) (b : Bool) (c : Child) → c ≡ child_of r.operator (kid r b p) → opens r.operator (kid r b p) ≡ false → draft c ≡ terminal (verdict r.operator (kid r b p))
draft_shut r p b c e h = ap draft (e ∙ cond-false (opens r.operator (kid r b p)) _ _ h)

-- a child that is open is an open pair
open_child : (o : ℕ) (p q : Pair) → child_of o p ≡ child.Open q → (opens o p ≡ true) × (q ≡ p)
open_child o p q e =
    ⊎_elim (λ h. (h, ap the_pair (sym e ∙ cond-true (opens o p) _ _ h)))
    (λ h. let z : child.Closed (verdict o p) ≡ child.Open q = sym (cond-false (opens o p) _ _ h) ∙ e in cc)
    (cases_Bool (opens o p))
  where
    the_pair : Child → Pair
    the_pair (child.Open x) = x
    the_pair (child.Closed v) = p

-- the root of rows that there are is the first row's node
root_open : (r : Run) → Sides r → (ps : List Pair) → Rows r ps → Open r (start r) → root_of r ps ≡ Node (level r (start r)) 0
unfolding name row
root_open r ok ps w o = cond-true (opens r.operator (start r)) _ _ o ∙ ap (Node (level r (start r))) (by ps refl)
  where
    by : (qs : List Pair) → ps ≡ qs → place r ps (start r) ≡ 0
    by [] e = absurd (subst (In (start r)) e (w.full (start r) (at_root refl) o))
    by (q ∷ zs) e = ap (place r ps) (sym (head_start r ok ps w q zs e)) ∙ first_place r ok ps w q zs e

root_shut : (r : Run) → opens r.operator (start r) ≡ false → root_of r [] ≡ terminal (verdict r.operator (start r))
unfolding name
root_shut r e = cond-false (opens r.operator (start r)) _ _ e

module _ (r : Run) (ok : Sides r) (space room : ℕ) (before : List Row) (len : length before ≡ space) where
  -- a closed root pair: a terminal, and no row
  pub none_done : (t : Target) → t ≡ terminal (verdict r.operator (start r)) → opens r.operator (start r) ≡ false → Done r space room before before (record { root = t; count = 0 })
  none_done t e c =
      let w = shut_rows r ok c in
      record {
        out = record { pairs = []; rows = w; comes = λ k l. absurd (omega arith) };
        count = refl;
        root = e ∙ sym (root_shut r c);
        hold = held r ok [] w before (omega arith) (hold_none r [] 0 before);
        means = subst⁻¹ (λ (u : Target). Means r u (records_of r [])) (e ∙ sym (root_shut r c)) (rows_mean r ok [] w);
        rest = refl;
      }

  -- the root pair's row is the first to be opened
  pub stage_first : Open r (start r) → (ws : List (Element PairKey Request)) → ws ≡ [] → Stage r space room before 0 (start r) before ws
  stage_first o ws e =
      let w = rows_are r ok in
      record {
        pairs = w.0;
        are = w.1;
        front = [];
        going = go_first r (Keyed r) w.0 space room ok w.1 o ws e;
        holds = hold_none r w.0 1 before;
        size = len;
        bound = omega arith;
        rest = refl;
      }

  module _ (k : ℕ) (p : Pair) (rows : List Row) (ws : List (Element PairKey Request)) (s : Stage r space room before k p rows ws) where
    row_at : slice_get s.pairs k ≡ Some p
    row_at = subst⁻¹ (λ l. slice_get l k ≡ Some p) s.going.rows (subst (λ m. slice_get (s.front ++ (p ∷ s.going.others)) m ≡ Some p) s.going.count (nth_append s.front p s.going.others))

    -- its two targets are of the sides' listings
    pub stage_within : Within r.left.records p.left × Within r.right.records p.right
    stage_within = let g = fine r ok p (s.are.sound p (nth_in p s.pairs k row_at)).0 in (g.0.0, g.1.0)

    -- there is no row for it
    pub stage_no_row : space ≤ k → Ends r space room (fault.Row k) × (k ≤ length before) × (drop k rows ≡ drop k before)
    stage_no_row h =
        (record { pairs = s.pairs; rows = s.are; comes = go_no_row r (Keyed r) s.pairs space room k s.front p ws s.going h }, omega (arith, s.bound), s.rest)

    module _ (l : k < space) (low high : Child) (kids : Kids r p low high) where
      child_is : (b : Bool) → cond b high low ≡ child_of r.operator (kid r b p)
      child_is true = kids.high_is
      child_is false = kids.low_is

      low_put : put_for r.facts k false low ≡ elements (Keyed r) (arc r k p false)
      low_put = put_is r k p false low kids.low_is

      high_put : put_for r.facts k true high ≡ elements (Keyed r) (arc r k p true)
      high_put = put_is r k p true high kids.high_is

      -- an arc of it finds no room
      pub stage_full : (new : Row) (f : RunFault) → RefusedArc room r.facts k low high ws f → Ends r space room f × (opened_at f ≤ length before) × (drop (opened_at f) (set rows k new) ≡ drop (opened_at f) before)
      stage_full new f a =
          subst⁻¹ (λ (x : RunFault). Ends r space room x × (opened_at x ≤ length before) × (drop (opened_at x) (set rows k new) ≡ drop (opened_at x) before)) a.is (
            record {
              out = record { pairs = s.pairs; rows = s.are; comes = g.0 };
              pair = p;
              refuses = g.1;
              key = ap (key_of r.facts) w.1;
            },
            omega arith,
            drop-set-lt (k + 1) rows k new (omega arith) ∙ drop_one k rows before s.rest,
          )
        where
          w : (opens r.operator (kid r a.side p) ≡ true) × (a.pair ≡ kid r a.side p)
          w = open_child r.operator (kid r a.side p) a.pair (sym (child_is a.side) ∙ a.wanted)

          g : Comes r s.pairs space room (queue_full k) × Refuses r s.pairs room k p a.side
          g =
              go_full r (Keyed r) s.pairs space room ok s.are k s.front p ws s.going l a.side w.0
              (a.full ∙ ap (λ x. length (cond a.side x [] ++ ws)) low_put)

      new_arc : (new : Row) → new.low ≡ draft low → new.high ≡ draft high → (b : Bool) → opens r.operator (kid r b p) ≡ false → mark.arc b new ≡ terminal (verdict r.operator (kid r b p))
      new_arc new e f true c = f ∙ draft_shut r p true high kids.high_is c
      new_arc new e f false c = e ∙ draft_shut r p false low kids.low_is c

      -- it is opened, and its arcs are put
      pub stage_put : (new : Row) → new.level ≡ level r p → new.low ≡ draft low → new.high ≡ draft high → (vs : List (Element PairKey Request)) → length vs ≤ room →
          IsPermutation (put_for r.facts k true high ++ (put_for r.facts k false low ++ ws)) vs → Mid r space room before (k + 1) (level r p) (set rows k new) vs
      stage_put new e f h vs m sh =
          let on = go_put r (Keyed r) s.pairs space room ok s.are k s.front p ws s.going l vs m (subst (λ x. IsPermutation x vs) (ap₂ (λ x y. x ++ (y ++ ws)) high_put low_put) sh) in
          record {
            pairs = s.pairs;
            are = s.are;
            front = s.front ++ (p ∷ []);
            put = on;
            holds = hold_open r s.pairs ok s.are k p rows new row_at (omega (arith, s.size)) e (new_arc new f h) s.holds;
            size = length-set rows k new ∙ s.size;
            bound = omega arith;
            rest = drop-set-lt (k + 1) rows k new (omega arith) ∙ drop_one k rows before s.rest;
            onward = λ q zs d.
                ahead_level r p q (split_left r (s.front ++ (p ∷ [])) q zs (subst (Ascending r) (on.rows ∙ ap (λ l. (s.front ++ (p ∷ [])) ++ l) d) s.are.ascending) p (among_right s.front (p ∷ []) p (inl refl)));
          }

  module _ (k l : ℕ) (rows : List Row) (ws : List (Element PairKey Request)) (s : Mid r space room before k l rows ws) where
    -- what waits is of rows that there are
    pub mid_within : AllByRecursion (λ (y : Element PairKey Request). y.carried.row < length rows) ws
    mid_within = among_all _ ws (λ y m. let z = waits_row r (Keyed r) s.pairs space room ok s.are k s.front ws s.put y m in omega (arith, s.size, s.bound))

    -- none waits: the run is done
    pub mid_done : (us : List (Element PairKey Request)) (after : List Row) (t : Target) → Open r (start r) → t ≡ Node (level r (start r)) 0 → NextPair k ws us rows after None → Done r space room before after (record { root = t; count = k })
    mid_done us after t o e n =
        let d = go_done r (Keyed r) s.pairs space room ok s.are k s.front ws s.put n.0 in
        let c : k ≡ length s.pairs = sym s.put.count ∙ ap length d.1 in
        let root = e ∙ sym (root_open r ok s.pairs s.are o) in
        subst⁻¹ (λ (x : List Row). Done r space room before x (record { root = t; count = k })) n.2
        (record {
          out = record { pairs = s.pairs; rows = s.are; comes = d.0 };
          count = c;
          root = root;
          hold = subst⁻¹ (λ m. Hold (take m rows) (records_of r s.pairs)) c (held r ok s.pairs s.are rows (omega (arith, s.size, s.bound)) (subst (λ m. Holding r s.pairs m m rows) c s.holds));
          means = subst⁻¹ (λ (u : Target). Means r u (records_of r s.pairs)) root (rows_mean r ok s.pairs s.are);
          rest = s.rest;
        })

    -- the next pair's row is to be opened
    pub mid_next : (us : List (Element PairKey Request)) (after : List Row) (q : Pair) → NextPair k ws us rows after (Some q) → Stage r space room before k q after us × (l ≤ level r q)
    mid_next us after q n =
        subst⁻¹ (λ (x : Pair). Stage r space room before k x after us × (l ≤ level r x)) is (
          record {
            pairs = s.pairs;
            are = s.are;
            front = s.front;
            going = go_on r (Keyed r) s.pairs space room ok s.are k s.front ws s.put rank_key orders e x us drained;
            holds =
                subst⁻¹ (Holding r s.pairs k (k + 1)) (rows_are_pointed)
                (hold_point r s.pairs ok s.are k k x.pair rows pt.gone row_next (omega (arith, s.size, s.bound))
                (gone_only r (Keyed r) s.pairs space room ok s.are k s.front ws s.put rank_key orders e x us drained)
                (gone_all r (Keyed r) s.pairs space room ok s.are k s.front ws s.put rank_key orders e x us drained (Node (level r x.pair) k))
                s.holds);
            size = ap length pt.rows ∙ pointed_length {K = PairKey} (Node e.key.level k) pt.gone rows ∙ s.size;
            bound = s.bound;
            rest = ap (drop k) pt.rows ∙ pointed_behind {K = PairKey} (Node e.key.level k) k pt.gone rows (gone_row r (Keyed r) s.pairs space room ok s.are k s.front ws s.put rank_key orders e x us drained) ∙ s.rest;
          },
          s.onward x.pair x.rest x.is,
        )
      where
        e : Element PairKey Request
        e = n.0

        orders : Orders r (Keyed r) rank_key
        orders = meets r

        x : Next r (Keyed r) s.pairs space room ok s.are k s.front ws s.put rank_key orders e
        x = go_next r (Keyed r) s.pairs space room ok s.are k s.front ws s.put rank_key orders e n.1

        pt : Pointed rank_key e.key (Node e.key.level k) ws us rows after
        pt = n.3

        drained : Drained rank_key e.key ws us
        drained = record { gone = pt.gone; ties = pt.ties; rest = pt.rest; apart = pt.apart }

        is : q ≡ x.pair
        is = n.2 ∙ ap (λ (y : PairKey). y.pair) x.key

        rows_are_pointed : after ≡ pointed (Node (level r x.pair) k) pt.gone rows
        rows_are_pointed = pt.rows ∙ ap (λ m. pointed (Node m k) pt.gone rows) (ap (λ (y : PairKey). y.level) x.key)

        row_next : slice_get s.pairs k ≡ Some x.pair
        row_next =
            subst⁻¹ (λ z. slice_get z k ≡ Some x.pair) (s.put.rows ∙ ap (λ z. s.front ++ z) x.is)
            (subst (λ m. slice_get (s.front ++ (x.pair ∷ x.rest)) m ≡ Some x.pair) s.put.count (nth_append s.front x.pair x.rest))
