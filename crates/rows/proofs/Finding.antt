-- Finding a node's place in rows that are in order, and putting places in arcs.
use Rattle.std.proofs.Common.{◌≡◌, ℕ, zero, suc, ◌+◌, ◌<◌, ◌≤◌, Bool, true, false, cond, eqb, ◌&&◌, List, [], ◌∷◌, ◌++◌, map, length, get_or, take, drop, set, Some, None, Option, Ok, Err, Result, MatchOption, Ordering, Less, Equal, Greater, sym, refl, ap, ◌∙◌, subst, inl, inr, ⊎_elim, arith}
use mathlib.Core.Path.{subst⁻¹}
use Rattle.std.specs.List.{slice_get}
use Rattle.std.specs.List.Sorted.{IsNonDecreasingBy, IsSearchInRange, IsBinarySearchResult}
use Rattle.std.specs.Option.{option_map}
use Rattle.std.specs.Ordering.{is_lt, ordering_index, MatchOrdering}
use Rattle.std.specs.Result.{result_ok}
use Rattle.std.proofs.lemmas.Bool.{cond-true, cond-false, cases_lt, cases_Bool, both_ways}
use Rattle.std.proofs.lemmas.Cmp.{tied_itself}
use Rattle.std.proofs.lemmas.List.Sorted.{searchable_from_sorted}
use Rattle.std.proofs.lemmas.Option.{slice_get_within, slice_get-map}
use Rattle.listing.specs.declared.Target.{Target}
use Rattle.listing.specs.declared.Target.TheVariants.{Node, False, True}
use Rattle.listing.specs.declared.Record.{Record}
use Rattle.listing.specs.contracts.TargetOrd.TheImpl as of_target
use Rattle.listing.specs.contracts.TargetOrd.TheImpl.Laws as law
use Rattle.listing.specs.Members.{In}
use Rattle.listing.specs.Listing.{node, names, child, Before, Within, Above, Next, Follows, Numbered, Targeted}
use Rattle.listing.specs.Ranks.{before_irr, before_trans, ranks_target}
use Rattle.listing.specs.Tests as test
use Rattle.listing.proofs.Deciding as decides
use Rattle.listing.proofs.Walk.{Ahead, node_level, node_number, names_node, names_not}
use Rattle.listing.proofs.Rules.{Ordered}
use Rattle.rows.specs.declared.row.Row.{Row}
use Rattle.rows.specs.Rows.{no_row, given, entry_of, row_of}
use Rattle.rows.specs.Breaks.{Mistargeted}
use Rattle.rows.specs.Placing.{place_of, placing, place_record, place_records, placed_arcs, placed_row, AtPlace, KeptTarget, KeptTargets}
use Rattle.rows.proofs.Breaking.{stable, in_nth, nth_in, nth_same, record_at, row_at}
use Rattle.listing.proofs.Derived.{target_cmp}

-- earlier places have earlier nodes
pub ahead_at : (rs : List Record) → Ordered rs → (i j : ℕ) (x y : Record) → i < j → slice_get rs i ≡ Some x → slice_get rs j ≡ Some y → Ahead x y
ahead_at [] o i j x y h e f = let z : ◌≡◌ {A = ℕ} 0 1 = cc in absurd (omega arith)
ahead_at (r ∷ rs) o zero zero x y h e f = absurd (omega arith)
ahead_at (r ∷ rs) o zero (suc j) x y h e f = let d : r ≡ x = cc in subst (λ (q : Record). Ahead q y) d (o.0 y (nth_in y rs j f))
ahead_at (r ∷ rs) o (suc i) zero x y h e f = absurd (omega arith)
ahead_at (r ∷ rs) o (suc i) (suc j) x y h e f = ahead_at rs o.1 i j x y (omega arith) e f

abbrev rank : Target → Target → Ordering
rank = (of_target.ghosts).cmp

ranks_nodes : (t u : Target) → MatchOrdering (rank t u) (Before t u) (t ≡ u) (Before u t)
ranks_nodes t u = subst⁻¹ (λ o. MatchOrdering o (Before t u) (t ≡ u) (Before u t)) (target_cmp t u) (ranks_target t u)

not_less : (t u : Target) → Before t u → is_lt (rank u t) ≡ false
not_less t u h = by (rank u t) (ranks_nodes u t)
  where
    by : (o : Ordering) → MatchOrdering o (Before u t) (u ≡ t) (Before t u) → is_lt o ≡ false
    by Less b = absurd (before_irr t (before_trans t u t h b))
    by Equal b = refl
    by Greater b = refl

-- the node of a row
abbrev pub row_node : Row → Target
row_node r = node (entry_of r)

-- rows with earlier nodes first may be searched
nodes_rise : (rows : List Row) → Ordered (map entry_of rows) → (t : Target) → IsNonDecreasingBy (λ y. ordering_index (rank (row_node y) t)) rows
nodes_rise rows o t =
    searchable_from_sorted law.total-law row_node rows t
    (λ k d z b. not_less (row_node (get_or rows k d)) (row_node (get_or rows (k + 1) d)) (ahead_at (map entry_of rows) o k (k + 1) (entry_of (get_or rows k d)) (entry_of (get_or rows (k + 1) d)) (omega arith) (record_at rows k d (omega arith)) (record_at rows (k + 1) d b)))

-- what such a search answers
pub find_answer : (rows : List Row) → Ordered (map entry_of rows) → (l k : ℕ) (r : Result ℕ ℕ) → IsSearchInRange r (length rows) → IsBinarySearchResult (λ y. rank (row_node y) (Node l k)) rows r →
    MatchOption (result_ok r) (Within (map entry_of rows) (Node l k) → ⊥) (AtPlace (map entry_of rows) (Node l k))
find_answer rows o l k (Ok i) b h =
    (entry_of (get_or rows i no_row), record_at rows i no_row b, is (rank (row_node (get_or rows i no_row)) (Node l k)) (ranks_nodes (row_node (get_or rows i no_row)) (Node l k)) (h no_row))
  where
    is : (o : Ordering) → MatchOrdering o (Before (row_node (get_or rows i no_row)) (Node l k)) (row_node (get_or rows i no_row) ≡ Node l k) (Before (Node l k) (row_node (get_or rows i no_row))) → o ≡ Equal → row_node (get_or rows i no_row) ≡ Node l k
    is Less m e = absurd (let z : ◌≡◌ {A = ℕ} 0 1 = cc in omega arith)
    is Equal m e = m
    is Greater m e = absurd (let z : ◌≡◌ {A = ℕ} 0 1 = cc in omega arith)
find_answer rows o l k (Err i) b h = λ w.
    let p = in_nth w.0 (map entry_of rows) w.1 in
    let x = row_at rows p.0 w.0 p.1 in
    let e : rank (row_node (get_or rows p.0 no_row)) (Node l k) ≡ Equal = ap (λ (q : Record). rank (node q) (Node l k)) x.1 ∙ ap (λ t. rank t (Node l k)) w.2 ∙ tied_itself law.total-law (Node l k) in
    let s = h (nodes_rise rows o (Node l k)) in
    ⊎_elim (λ c. let d = s.0 p.0 no_row (omega arith) c in let z : ◌≡◌ {A = ℕ} 0 1 = cc in omega arith)
    (λ c. let d = s.1 p.0 no_row c x.0 in let z : ◌≡◌ {A = ℕ} 0 1 = cc in omega arith)
    (cases_lt p.0 i)

-- the place that is found is the one that is named
pub place_is : (rs : List Record) → Ordered rs → (t : Target) (p q : ℕ) → AtPlace rs t p → place_of rs q t ≡ q + p
place_is [] o t p q w = let a = w.1 in let z : ◌≡◌ {A = ℕ} 0 1 = cc in absurd (omega arith)
place_is (r ∷ rs) o t zero q w =
    let d : r ≡ w.0 = (let a = w.1 in cc) in
    cond-true _ _ _ (subst (λ u. names u r ≡ true) (ap node d ∙ w.2) (names_node r)) ∙ omega arith
place_is (r ∷ rs) o t (suc p) q w =
    let m : In w.0 rs = nth_in w.0 rs p w.1 in
    let a = o.0 w.0 m in
    cond-false _ _ _ (names_not t r (λ e. let f = w.2 ∙ e in omega (arith, a, node_level w.0 r f, node_number w.0 r f))) ∙
    place_is rs o.1 t p (q + 1) (w.0, w.1, w.2) ∙ omega arith

pub place_within : (rs : List Record) (t : Target) (p : ℕ) → AtPlace rs t p → Within rs t
place_within rs (Node l k) p w = (w.0, nth_in w.0 rs p w.1, w.2)
place_within rs False p w = tt
place_within rs True p w = tt

-- both targets, by the child of each side
pub kept_each : (rs : List Record) (r : Record) → KeptTargets rs r → (b : Bool) → Within rs (child b r) × Above r.level (child b r)
kept_each rs r h true = h.1
kept_each rs r h false = h.0

mistargeted : (rs : List Record) (r : Record) → (KeptTargets rs r → ⊥) → (b : Bool) × (Within rs (child b r) × Above r.level (child b r) → ⊥)
mistargeted rs r h =
    ⊎_elim (λ e. (true, λ k. h ((decides.target rs r.level r.low).0 e, k)))
    (λ e. (false, λ k. both_ways (test.target rs r.level r.low) e ((decides.target rs r.level r.low).1 k)))
    (cases_Bool (test.target rs r.level r.low))

module _ (rs : List Record) (i : ℕ) (r : Record) (e : Some r ≡ slice_get rs i) where
  pub targets_broken : (KeptTargets rs r → ⊥) → Mistargeted rs i
  targets_broken h = let w = mistargeted rs r h in (r, sym e, w.0, w.1)

  pub targets_kept : KeptTargets rs r → Mistargeted rs i → ⊥
  targets_kept h w =
      let d : r ≡ w.0 = nth_same rs i r w.0 e w.1 in
      w.3 (subst (λ (x : Record). Within rs (child w.2 x) × Above x.level (child w.2 x)) d (kept_each rs r h w.2))

pub targeted_from : (rs : List Record) (i : ℕ) → length rs ≤ i → ((k : ℕ) → k < i → Mistargeted rs k → ⊥) → Targeted rs
targeted_from rs i h f r m b =
    let w = in_nth r rs m in
    stable (test.target rs r.level (child b r)) (decides.target rs r.level (child b r)) (λ n. f w.0 (omega (arith, slice_get_within rs w.0 r w.1)) (r, w.1, b, n))

-- rows filled from records are the records with places for numbers
pub given_placed : (all rs : List Record) (k : ℕ) → given k (map (placed_row all) rs) ≡ place_records all k rs
given_placed all [] k = refl
given_placed all (r ∷ rs) k = ap (λ xs. place_record all k r ∷ xs) (given_placed all rs (k + 1))

-- ---- lists with the same nodes

next_same : (p q x y : Record) → node p ≡ node q → node x ≡ node y → Next p x → Next q y
next_same p q x y e f (inl h) = inl (omega (arith, h.0, node_level p q e, node_level x y f), omega (arith, h.1, node_number p q e, node_number x y f))
next_same p q x y e f (inr h) = inr (omega (arith, h.0, node_level p q e, node_level x y f), omega (arith, h.1, node_number x y f))

follows_same : (p q : Record) → node p ≡ node q → (xs ys : List Record) → map node xs ≡ map node ys → Follows p xs → Follows q ys
follows_same p q d xs [] e h = tt
follows_same p q d [] (y ∷ ys) e h = let z : ◌≡◌ {A = ℕ} 0 1 = cc in absurd (omega arith)
follows_same p q d (x ∷ xs) (y ∷ ys) e h =
    let f : node x ≡ node y = cc in
    let g : map node xs ≡ map node ys = cc in
    (next_same p q x y d f h.0, follows_same x y f xs ys g h.1)

pub numbered_same : (xs ys : List Record) → map node xs ≡ map node ys → Numbered xs → Numbered ys
numbered_same xs [] e h = tt
numbered_same [] (y ∷ ys) e h = let z : ◌≡◌ {A = ℕ} 0 1 = cc in absurd (omega arith)
numbered_same (x ∷ xs) (y ∷ ys) e h =
    let f : node x ≡ node y = cc in
    let g : map node xs ≡ map node ys = cc in
    (omega (arith, h.0, node_number x y f), follows_same x y f xs ys g h.1)

place_of_same : (xs ys : List Record) → map node xs ≡ map node ys → (p l k : ℕ) → place_of xs p (Node l k) ≡ place_of ys p (Node l k)
place_of_same [] [] e p l k = refl
place_of_same [] (y ∷ ys) e p l k = let z : ◌≡◌ {A = ℕ} 0 1 = cc in absurd (omega arith)
place_of_same (x ∷ xs) [] e p l k = let z : ◌≡◌ {A = ℕ} 0 1 = cc in absurd (omega arith)
place_of_same (x ∷ xs) (y ∷ ys) e p l k =
    let f : node x ≡ node y = cc in
    let g : map node xs ≡ map node ys = cc in
    (λ i. cond (eqb l (node_level x y f i) && eqb k (node_number x y f i)) p (place_of_same xs ys g (p + 1) l k i))

module _ (xs ys : List Record) (e : map node xs ≡ map node ys) where
  node_at : (k : ℕ) (r : Record) → slice_get xs k ≡ Some r → (q : Record) × (slice_get ys k ≡ Some q) × (node q ≡ node r)
  node_at k r f = by (slice_get ys k) refl (sym (slice_get-map node ys k) ∙ sym (ap (λ (ts : List Target). slice_get ts k) e) ∙ slice_get-map node xs k ∙ ap (option_map node) f)
    where
      by : (o : Option Record) → slice_get ys k ≡ o → option_map node o ≡ Some (node r) → (q : Record) × (slice_get ys k ≡ Some q) × (node q ≡ node r)
      by None g h = let z : ◌≡◌ {A = ℕ} 0 1 = cc in absurd (omega arith)
      by (Some q) g h = (q, g, cc)

  within_same : (t : Target) → Within xs t → Within ys t
  within_same (Node l k) w =
      let p = in_nth w.0 xs w.1 in
      let n = node_at p.0 w.0 p.1 in
      (n.0, nth_in n.0 ys p.0 n.1, n.2 ∙ w.2)
  within_same False w = tt
  within_same True w = tt

  pub kept_same : (r : Record) → KeptTargets xs r → KeptTargets ys r
  kept_same r h = ((within_same r.low h.0.0, h.0.1), (within_same r.high h.1.0, h.1.1))

  placing_same : (t : Target) → placing xs t ≡ placing ys t
  placing_same (Node l k) = ap (Node l) (place_of_same xs ys e 0 l k)
  placing_same False = refl
  placing_same True = refl

  pub arcs_same : (r : Row) → placed_arcs xs r ≡ placed_arcs ys r
  arcs_same r = λ i. record { low = placing_same r.low i; high = placing_same r.high i; level = r.level; number = r.number; own = r.own; first = r.first; image = r.image }

-- ---- rows of which the first p have places in their arcs

abbrev pub filled : List Record → List Record → ℕ → List Row
filled all rs p = map (placed_row all) (take p rs) ++ map row_of (drop p rs)

pub filled_nodes : (all rs : List Record) (p : ℕ) → map node (map entry_of (filled all rs p)) ≡ map node rs
filled_nodes all [] zero = refl
filled_nodes all [] (suc p) = refl
filled_nodes all (r ∷ rs) zero = ap (λ ts. node r ∷ ts) (filled_nodes all rs zero)
filled_nodes all (r ∷ rs) (suc p) = ap (λ ts. node r ∷ ts) (filled_nodes all rs p)

pub filled_at : (all rs : List Record) (p : ℕ) → p < length rs → (x : Record) × (slice_get rs p ≡ Some x) × (get_or (filled all rs p) p no_row ≡ row_of x)
filled_at all [] p h = absurd (omega arith)
filled_at all (r ∷ rs) zero h = (r, refl, refl)
filled_at all (r ∷ rs) (suc p) h = filled_at all rs p (omega arith)

pub filled_more : (all rs : List Record) (p : ℕ) (x : Record) (y : Row) → slice_get rs p ≡ Some x → y ≡ placed_row all x → set (filled all rs p) p y ≡ filled all rs (p + 1)
filled_more all [] p x y e d = let z : ◌≡◌ {A = ℕ} 0 1 = cc in absurd (omega arith)
filled_more all (r ∷ rs) zero x y e d = let b : r ≡ x = cc in ap (λ v. v ∷ map row_of rs) (d ∙ ap (placed_row all) (sym b))
filled_more all (r ∷ rs) (suc p) x y e d =
    let j : suc p + 1 ≡ suc (p + 1) = omega arith in
    rw j (ap (λ ys. placed_row all r ∷ ys) (filled_more all rs p x y e d))

pub filled_all : (all rs : List Record) (p : ℕ) → length rs ≤ p → filled all rs p ≡ map (placed_row all) rs
filled_all all [] zero h = refl
filled_all all [] (suc p) h = refl
filled_all all (r ∷ rs) zero h = absurd (omega arith)
filled_all all (r ∷ rs) (suc p) h = ap (λ ys. placed_row all r ∷ ys) (filled_all all rs p (omega arith))

-- one row more, of rows xs of which the first p have places in their arcs
module _ (rs : List Record) (xs : List Row) (p : ℕ) (e : xs ≡ filled rs rs p) (h : p < length rs) where
  same : map node (map entry_of xs) ≡ map node rs
  same = ap (λ (v : List Row). map node (map entry_of v)) e ∙ filled_nodes rs rs p

  here : (x : Record) × (slice_get rs p ≡ Some x) × (get_or xs p no_row ≡ row_of x)
  here = let w = filled_at rs rs p h in (w.0, w.1, ap (λ (v : List Row). get_or v p no_row) e ∙ w.2)

  pub filled_numbered : Numbered rs → Numbered (map entry_of xs)
  filled_numbered = numbered_same rs (map entry_of xs) (sym same)

  pub filled_broken : (KeptTargets (map entry_of xs) (entry_of (get_or xs p no_row)) → ⊥) → Mistargeted rs p
  filled_broken n = targets_broken rs p here.0 (sym here.1) (λ k. n (subst⁻¹ (λ (r : Row). KeptTargets (map entry_of xs) (entry_of r)) here.2 (kept_same rs (map entry_of xs) (sym same) here.0 k)))

  pub filled_kept : KeptTargets (map entry_of xs) (entry_of (get_or xs p no_row)) → Mistargeted rs p → ⊥
  filled_kept k = targets_kept rs p here.0 (sym here.1) (kept_same (map entry_of xs) rs same here.0 (subst (λ (r : Row). KeptTargets (map entry_of xs) (entry_of r)) here.2 k))

  pub filled_next : (y : Row) → y ≡ placed_arcs (map entry_of xs) (get_or xs p no_row) → set xs p y ≡ filled rs rs (p + 1)
  filled_next y d = ap (λ (v : List Row). set v p y) e ∙ filled_more rs rs p here.0 y here.1 (d ∙ ap (placed_arcs (map entry_of xs)) here.2 ∙ arcs_same (map entry_of xs) rs same (row_of here.0))

pub placed_node : (rs : List Record) → Ordered rs → (l : ℕ) (t : Target) (own k p : ℕ) → t ≡ Node own k → l < own → AtPlace rs (Node own k) p → KeptTarget rs l t × (Node own p ≡ placing rs t)
placed_node rs o l t own k p e h w =
    subst⁻¹ (λ (u : Target). KeptTarget rs l u × (Node own p ≡ placing rs u)) e
    ((place_within rs (Node own k) p w, h), ap (Node own) (sym (place_is rs o (Node own k) p 0 w ∙ omega arith)))
