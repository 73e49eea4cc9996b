-- The fifth rule of records, by the arcs of their rows.
use Rattle.std.proofs.Common.{◌≡◌, ℕ, zero, suc, ◌+◌, ◌<◌, Bool, true, false, ◌⊎◌, List, [], ◌∷◌, map, length, get_or, take, Some, None, Option, sym, refl, ap, ◌∙◌, subst, inl, inr, ⊎_elim, arith, MatchOption}
use mathlib.Core.Path.{subst⁻¹}
use Rattle.std.specs.List.{slice_get}
use Rattle.std.proofs.lemmas.Bool.{cases_order}
use Rattle.std.proofs.lemmas.List.{length-map}
use Rattle.std.proofs.lemmas.Option.{slice_get_within}
use Rattle.listing.specs.declared.Target.{Target}
use Rattle.listing.specs.declared.Target.TheVariants.{Node, False, True}
use Rattle.listing.specs.declared.Record.{Record}
use Rattle.listing.specs.Members.{In}
use Rattle.listing.specs.Listing.{node, child, Within, Above, Targeted, Aims, Reached, Aimed}
use Rattle.listing.proofs.Rules.{Ordered, ordered}
use Rattle.rows.specs.declared.row.Row.{Row}
use Rattle.rows.specs.Rows.{no_row, given, Inside, AllInside}
use Rattle.rows.specs.Marks.{arc, bare, Named, Unnamed, AllNamed}
use Rattle.rows.specs.Breaks.{First, Unaimed}
use Rattle.rows.specs.Placing.{place_of, placing, place_records, placed_row, AtPlace, Held}
use Rattle.rows.proofs.Breaking.{in_nth, nth_in, nth_same}
use Rattle.rows.proofs.Finding.{ahead_at, place_is, given_placed}
use Rattle.rows.proofs.Marking.{given_bare}

nth_some : {X : Type 0} (xs : List X) (i : ℕ) → i < length xs → (x : X) × (slice_get xs i ≡ Some x)
nth_some [] i h = absurd (omega arith)
nth_some (x ∷ xs) zero h = (x, refl)
nth_some (x ∷ xs) (suc i) h = nth_some xs i (omega arith)

in_take : {X : Type 0} (xs : List X) (j k : ℕ) (x : X) → slice_get xs j ≡ Some x → j < k → In x (take k xs)
in_take [] j k x e h = let z : ◌≡◌ {A = ℕ} 0 1 = cc in absurd (omega arith)
in_take (y ∷ xs) j zero x e h = absurd (omega arith)
in_take (y ∷ xs) zero (suc k) x e h = let d : x ≡ y = cc in inl d
in_take (y ∷ xs) (suc j) (suc k) x e h = inr (in_take xs j k x e (omega arith))

take_in : {X : Type 0} (xs : List X) (k : ℕ) (x : X) → In x (take k xs) → In x xs
take_in [] zero x m = m
take_in [] (suc k) x m = m
take_in (y ∷ xs) zero x m = absurd m
take_in (y ∷ xs) (suc k) x (inl e) = inl e
take_in (y ∷ xs) (suc k) x (inr m) = inr (take_in xs k x m)

getD_placed : (all rs : List Record) (j : ℕ) (q : Record) → slice_get rs j ≡ Some q → get_or (map (placed_row all) rs) j no_row ≡ placed_row all q
getD_placed all [] j q e = let z : ◌≡◌ {A = ℕ} 0 1 = cc in absurd (omega arith)
getD_placed all (r ∷ rs) zero q e = let d : r ≡ q = cc in ap (placed_row all) d
getD_placed all (r ∷ rs) (suc j) q e = getD_placed all rs j q e

arc_placed : (all : List Record) (b : Bool) (q : Record) → arc b (placed_row all q) ≡ placing all (child b q)
arc_placed all true q = refl
arc_placed all false q = refl

aims_child : (b : Bool) (q r : Record) → child b q ≡ node r → Aims q r
aims_child true q r e = inr e
aims_child false q r e = inl e

child_aims : (q r : Record) → Aims q r → (b : Bool) × (child b q ≡ node r)
child_aims q r (inl e) = (false, e)
child_aims q r (inr e) = (true, e)

bare_placed : (all rs : List Record) → map bare (map (placed_row all) rs) ≡ map (placed_row all) rs
bare_placed all [] = refl
bare_placed all (r ∷ rs) = ap (λ xs. placed_row all r ∷ xs) (bare_placed all rs)

module _ (rs : List Record) (o : Ordered rs) (ts : Targeted rs) where
  abbrev rows : List Row
  rows = map (placed_row rs) rs

  many : length rows ≡ length rs
  many = length-map rs (placed_row rs)

  -- a node of the listing is at the place that is named for it
  at_place : (t : Target) (l k : ℕ) → Within rs t → placing rs t ≡ Node l k → AtPlace rs t k
  at_place (Node m j) l k w e =
      let p = in_nth w.0 rs w.1 in
      let q : place_of rs 0 (Node m j) ≡ 0 + p.0 = place_is rs o (Node m j) p.0 0 (w.0, p.1, w.2) in
      let n : place_of rs 0 (Node m j) ≡ k = cc in
      let z : p.0 ≡ k = omega arith in
      (w.0, ap (slice_get rs) (sym z) ∙ p.1, w.2)
  at_place False l k w e = let z : ◌≡◌ {A = ℕ} 0 1 = cc in absurd (omega arith)
  at_place True l k w e = let z : ◌≡◌ {A = ℕ} 0 1 = cc in absurd (omega arith)

  inside_placing : (t : Target) → Within rs t → Inside (length rows) (placing rs t)
  inside_placing (Node l k) w =
      let p = in_nth w.0 rs w.1 in
      omega (arith, many, slice_get_within rs p.0 w.0 p.1, place_is rs o (Node l k) p.0 0 (w.0, p.1, w.2))
  inside_placing False w = tt
  inside_placing True w = tt

  all_inside : (qs : List Record) → ((q : Record) → In q qs → In q rs) → AllInside (length rows) (map (placed_row rs) qs)
  all_inside [] f = tt
  all_inside (q ∷ qs) f =
      ((inside_placing q.low (ts q (f q (inl refl)) false).0, inside_placing q.high (ts q (f q (inl refl)) true).0), all_inside qs (λ p m. f p (inr m)))

  pub inside_placed : AllInside (length rows) rows
  inside_placed = all_inside rs (λ q m. m)

  -- a record with a target on a higher level stands before it
  sooner : (j k : ℕ) (q r : Record) → slice_get rs j ≡ Some q → slice_get rs k ≡ Some r → q.level < r.level → j < k
  sooner j k q r f e up =
      ⊎_elim (λ d. absurd (omega (arith, ap (λ (x : Record). x.level) (nth_same rs k r q (sym e) (subst (λ i. slice_get rs i ≡ Some q) d f)))))
      (λ c. ⊎_elim (λ l. l) (λ l. absurd (omega (arith, ahead_at rs o k j r q l e f))) c)
      (cases_order j k)

  -- an arc to place k is an arc of an earlier record to its node
  arc_aims : (k : ℕ) (r : Record) → slice_get rs k ≡ Some r → (j : ℕ) (q : Record) → slice_get rs j ≡ Some q → (b : Bool) → child b q ≡ node r → (x : Record) × In x (take k rs) × Aims x r
  arc_aims k r e j q f b d =
      let up : q.level < r.level = subst (λ (u : Target). Above q.level u) d (ts q (nth_in q rs j f) b).1 in
      (q, in_take rs j k q f (sooner j k q r f e up), aims_child b q r d)

  arc_node : (k : ℕ) (r : Record) → slice_get rs k ≡ Some r → (j : ℕ) (q : Record) → slice_get rs j ≡ Some q → (b : Bool) (l : ℕ) → arc b (get_or rows j no_row) ≡ Node l k → child b q ≡ node r
  arc_node k r e j q f b l a =
      let p : placing rs (child b q) ≡ Node l k = sym {a = arc b (get_or rows j no_row)} {b = placing rs (child b q)} (ap (arc b) (getD_placed rs rs j q f) ∙ arc_placed rs b q) ∙ a in
      let w = at_place (child b q) l k (ts q (nth_in q rs j f) b).0 p in
      sym w.2 ∙ ap node (sym (nth_same rs k r w.0 (sym e) w.1))

  named_aims : (k : ℕ) (r : Record) → slice_get rs k ≡ Some r → Named rows (length rows) k → (q : Record) × In q (take k rs) × Aims q r
  named_aims k r e w =
      let n = nth_some rs w.0 (omega (arith, w.1, many)) in
      arc_aims k r e w.0 n.0 n.1 w.2 (arc_node k r e w.0 n.0 n.1 w.2 w.3 w.4)

  aims_named : (k : ℕ) (r : Record) → slice_get rs k ≡ Some r → (q : Record) → In q (take k rs) → Aims q r → Named rows (length rows) k
  aims_named k r e q m a =
      let b = child_aims q r a in
      let p = in_nth q rs (take_in rs k q m) in (
        p.0,
        omega (arith, many, slice_get_within rs p.0 q p.1),
        b.0,
        r.level,
        ap (arc b.0) (getD_placed rs rs p.0 q p.1) ∙ arc_placed rs b.0 q ∙ ap (placing rs) b.1 ∙
            ap (Node r.level) (place_is rs o (node r) k 0 (r, e, refl) ∙ omega arith),
      )

  reached_from : (before qs : List Record) → ((k : ℕ) (r : Record) → slice_get qs k ≡ Some r → (q : Record) × (In q before ⊎ In q (take k qs)) × Aims q r) → Reached before qs
  reached_from before [] f = tt
  reached_from before (r ∷ qs) f = (
    (let w = f 0 r refl in (w.0, ⊎_elim (λ m. m) (λ m. absurd m) w.1, w.2)),
    reached_from (r ∷ before) qs (λ k x e. let w = f (suc k) x e in (w.0, ⊎_elim (λ m. inl (inr m)) (λ m. ⊎_elim (λ d. inl (inl d)) (λ j. inr j) m) w.1, w.2)),
  )

  aimed_from : (qs : List Record) → ((k : ℕ) (r : Record) → 0 < k → slice_get qs k ≡ Some r → (q : Record) × In q (take k qs) × Aims q r) → Aimed qs
  aimed_from [] f = tt
  aimed_from (r ∷ qs) f =
      reached_from (r ∷ []) qs (λ k x e. let w = f (suc k) x (omega arith) e in (w.0, ⊎_elim (λ d. inl (inl d)) (λ m. inr m) w.1, w.2))

  pub aimed_named : AllNamed rows → Aimed rs
  aimed_named h = aimed_from rs (λ k r z e. named_aims k r e (h k z (omega (arith, many, slice_get_within rs k r e))))

  pub unaimed_first : (p : ℕ) → First (Unnamed rows) p → First (Unaimed rs) p
  unaimed_first p w =
      let n = nth_some rs p (omega (arith, w.0.1, many)) in (
        (n.0, n.1, w.0.0, (λ q m a. w.0.2 (aims_named p n.0 n.1 q m a))),
        (λ k l u. w.1 k l
            (u.2, omega (arith, many, slice_get_within rs k u.0 u.1), (λ v. let a = named_aims k u.0 u.1 v in u.3 a.0 a.1 a.2))),
      )

-- what the marks ask of the rows
pub held_inside : (rs : List Record) (xs : List Row) → Held rs xs → AllInside (length xs) xs
held_inside rs xs h = subst⁻¹ (λ (ys : List Row). AllInside (length ys) ys) h.are (inside_placed rs (ordered rs h.numbered) h.targeted)

pub held_bare : (rs : List Record) (xs : List Row) → Held rs xs → map bare xs ≡ xs
held_bare rs xs h = subst⁻¹ (λ (ys : List Row). map bare ys ≡ ys) h.are (bare_placed rs rs)

held_given : (rs : List Record) (xs after : List Row) → Held rs xs → map bare after ≡ xs → given 0 after ≡ place_records rs 0 rs
held_given rs xs after h e = sym (given_bare after 0) ∙ ap (given 0) (e ∙ h.are) ∙ given_placed rs rs 0

-- what the rows answer, of the records
pub aim_answer : (rs : List Record) (xs after : List Row) (o : Option ℕ) → Held rs xs → map bare after ≡ xs → MatchOption o (AllNamed xs) (First (Unnamed xs)) → MatchOption o (Aimed rs × (given 0 after ≡ place_records rs 0 rs)) (First (Unaimed rs))
aim_answer rs xs after None h e a = (aimed_named rs (ordered rs h.numbered) h.targeted (subst (λ (ys : List Row). AllNamed ys) h.are a), held_given rs xs after h e)
aim_answer rs xs after (Some p) h e a = unaimed_first rs (ordered rs h.numbered) h.targeted p (subst (λ (ys : List Row). First (Unnamed ys) p) h.are a)
