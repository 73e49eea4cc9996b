-- Marking the rows that arcs name.
use Rattle.std.proofs.Common.{◌≡◌, ℕ, zero, suc, ◌+◌, ◌<◌, Bool, true, false, ◌⊎◌, List, [], ◌∷◌, map, length, get_or, set, Some, None, Decides, Option, sym, refl, ap, ◌∙◌, inl, inr, ⊎_elim, arith, get_or-set_other, get_or-set_same, MatchOption}
use mathlib.Core.Path.{subst⁻¹}
use Rattle.std.proofs.lemmas.Bool.{cases_eq, both_ways}
use Rattle.std.proofs.lemmas.List.{length-map}
use Rattle.listing.specs.declared.Target.{Target}
use Rattle.listing.specs.declared.Target.TheVariants.{Node, False, True}
use Rattle.listing.proofs.Walk.{num}
use Rattle.rows.specs.declared.row.Row.{Row}
use Rattle.rows.specs.Rows.{no_row, given, Inside, AllInside}
use Rattle.rows.specs.Marks.{arc, with_mark, bare, marked, Named, Marks, Unnamed, AllNamed}
use Rattle.rows.specs.Breaks.{First}

-- all but the mark of a row at a place
pub getD_bare : (rows : List Row) (k : ℕ) → get_or (map bare rows) k no_row ≡ bare (get_or rows k no_row)
getD_bare [] k = refl
getD_bare (r ∷ rows) zero = refl
getD_bare (r ∷ rows) (suc k) = getD_bare rows k

arc_bare : (b : Bool) (r : Row) → arc b (bare r) ≡ arc b r
arc_bare true r = refl
arc_bare false r = refl

pub arc_kept : (rows all : List Row) → map bare rows ≡ all → (b : Bool) (k : ℕ) → arc b (get_or rows k no_row) ≡ arc b (get_or all k no_row)
arc_kept rows all e b k = sym (arc_bare b (get_or rows k no_row)) ∙ ap (arc b) (sym (getD_bare rows k) ∙ ap (λ xs. get_or xs k no_row) e)

set_bare : (rows : List Row) (p : ℕ) → map bare (set rows p (with_mark true (get_or rows p no_row))) ≡ map bare rows
set_bare [] p = refl
set_bare (r ∷ rows) zero = refl
set_bare (r ∷ rows) (suc p) = ap (λ xs. bare r ∷ xs) (set_bare rows p)

pub marked_bare : (t : Target) (rows : List Row) → map bare (marked t rows) ≡ map bare rows
marked_bare (Node l p) rows = set_bare rows p
marked_bare False rows = refl
marked_bare True rows = refl

pub given_bare : (rows : List Row) (k : ℕ) → given k (map bare rows) ≡ given k rows
given_bare [] k = refl
given_bare (r ∷ rows) k = ap (λ xs. record { level = r.level; number = k; low = r.low; high = r.high } ∷ xs) (given_bare rows (k + 1))

abbrev Hits : Target → ℕ → Type 0
Hits t k = (l : ℕ) × (t ≡ Node l k)

-- after a mark, exactly the place named is marked besides those marked before
pub marked_first : (t : Target) (rows : List Row) (k : ℕ) → k < length rows → Decides (get_or (marked t rows) k no_row).first (((get_or rows k no_row).first ≡ true) ⊎ Hits t k)
marked_first (Node l p) rows k h =
    ⊎_elim
    (λ e.
    let f : get_or (set rows p (with_mark true (get_or rows p no_row))) k no_row ≡ with_mark true (get_or rows p no_row) =
    ap (λ j. get_or (set rows p (with_mark true (get_or rows p no_row))) j no_row) e ∙ get_or-set_same rows p (with_mark true (get_or rows p no_row)) no_row (omega arith) in
    ((λ t. inr (l, ap (Node l) (sym e))), (λ _. ap (λ (r : Row). r.first) f)))
    (λ n.
    let f : get_or (set rows p (with_mark true (get_or rows p no_row))) k no_row ≡ get_or rows k no_row = get_or-set_other rows p k (with_mark true (get_or rows p no_row)) no_row n in (
      (λ t. inl (sym (ap (λ (r : Row). r.first) f) ∙ t)),
      (λ w. ap (λ (r : Row). r.first) f ∙ ⊎_elim (λ t. t) (λ q. absurd (n (sym (ap num q.1)))) w),
    ))
    (cases_eq k p)
marked_first False rows k h = ((λ t. inl t), (λ w. ⊎_elim (λ t. t) (λ q. let z : ◌≡◌ {A = ℕ} 0 1 = (let a = q.1 in cc) in absurd (omega arith)) w))
marked_first True rows k h = ((λ t. inl t), (λ w. ⊎_elim (λ t. t) (λ q. let z : ◌≡◌ {A = ℕ} 0 1 = (let a = q.1 in cc) in absurd (omega arith)) w))

length_marked : (t : Target) (rows : List Row) → length (marked t rows) ≡ length rows
length_marked t rows = sym (length-map (marked t rows) bare) ∙ ap length (marked_bare t rows) ∙ length-map rows bare

pub inside_at : (n : ℕ) (rows : List Row) → AllInside n rows → (k : ℕ) → k < length rows → (b : Bool) → Inside n (arc b (get_or rows k no_row))
inside_at n [] h k l b = absurd (omega arith)
inside_at n (r ∷ rows) h zero l true = h.0.1
inside_at n (r ∷ rows) h zero l false = h.0.0
inside_at n (r ∷ rows) h (suc k) l b = inside_at n rows h.1 k (omega arith) b

-- marking both arcs of the next row
module _ (all rows : List Row) (i : ℕ) (e : map bare rows ≡ all) (h : Marks all i rows) (low high : Target) (lo : low ≡ arc false (get_or all i no_row)) (hi : high ≡ arc true (get_or all i no_row)) where
  long : length all ≡ length rows
  long = ap length (sym e) ∙ length-map rows bare

  sides : (k : ℕ) → Named all (i + 1) k → Named all i k ⊎ (Hits low k ⊎ Hits high k)
  sides k w = ⊎_elim (λ d. inr (at w.2 (w.3, ap (λ j. arc w.2 (get_or all j no_row)) (sym d) ∙ w.4))) (λ d. inl (w.0, omega arith, w.2, w.3, w.4)) (cases_eq w.0 i)
    where
      at : (b : Bool) → (l : ℕ) × (arc b (get_or all i no_row) ≡ Node l k) → Hits low k ⊎ Hits high k
      at true q = inr (q.0, hi ∙ q.1)
      at false q = inl (q.0, lo ∙ q.1)

  pub marks_more : Marks all (i + 1) (marked high (marked low rows))
  marks_more k l =
      let a = marked_first low rows k (omega (arith, long)) in
      let b = marked_first high (marked low rows) k (omega (arith, long, length_marked low rows)) in (
        (λ t. ⊎_elim
            (λ s. ⊎_elim (λ u. let w = (h k l).0 u in (w.0, omega (arith, w.1), w.2, w.3, w.4)) (λ q. (i, omega arith, false, q.0, sym lo ∙ q.1)) (a.0 s))
            (λ q. (i, omega arith, true, q.0, sym hi ∙ q.1))
            (b.0 t)),
        (λ w. b.1 (⊎_elim (λ v. inl (a.1 (inl ((h k l).1 v)))) (λ q. ⊎_elim (λ x. inl (a.1 (inr x))) (λ y. inr y) q) (sides k w))),
      )

-- what the first unmarked place is
pub unmarked_all : (all rows : List Row) → Marks all (length all) rows → length all ≡ length rows → ((k : ℕ) → 0 < k → k < length rows → (get_or rows k no_row).first ≡ true) → AllNamed all
unmarked_all all rows m e f k z l = (m k l).0 (f k z (omega arith))

pub unmarked_first : (all rows : List Row) → Marks all (length all) rows → length all ≡ length rows → (p : ℕ) → (0 < p) × (p < length rows) × ((get_or rows p no_row).first ≡ false) × ((k : ℕ) → 0 < k → k < p → (get_or rows k no_row).first ≡ true) → First (Unnamed all) p
unmarked_first all rows m e p w = (
  (w.0, omega (arith, w.1), (λ n. both_ways (get_or rows p no_row).first w.2 ((m p (omega (arith, w.1))).1 n))),
  (λ k l u. u.2 ((m k u.1).0 (w.3 k u.0 l))),
)

pub inside_kept : (n : ℕ) (all rows : List Row) → map bare rows ≡ all → AllInside (length all) all → n ≡ length all → (k : ℕ) → k < length all → (b : Bool) → Inside n (arc b (get_or rows k no_row))
inside_kept n all rows e h l k b s =
    subst⁻¹ (λ (m : ℕ). Inside m (arc s (get_or rows k no_row))) l (subst⁻¹ (λ (t : Target). Inside (length all) t) (arc_kept rows all e s k) (inside_at (length all) all h k b s))

-- both arcs of a row marked
pub marks_next : (all rows mid after : List Row) (i : ℕ) → map bare rows ≡ all → Marks all i rows →
    mid ≡ marked (arc false (get_or rows i no_row)) rows → after ≡ marked (arc true (get_or rows i no_row)) mid →
    (map bare after ≡ all) × Marks all (i + 1) after
marks_next all rows mid after i e h f g =
    let d : after ≡ marked (arc true (get_or rows i no_row)) (marked (arc false (get_or rows i no_row)) rows) = g ∙ ap (marked (arc true (get_or rows i no_row))) f in (
      ap (map bare) d ∙ marked_bare (arc true (get_or rows i no_row)) (marked (arc false (get_or rows i no_row)) rows) ∙ marked_bare (arc false (get_or rows i no_row)) rows ∙ e,
      subst⁻¹ (λ (xs : List Row). Marks all (i + 1) xs) d
          (marks_more all rows i e h (arc false (get_or rows i no_row)) (arc true (get_or rows i no_row)) (arc_kept rows all e false i) (arc_kept rows all e true i)),
    )

pub unmarked_answer : (all rows : List Row) (o : Option ℕ) → Marks all (length all) rows → length all ≡ length rows →
    MatchOption o ((k : ℕ) → 0 < k → k < length rows → (get_or rows k no_row).first ≡ true) (λ p. (0 < p) × (p < length rows) × ((get_or rows p no_row).first ≡ false) × ((k : ℕ) → 0 < k → k < p → (get_or rows k no_row).first ≡ true)) →
    MatchOption o (AllNamed all) (First (Unnamed all))
unmarked_answer all rows None m e h = unmarked_all all rows m e h
unmarked_answer all rows (Some p) m e h = unmarked_first all rows m e p h
