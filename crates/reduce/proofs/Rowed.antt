-- Rows of one level: numbers, and the rows that are kept.
use Rattle.std.proofs.Common.{◌≡◌, ℕ, ◌+◌, Bool, true, false, not, ◌⊎◌, List, [], ◌∷◌, sym, refl, ap, ◌∙◌, subst, inl, inr, ⊎_elim, arith}
use mathlib.Core.Path.{subst⁻¹}
use Rattle.std.proofs.lemmas.Bool.{and_parts, and_from, cases_Bool, cond-true, cond-false, both_ways}
use Rattle.listing.specs.declared.Target.{Target}
use Rattle.listing.specs.declared.Record.{Record}
use Rattle.listing.specs.Members.{In}
use Rattle.listing.specs.Listing.{Rises}
use Rattle.listing.proofs.Order.{rises_irr, rises_trans, rises_move}
use Rattle.rows.specs.declared.row.Row.{Row}
use Rattle.listing.specs.Tests.{same_target}
use Rattle.listing.proofs.Deciding as decides
use Rattle.rows.specs.Rows.{zero_row, entry_of, like}
use Rattle.reduce.specs.Passes.{kept, fresh, mark, number_rows}
use Rattle.reduce.specs.Sorts.{Alike, Steps, Onwards, Ascending}
use Rattle.reduce.proofs.Extend.{Block, Climbs}

-- r is one of the rows
abbrev pub On : Row → List Row → Type 0
On r [] = ⊥
On r (q ∷ rs) = (r ≡ q) ⊎ On r rs

pub same_target_eq : (t u : Target) → same_target t u ≡ true → t ≡ u
same_target_eq t u e = (decides.same_target t u).0 e

pub same_target_is : (t u : Target) → t ≡ u → same_target t u ≡ true
same_target_is t u e = (decides.same_target t u).1 e

true_not_false : ◌≡◌ {A = Bool} true false → ⊥
true_not_false e = let z : ◌≡◌ {A = ℕ} 0 1 = cc in omega arith

pub same_target_ne : (t u : Target) → same_target t u ≡ false → t ≡ u → ⊥
same_target_ne t u e f = both_ways (same_target t u) e (same_target_is t u f)

pub same_target_not : (t u : Target) → (t ≡ u → ⊥) → same_target t u ≡ false
same_target_not t u h = ⊎_elim (λ e. absurd (h (same_target_eq t u e))) (λ e. e) (cases_Bool (same_target t u))

not_true : (b : Bool) → not b ≡ true → b ≡ false
not_true true e = sym e
not_true false e = refl

not_false : (b : Bool) → b ≡ false → not b ≡ true
not_false b e = ap not e

like_from : (p r : Row) → Alike p r → like p r ≡ true
like_from p r a = and_from (same_target p.low r.low) (same_target p.high r.high) (same_target_is p.low r.low a.0) (same_target_is p.high r.high a.1)

like_parts : (p r : Row) → like p r ≡ true → Alike p r
like_parts p r e =
    let w = and_parts (same_target p.low r.low) (same_target p.high r.high) e in
    (same_target_eq p.low r.low w.0, same_target_eq p.high r.high w.1)

pub fresh_parts : (p r : Row) → fresh p r ≡ true → (r.low ≡ r.high → ⊥) × (Alike p r → ⊥)
fresh_parts p r e =
    let w = and_parts (not (same_target r.low r.high)) (not (like p r)) e in (
      same_target_ne r.low r.high (not_true _ w.0),
      λ a. true_not_false (sym (like_from p r a) ∙ not_true (like p r) w.1),
    )

-- a row whose targets differ, and that is not fresh, is like the one before it
pub fresh_not : (p r : Row) → fresh p r ≡ false → (r.low ≡ r.high → ⊥) → Alike p r
fresh_not p r e h =
    ⊎_elim (λ f. like_parts p r f)
    (λ f. absurd (true_not_false (sym (and_from (not (same_target r.low r.high)) (not (like p r)) (not_false _ (same_target_not r.low r.high h)) (not_false _ f)) ∙ e)))
    (cases_Bool (like p r))

steps_rises : (p r : Row) (c : Record) → Steps p r → Rises (entry_of r) c → Rises (entry_of p) c
steps_rises p r c (inl a) h = rises_move (entry_of r) c (entry_of p) c (sym a.0) (sym a.1) refl refl h
steps_rises p r c (inr g) h = rises_trans (entry_of p) (entry_of r) c g h

abbrev AllLevel : ℕ → List Row → Type 0
AllLevel l rs = (r : Row) → On r rs → r.level ≡ l

-- the two ways that the numbering goes on
module _ (p r : Row) (rs : List Row) (j k : ℕ) where
  number_new : fresh p r ≡ true → number_rows p j k (r ∷ rs) ≡ mark r true k ∷ number_rows r k (k + 1) rs
  number_new e = cond-true _ _ _ e

  number_old : fresh p r ≡ false → number_rows p j k (r ∷ rs) ≡ mark r false j ∷ number_rows r j k rs
  number_old e = cond-false _ _ _ e

  kept_new : fresh p r ≡ true → kept (number_rows p j k (r ∷ rs)) ≡ entry_of (mark r true k) ∷ kept (number_rows r k (k + 1) rs)
  kept_new e = ap kept (number_new e)

  kept_old : fresh p r ≡ false → kept (number_rows p j k (r ∷ rs)) ≡ kept (number_rows r j k rs)
  kept_old e = ap kept (number_old e)

pub kept_block : (l : ℕ) (p : Row) (j k : ℕ) (rs : List Row) → AllLevel l rs → Block l k (kept (number_rows p j k rs))
kept_block l p j k [] h = tt
kept_block l p j k (r ∷ rs) h = by (kept_block l r k (k + 1) rs (λ q m. h q (inr m))) (kept_block l r j k rs (λ q m. h q (inr m))) (cases_Bool (fresh p r))
  where
    by : Block l (k + 1) (kept (number_rows r k (k + 1) rs)) → Block l k (kept (number_rows r j k rs)) → (fresh p r ≡ true) ⊎ (fresh p r ≡ false) → Block l k (kept (number_rows p j k (r ∷ rs)))
    by a b (inl e) = subst⁻¹ (Block l k) (kept_new p r rs j k e) (h r (inl refl), refl, a)
    by a b (inr e) = subst⁻¹ (Block l k) (kept_old p r rs j k e) b

-- what is kept after p rises above it
kept_rises : (p : Row) (j k : ℕ) (rs : List Row) → Onwards p rs → (c : Record) → In c (kept (number_rows p j k rs)) → Rises (entry_of p) c
kept_rises p j k [] o c m = absurd m
kept_rises p j k (r ∷ rs) o c m = by (kept_rises r k (k + 1) rs o.1 c) (kept_rises r j k rs o.1 c) (cases_Bool (fresh p r))
  where
    up : fresh p r ≡ true → Rises (entry_of p) (entry_of r)
    up e = ⊎_elim (λ a. absurd ((fresh_parts p r e).1 a)) (λ g. g) o.0

    by : (In c (kept (number_rows r k (k + 1) rs)) → Rises (entry_of r) c) → (In c (kept (number_rows r j k rs)) → Rises (entry_of r) c) → (fresh p r ≡ true) ⊎ (fresh p r ≡ false) → Rises (entry_of p) c
    by a b (inl e) =
        ⊎_elim (λ f. rises_move (entry_of p) (entry_of r) (entry_of p) c refl refl (sym (ap (λ (x : Record). x.low) f)) (sym (ap (λ (x : Record). x.high) f)) (up e))
        (λ n. steps_rises p r c o.0 (a n)) (subst (λ (v : List Record). In c v) (kept_new p r rs j k e) m)
    by a b (inr e) = steps_rises p r c o.0 (b (subst (λ (v : List Record). In c v) (kept_old p r rs j k e) m))

climbs_from : (p : Row) (j k : ℕ) (rs : List Row) → Ascending rs → Climbs (kept (number_rows p j k rs))
climbs_from p j k [] o = tt
climbs_from p j k (r ∷ rs) o = by (climbs_from r k (k + 1) rs (tail rs o)) (climbs_from r j k rs (tail rs o)) (cases_Bool (fresh p r))
  where
    tail : (rs : List Row) → Onwards r rs → Ascending rs
    tail [] o = tt
    tail (q ∷ qs) o = o.1

    by : Climbs (kept (number_rows r k (k + 1) rs)) → Climbs (kept (number_rows r j k rs)) → (fresh p r ≡ true) ⊎ (fresh p r ≡ false) → Climbs (kept (number_rows p j k (r ∷ rs)))
    by a b (inl e) =
        subst⁻¹ Climbs (kept_new p r rs j k e)
        ((λ d m. rises_move (entry_of r) d (entry_of (mark r true k)) d refl refl refl refl (kept_rises r k (k + 1) rs o d m)), a)
    by a b (inr e) = subst⁻¹ Climbs (kept_old p r rs j k e) b

pub kept_climbs : (rs : List Row) → Ascending rs → Climbs (kept (number_rows zero_row 0 0 rs))
kept_climbs rs o = climbs_from zero_row 0 0 rs o

-- a kept record with t's targets and number
abbrev pub Kept : List Record → Row → Type 0
Kept cs t = (c : Record) × In c cs × (c.low ≡ t.low) × (c.high ≡ t.high) × (c.number ≡ t.number)

abbrev Kin : Row → ℕ → Row → Type 0
Kin p j t = Alike p t × (t.number ≡ j)

kept_for : (p : Row) (j k : ℕ) (rs : List Row) (t : Row) → On t (number_rows p j k rs) → (t.low ≡ t.high → ⊥) → Kept (kept (number_rows p j k rs)) t ⊎ Kin p j t
kept_for p j k [] t m h = absurd m
kept_for p j k (r ∷ rs) t m h = by (λ n. kept_for r k (k + 1) rs t n h) (λ n. kept_for r j k rs t n h) (cases_Bool (fresh p r))
  where
    new : fresh p r ≡ true → (t ≡ mark r true k) ⊎ (Kept (kept (number_rows r k (k + 1) rs)) t ⊎ Kin r k t) → Kept (entry_of (mark r true k) ∷ kept (number_rows r k (k + 1) rs)) t
    new e (inl f) = (entry_of (mark r true k), inl refl, sym (ap (λ (x : Row). x.low) f), sym (ap (λ (x : Row). x.high) f), sym (ap (λ (x : Row). x.number) f))
    new e (inr (inl w)) = (w.0, inr w.1, w.2, w.3, w.4)
    new e (inr (inr w)) = (entry_of (mark r true k), inl refl, w.0.0, w.0.1, sym w.1)

    old : fresh p r ≡ false → (t ≡ mark r false j) ⊎ (Kept (kept (number_rows r j k rs)) t ⊎ Kin r j t) → Kept (kept (number_rows r j k rs)) t ⊎ Kin p j t
    old e (inl f) =
        let a = fresh_not p r e (λ g. h (ap (λ (x : Row). x.low) f ∙ g ∙ sym (ap (λ (x : Row). x.high) f))) in
        inr ((a.0 ∙ sym (ap (λ (x : Row). x.low) f), a.1 ∙ sym (ap (λ (x : Row). x.high) f)), ap (λ (x : Row). x.number) f)
    old e (inr (inl w)) = inl w
    old e (inr (inr w)) =
        let a = fresh_not p r e (λ g. h (sym w.0.0 ∙ g ∙ w.0.1)) in
        inr ((a.0 ∙ w.0.0, a.1 ∙ w.0.1), w.1)

    by : (On t (number_rows r k (k + 1) rs) → Kept (kept (number_rows r k (k + 1) rs)) t ⊎ Kin r k t) → (On t (number_rows r j k rs) → Kept (kept (number_rows r j k rs)) t ⊎ Kin r j t) →
        (fresh p r ≡ true) ⊎ (fresh p r ≡ false) → Kept (kept (number_rows p j k (r ∷ rs))) t ⊎ Kin p j t
    by a b (inl e) =
        inl (subst⁻¹ (λ (v : List Record). Kept v t) (kept_new p r rs j k e) (new e (⊎_elim (λ f. inl f) (λ n. inr (a n)) (subst (λ (v : List Row). On t v) (number_new p r rs j k e) m))))
    by a b (inr e) =
        subst⁻¹ (λ (v : List Record). Kept v t ⊎ Kin p j t) (kept_old p r rs j k e) (old e (⊎_elim (λ f. inl f) (λ n. inr (b n)) (subst (λ (v : List Row). On t v) (number_old p r rs j k e) m)))

pub kept_of : (rs : List Row) (t : Row) → On t (number_rows zero_row 0 0 rs) → (t.low ≡ t.high → ⊥) → Kept (kept (number_rows zero_row 0 0 rs)) t
kept_of rs t m h = ⊎_elim (λ w. w) (λ w. absurd (h (sym w.0.0 ∙ w.0.1))) (kept_for zero_row 0 0 rs t m h)

-- climbing records are told apart by their targets
climbs_one : (cs : List Record) → Climbs cs → (c d : Record) → In c cs → In d cs → c.low ≡ d.low → c.high ≡ d.high → c ≡ d
climbs_one [] h c d m n e f = absurd m
climbs_one (x ∷ cs) h c d (inl a) (inl b) e f = a ∙ sym b
climbs_one (x ∷ cs) h c d (inl a) (inr n) e f = absurd (rises_irr x d (ap (λ (y : Record). y.low) (sym a) ∙ e) (ap (λ (y : Record). y.high) (sym a) ∙ f) (h.0 d n))
climbs_one (x ∷ cs) h c d (inr m) (inl b) e f = absurd (rises_irr x c (ap (λ (y : Record). y.low) (sym b) ∙ sym e) (ap (λ (y : Record). y.high) (sym b) ∙ sym f) (h.0 c m))
climbs_one (x ∷ cs) h c d (inr m) (inr n) e f = climbs_one cs h.1 c d m n e f

-- rows with equal targets have one number
pub one_number : (rs : List Row) → Ascending rs → (t u : Row) → On t (number_rows zero_row 0 0 rs) → On u (number_rows zero_row 0 0 rs) → (t.low ≡ t.high → ⊥) → Alike t u → t.number ≡ u.number
one_number rs o t u m n h a =
    let v = kept_of rs t m h in
    let w = kept_of rs u n (λ e. h (a.0 ∙ e ∙ sym a.1)) in
    sym v.4 ∙ ap (λ (y : Record). y.number) (climbs_one (kept (number_rows zero_row 0 0 rs)) (kept_climbs rs o) v.0 w.0 v.1 w.1 (v.2 ∙ a.0 ∙ sym w.2) (v.3 ∙ a.1 ∙ sym w.3)) ∙ w.4

-- a kept record is that of a row whose targets differ
pub kept_from : (p : Row) (j k : ℕ) (rs : List Row) (c : Record) → In c (kept (number_rows p j k rs)) → (t : Row) × On t (number_rows p j k rs) × (c ≡ entry_of t) × (t.low ≡ t.high → ⊥)
kept_from p j k [] c m = absurd m
kept_from p j k (r ∷ rs) c m = by (kept_from r k (k + 1) rs c) (kept_from r j k rs c) (cases_Bool (fresh p r))
  where
    Out : List Row → Type 0
    Out v = (t : Row) × On t v × (c ≡ entry_of t) × (t.low ≡ t.high → ⊥)

    by : (In c (kept (number_rows r k (k + 1) rs)) → (t : Row) × On t (number_rows r k (k + 1) rs) × (c ≡ entry_of t) × (t.low ≡ t.high → ⊥)) → (In c (kept (number_rows r j k rs)) → (t : Row) × On t (number_rows r j k rs) × (c ≡ entry_of t) × (t.low ≡ t.high → ⊥)) →
        (fresh p r ≡ true) ⊎ (fresh p r ≡ false) → (t : Row) × On t (number_rows p j k (r ∷ rs)) × (c ≡ entry_of t) × (t.low ≡ t.high → ⊥)
    by a b (inl e) =
        subst⁻¹ (λ (v : List Row). (t : Row) × On t v × (c ≡ entry_of t) × (t.low ≡ t.high → ⊥)) (number_new p r rs j k e)
        (⊎_elim (λ f. (mark r true k, inl refl, f, (fresh_parts p r e).0)) (λ n. let w = a n in (w.0, inr w.1, w.2, w.3)) (subst (λ (v : List Record). In c v) (kept_new p r rs j k e) m))
    by a b (inr e) =
        subst⁻¹ (λ (v : List Row). (t : Row) × On t v × (c ≡ entry_of t) × (t.low ≡ t.high → ⊥)) (number_old p r rs j k e)
        (let w = b (subst (λ (v : List Record). In c v) (kept_old p r rs j k e) m) in (w.0, inr w.1, w.2, w.3))

-- the numbered rows are the rows, but for the number and the flag
pub record Marks (s t : Row) : Type 0 where
  pub low : t.low ≡ s.low
  pub high : t.high ≡ s.high
  pub level : t.level ≡ s.level
  pub own : t.own ≡ s.own

marks_mark : (r : Row) (f : Bool) (k : ℕ) → Marks r (mark r f k)
marks_mark r f k = record { low = refl; high = refl; level = refl; own = refl }

marks_move : (r s t : Row) → s ≡ r → Marks r t → Marks s t
marks_move r s t e h = subst⁻¹ (λ (x : Row). Marks x t) e h

pub marked_back : (p : Row) (j k : ℕ) (rs : List Row) (t : Row) → On t (number_rows p j k rs) → (s : Row) × On s rs × Marks s t
marked_back p j k [] t m = absurd m
marked_back p j k (r ∷ rs) t m = by (marked_back r k (k + 1) rs t) (marked_back r j k rs t) (cases_Bool (fresh p r))
  where
    here : (f : Bool) (i : ℕ) → t ≡ mark r f i → (s : Row) × On s (r ∷ rs) × Marks s t
    here f i e = (r, inl refl, subst⁻¹ (λ (x : Row). Marks r x) e (marks_mark r f i))

    by : (On t (number_rows r k (k + 1) rs) → (s : Row) × On s rs × Marks s t) → (On t (number_rows r j k rs) → (s : Row) × On s rs × Marks s t) → (fresh p r ≡ true) ⊎ (fresh p r ≡ false) → (s : Row) × On s (r ∷ rs) × Marks s t
    by a b (inl e) = ⊎_elim (here true k) (λ n. let w = a n in (w.0, inr w.1, w.2)) (subst (λ (v : List Row). On t v) (number_new p r rs j k e) m)
    by a b (inr e) = ⊎_elim (here false j) (λ n. let w = b n in (w.0, inr w.1, w.2)) (subst (λ (v : List Row). On t v) (number_old p r rs j k e) m)

pub marked_forth : (p : Row) (j k : ℕ) (rs : List Row) (s : Row) → On s rs → (t : Row) × On t (number_rows p j k rs) × Marks s t
marked_forth p j k [] s m = absurd m
marked_forth p j k (r ∷ rs) s m = by (marked_forth r k (k + 1) rs s) (marked_forth r j k rs s) (cases_Bool (fresh p r))
  where
    by : (On s rs → (t : Row) × On t (number_rows r k (k + 1) rs) × Marks s t) → (On s rs → (t : Row) × On t (number_rows r j k rs) × Marks s t) → (fresh p r ≡ true) ⊎ (fresh p r ≡ false) → (t : Row) × On t (number_rows p j k (r ∷ rs)) × Marks s t
    by a b (inl e) =
        subst⁻¹ (λ (v : List Row). (t : Row) × On t v × Marks s t) (number_new p r rs j k e)
        (⊎_elim (λ f. (mark r true k, inl refl, marks_move r s (mark r true k) f (marks_mark r true k))) (λ n. let w = a n in (w.0, inr w.1, w.2)) m)
    by a b (inr e) =
        subst⁻¹ (λ (v : List Row). (t : Row) × On t v × Marks s t) (number_old p r rs j k e)
        (⊎_elim (λ f. (mark r false j, inl refl, marks_move r s (mark r false j) f (marks_mark r false j))) (λ n. let w = b n in (w.0, inr w.1, w.2)) m)
