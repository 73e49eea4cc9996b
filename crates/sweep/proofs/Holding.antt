-- What the rows opened so far hold: levels, terminals for closed children, and arcs to the rows that are known.
use Rattle.std.proofs.Common.{◌≡◌, ℕ, ◌+◌, ◌<◌, ◌≤◌, Bool, true, false, List, length, get_or, set, Some, sym, ap, ◌∙◌, subst, ap₂, ⊎_elim, arith, get_or-set_other, get_or-set_same}
use mathlib.Core.Path.{subst⁻¹}
use Rattle.std.specs.List.{slice_get}
use Rattle.std.proofs.lemmas.Bool.{cases_eq, true≢false}
use Rattle.listing.specs.declared.Target.{Target}
use Rattle.listing.specs.declared.Target.TheVariants.{Node}
use Rattle.listing.specs.Members.{In}
use Rattle.queue.specs.declared.Element.{Element}
use Rattle.rows.specs.declared.row.Row.{Row}
use Rattle.rows.specs.Rows.{no_row}
use Rattle.rows.specs.Marks.{arc}
use Rattle.rows.proofs.Breaking.{nth_in, nth_same}
use Rattle.pairs.specs.declared.Pair.{Pair}
use Rattle.pairs.specs.Pairs.{Run, Sides, level, kid, opens, verdict, Open}
use Rattle.pairs.specs.Rows.{Rows}
use Rattle.listing.specs.Listing.{terminal}
use Rattle.pairs.proofs.Pairs.{kid_ahead}
use Rattle.sweep.specs.declared.faults.Request.{Request}
use Rattle.sweep.specs.Requests.{pointed}
use Rattle.sweep.proofs.Indices.{ahead_places, one_place}
use Rattle.sweep.proofs.Pointing.{Hit, pointed_level, pointed_arc}

module _ (r : Run) (ps : List Pair) where
  -- what the row of the pair q holds, where arcs to the first m rows are pointed
  pub record RowHolds (m : ℕ) (q : Pair) (w : Row) : Type 0 where
    pub level_is : w.level ≡ level r q
    pub shut : (b : Bool) → opens r.operator (kid r b q) ≡ false → arc b w ≡ terminal (verdict r.operator (kid r b q))
    pub aimed : (b : Bool) (i : ℕ) → i < m → slice_get ps i ≡ Some (kid r b q) → arc b w ≡ Node (level r (kid r b q)) i

  -- the first k rows hold this
  abbrev pub Holding : ℕ → ℕ → List Row → Type 0
  Holding k m rows = (j : ℕ) (q : Pair) → j < k → slice_get ps j ≡ Some q → RowHolds m q (get_or rows j no_row)

  pub hold_none : (m : ℕ) (rows : List Row) → Holding 0 m rows
  hold_none m rows j q l e = absurd (omega arith)

  module _ (ok : Sides r) (w : Rows r ps) where
    -- one more row is opened
    pub hold_open : (k : ℕ) (p : Pair) (rows : List Row) (new : Row) → slice_get ps k ≡ Some p → k < length rows → new.level ≡ level r p →
        ((b : Bool) → opens r.operator (kid r b p) ≡ false → arc b new ≡ terminal (verdict r.operator (kid r b p))) →
        Holding k (k + 1) rows → Holding (k + 1) (k + 1) (set rows k new)
    hold_open k p rows new e l lev sh h j q i f = ⊎_elim here there (cases_eq j k)
      where
        row : Row
        row = get_or (set rows k new) j no_row

        here : j ≡ k → RowHolds (k + 1) q (get_or (set rows k new) j no_row)
        here d =
            let z : p ≡ q = nth_same ps k p q (sym e) (subst (λ n. slice_get ps n ≡ Some q) d f) in
            let s = w.sound p (nth_in p ps k e) in
            subst⁻¹ (λ (x : Row). RowHolds (k + 1) q x) (ap (λ n. get_or (set rows k new) n no_row) d ∙ get_or-set_same rows k new no_row l)
            (subst (λ (x : Pair). RowHolds (k + 1) x new) z
            (record {
              level_is = lev;
              shut = sh;
              aimed = λ b n m g. absurd (let y = ahead_places r ps w.ascending k n p (kid r b p) e g (kid_ahead r ok p s.0 s.1 b) in omega arith);
            }))

        there : (j ≡ k → ⊥) → RowHolds (k + 1) q (get_or (set rows k new) j no_row)
        there d = subst⁻¹ (λ (x : Row). RowHolds (k + 1) q x) (get_or-set_other rows k j new no_row d) (h j q (omega arith) f)

    -- the arcs to the next row, which is row m, are pointed
    pub hold_point : {K : Type 0} (k m : ℕ) (p : Pair) (rows : List Row) (es : List (Element K Request)) → slice_get ps m ≡ Some p → k ≤ length rows →
        ((e : Element K Request) → In e es → (q : Pair) → slice_get ps e.carried.row ≡ Some q → kid r e.carried.high q ≡ p) →
        ((j : ℕ) (q : Pair) (b : Bool) → j < k → slice_get ps j ≡ Some q → kid r b q ≡ p → Hit {K = K} (Node (level r p) m) es j b) →
        Holding k m rows → Holding k (m + 1) (pointed (Node (level r p) m) es rows)
    hold_point {K} k m p rows es e l only all h j q i f =
        record {
          level_is = pointed_level {K = K} t es rows j inside ∙ old.level_is;
          shut = λ b c. ⊎_elim (λ x. absurd (true≢false (sym (shown b x.0) ∙ c))) (λ x. x.1 ∙ old.shut b c) (pointed_arc {K = K} t es rows j b inside);
          aimed = λ b n d g. ⊎_elim (λ x. here b n d g x) (λ x. x.1 ∙ old.aimed b n (earlier b n d g x.0) g) (pointed_arc {K = K} t es rows j b inside);
        }
      where
        t : Target
        t = Node (level r p) m

        old : RowHolds m q (get_or rows j no_row)
        old = h j q i f

        inside : j < length rows
        inside = omega arith

        -- an arc that is hit leads to p
        to_p : (b : Bool) → Hit {K = K} (Node (level r p) m) es j b → kid r b q ≡ p
        to_p b x =
            let a = only x.0 x.1 q (subst⁻¹ (λ n. slice_get ps n ≡ Some q) x.2 f) in
            ap (λ d. kid r d q) (sym x.3) ∙ a

        shown : (b : Bool) → Hit {K = K} (Node (level r p) m) es j b → opens r.operator (kid r b q) ≡ true
        shown b x = subst⁻¹ (Open r) (to_p b x) (w.sound p (nth_in p ps m e)).1

        here : (b : Bool) (n : ℕ) → n < m + 1 → slice_get ps n ≡ Some (kid r b q) →
            Hit {K = K} (Node (level r p) m) es j b × (arc b (get_or (pointed (Node (level r p) m) es rows) j no_row) ≡ Node (level r p) m) →
            arc b (get_or (pointed (Node (level r p) m) es rows) j no_row) ≡ Node (level r (kid r b q)) n
        here b n d g x = x.1 ∙ ap₂ Node (ap (level r) (sym (to_p b x.0))) (sym (one_place r ps w.ascending n m (kid r b q) p g e (to_p b x.0)))

        earlier : (b : Bool) (n : ℕ) → n < m + 1 → slice_get ps n ≡ Some (kid r b q) → (Hit {K = K} (Node (level r p) m) es j b → ⊥) → n < m
        earlier b n d g x = ⊎_elim (λ y. absurd (x (all j q b i f (nth_same ps m (kid r b q) p (sym (subst (λ z. slice_get ps z ≡ Some (kid r b q)) y g)) e)))) (λ y. omega arith) (cases_eq n m)
