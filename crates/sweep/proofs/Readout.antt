-- When all rows are opened, the rows hold the run's records, arcs naming places.
use Rattle.std.proofs.Common.{◌≡◌, ℕ, zero, suc, ◌+◌, ◌<◌, ◌≤◌, Bool, true, false, List, [], ◌∷◌, map, length, get_or, take, Some, sym, refl, ap, ◌∙◌, ap₂, ⊎_elim, arith, get_or-take}
use Rattle.std.specs.List.{slice_get}
use Rattle.std.proofs.lemmas.Bool.{cases_Bool, cond-true, cond-false}
use Rattle.std.proofs.lemmas.List.{length-map, length-take-le}
use Rattle.std.proofs.lemmas.Option.{slice_get-get_or, slice_get_within}
use Rattle.listing.specs.declared.Target.TheVariants.{Node}
use Rattle.listing.specs.declared.Record.{Record}
use Rattle.listing.specs.Listing.{child, terminal}
use Rattle.listing.proofs.Rules.{Ordered, ordered}
use Rattle.rows.specs.declared.row.Row.{Row}
use Rattle.rows.specs.Rows.{no_row, given}
use Rattle.rows.specs.Marks.{arc}
use Rattle.rows.specs.Placing.{placing, place_records}
use Rattle.rows.proofs.Breaking.{in_nth, nth_in, nth_same}
use Rattle.rows.proofs.Finding.{place_is}
use Rattle.pairs.specs.declared.Pair.{Pair}
use Rattle.pairs.specs.Pairs.{Run, Sides, level, kid, opens, verdict, Open}
use Rattle.pairs.specs.Rows.{Rows, by_arc}
use Rattle.pairs.specs.Records.{place, name, row, records_of}
use Rattle.pairs.proofs.RowsList.{rows_list}
use Rattle.sweep.proofs.Holding.{Holding, RowHolds}

-- w describes x, arcs naming places
record Describes (all : List Record) (w : Row) (x : Record) : Type 0 where
  level_is : w.level ≡ x.level
  arcs : (b : Bool) → arc b w ≡ placing all (child b x)

given_is : (all : List Record) (k : ℕ) (rows : List Row) (xs : List Record) → length rows ≡ length xs →
    ((j : ℕ) (w : Row) (x : Record) → slice_get rows j ≡ Some w → slice_get xs j ≡ Some x → Describes all w x) → given k rows ≡ place_records all k xs
given_is all k [] [] e h = refl
given_is all k [] (x ∷ xs) e h = absurd (omega arith)
given_is all k (w ∷ rows) [] e h = absurd (omega arith)
given_is all k (w ∷ rows) (x ∷ xs) e h =
    let d = h 0 w x refl refl in
    ap₂ ◌∷◌ (λ i. record { level = d.level_is i; number = k; low = d.arcs false i; high = d.arcs true i })
    (given_is all (k + 1) rows xs (omega (arith, e)) (λ j v y f g. h (suc j) v y f g))

map_nth : {X Y : Type 0} (f : X → Y) (xs : List X) (j : ℕ) (y : Y) → slice_get (map f xs) j ≡ Some y → (x : X) × (slice_get xs j ≡ Some x) × (y ≡ f x)
map_nth f [] j y e = let z : ◌≡◌ {A = ℕ} 0 1 = cc in absurd (omega arith)
map_nth f (x ∷ xs) zero y e = let z : f x ≡ y = cc in (x, refl, sym z)
map_nth f (x ∷ xs) (suc j) y e = map_nth f xs j y e

nth_map : {X Y : Type 0} (f : X → Y) (xs : List X) (j : ℕ) (x : X) → slice_get xs j ≡ Some x → slice_get (map f xs) j ≡ Some (f x)
nth_map f [] j x e = let z : ◌≡◌ {A = ℕ} 0 1 = cc in absurd (omega arith)
nth_map f (y ∷ xs) zero x e = let z : y ≡ x = cc in ap (λ v. Some (f v)) z
nth_map f (y ∷ xs) (suc j) x e = nth_map f xs j x e

take_nth : (n : ℕ) (rows : List Row) (j : ℕ) (w : Row) → n ≤ length rows → slice_get (take n rows) j ≡ Some w → (j < n) × (w ≡ get_or rows j no_row)
take_nth n rows j w l e =
    let b : j < n = omega (arith, slice_get_within (take n rows) j w e, length-take-le n rows l) in
    let z : slice_get (take n rows) j ≡ Some (get_or (take n rows) j no_row) = slice_get-get_or (take n rows) j no_row (omega (arith, length-take-le n rows l)) in
    let y : w ≡ get_or (take n rows) j no_row = nth_same (take n rows) j w (get_or (take n rows) j no_row) (sym e) z in
    (b, y ∙ get_or-take n rows j no_row b)

module _ (r : Run) (ok : Sides r) (ps : List Pair) (w : Rows r ps) where
  abbrev all : List Record
  all = records_of r ps

  ord : Ordered (records_of r ps)
  ord = ordered (records_of r ps) (rows_list r ok ps w).numbered

  placing_terminal : (rs : List Record) (b : Bool) → placing rs (terminal b) ≡ terminal b
  placing_terminal rs true = refl
  placing_terminal rs false = refl

  -- an open pair's place is its row's
  placing_open : (q : Pair) (i : ℕ) → slice_get ps i ≡ Some q → Open r q → placing (records_of r ps) (name r ps q) ≡ Node (level r q) i
  unfolding records_of name row
  placing_open q i e o =
      ap (placing (map (row r ps) ps)) (cond-true (opens r.operator q) _ _ o) ∙
      ap (Node (level r q)) (place_is (map (row r ps) ps) ord (Node (level r q) (place r ps q)) i 0 (row r ps q, nth_map (row r ps) ps i q e, refl) ∙ omega arith)

  placing_shut : (q : Pair) → opens r.operator q ≡ false → placing (records_of r ps) (name r ps q) ≡ terminal (verdict r.operator q)
  unfolding name
  placing_shut q c = ap (placing (records_of r ps)) (cond-false (opens r.operator q) _ _ c) ∙ placing_terminal (records_of r ps) (verdict r.operator q)

  child_name : (q : Pair) (b : Bool) → child b (row r ps q) ≡ name r ps (kid r b q)
  unfolding row
  child_name q true = refl
  child_name q false = refl

  row_level : (q : Pair) → (row r ps q).level ≡ level r q
  unfolding row
  row_level q = refl

  module _ (rows : List Row) (l : length ps ≤ length rows) (h : Holding r ps (length ps) (length ps) rows) where
    arc_is : (q : Pair) (j : ℕ) → slice_get ps j ≡ Some q → (b : Bool) → RowHolds r ps (length ps) q (get_or rows j no_row) → arc b (get_or rows j no_row) ≡ placing (records_of r ps) (name r ps (kid r b q))
    arc_is q j e b v = ⊎_elim yes_open (λ c. v.shut b c ∙ sym (placing_shut (kid r b q) c)) (cases_Bool (opens r.operator (kid r b q)))
      where
        yes_open : opens r.operator (kid r b q) ≡ true → arc b (get_or rows j no_row) ≡ placing (records_of r ps) (name r ps (kid r b q))
        yes_open o =
            let s = w.sound q (nth_in q ps j e) in
            let i = in_nth (kid r b q) ps (w.full (kid r b q) (by_arc q b s.0 s.1 refl) o) in
            v.aimed b i.0 (slice_get_within ps i.0 (kid r b q) i.1) i.1 ∙ sym (placing_open (kid r b q) i.0 i.1 o)

    pub held : given 0 (take (length ps) rows) ≡ place_records (records_of r ps) 0 (records_of r ps)
    unfolding records_of
    held =
        given_is (records_of r ps) 0 (take (length ps) rows) (map (row r ps) ps) (length-take-le (length ps) rows l ∙ sym (length-map ps (row r ps)))
        (λ j v x e f.
        let t = take_nth (length ps) rows j v l e in
        let m = map_nth (row r ps) ps j x f in
        let y = h j m.0 t.0 m.1 in
        record {
          level_is = ap (λ (z : Row). z.level) t.1 ∙ y.level_is ∙ sym (row_level m.0) ∙ ap (λ (z : Record). z.level) (sym m.2);
          arcs = λ b. ap (arc b) t.1 ∙ arc_is m.0 j m.1 b y ∙ ap (placing (records_of r ps)) (sym (child_name m.0 b) ∙ ap (child b) (sym m.2));
        })
