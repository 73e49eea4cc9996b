-- A text without a fault is well formed.
use Rattle.std.proofs.Common.{◌≡◌, ℕ, zero, suc, ◌+◌, ◌-◌, ◌*◌, ◌/◌, ◌<◌, Bool, true, false, cond, eqb, ltb, List, length, get_or, drop, is_some, Some, None, Option, sym, refl, ap, ◌∙◌, arith}
use Rattle.std.proofs.lemmas.List.{drop-drop, get_or-drop}
use Rattle.std.proofs.lemmas.Bool.{eqb-true}
use Rattle.std.proofs.lemmas.Option.{none-some}
use Rattle.text.specs.declared.faults.TextFault.{TextFault}
use Rattle.text.specs.declared.faults.TextFault.TheVariants.{Length, Column}
use Rattle.text.specs.Columns.{column_of}
use Rattle.text.specs.Layout.{width, if_read, line_fault, at_line, lines_of, lines_fault, facts_of, count_of, records_of, body_fault, text_fault}
use Rattle.text.specs.Opened.{Header, Line, WellFormed}

read_both : (o x : Option ℕ) (c : ℕ) → if_read o x (Some c) ≡ None → (is_some o ≡ true) × (x ≡ None)
read_both (Some v) x c e = (refl, e)
read_both None x c e = absurd (none-some c (sym e))

at_both : (o : Option ℕ) (k : ℕ) (rest : Option TextFault) → at_line o k rest ≡ None → (o ≡ None) × (rest ≡ None)
at_both (Some c) k rest e = absurd (none-some (Column k c) (sym e))
at_both None k rest e = (refl, e)

then_none : {X : Type 0} (b : Bool) (x : Option X) (y : X) → cond b x (Some y) ≡ None → (b ≡ true) × (x ≡ None)
then_none true x y e = (refl, e)
then_none false x y e = absurd (none-some y (sym e))

else_none : {X : Type 0} (b : Bool) (x : Option X) (y : X) → cond b (Some y) x ≡ None → x ≡ None
else_none true x y e = absurd (none-some y (sym e))
else_none false x y e = e

-- one column of a line without a fault, `at` bytes from the line's start; the rest of the line has no fault either
module _ (bs : List ℕ) (m k at : ℕ) (e : line_fault (suc m) k (drop at bs) ≡ None) where
  pub column_reads : is_some (column_of (drop at bs) (width k)) ≡ true
  column_reads = (read_both (column_of (drop at bs) (width k)) (line_fault m (k + 1) (drop (width k) (drop at bs))) (k + 1) e).0

  pub column_rests : line_fault m (k + 1) (drop (at + width k) bs) ≡ None
  column_rests =
      ap (line_fault m (k + 1)) (sym (drop-drop (width k) at bs)) ∙
      (read_both (column_of (drop at bs) (width k)) (line_fault m (k + 1) (drop (width k) (drop at bs))) (k + 1) e).1

feed_at : (bs : List ℕ) (k at : ℕ) → line_fault 0 k (drop at bs) ≡ None → get_or bs at 0 ≡ 10
feed_at bs k at e =
    let j : at + 0 ≡ at = omega arith in
    ap (λ i. get_or bs i 0) (sym j) ∙ sym (get_or-drop at bs 0 0) ∙ eqb-true (get_or (drop at bs) 0 0) 10 (then_none (eqb (get_or (drop at bs) 0 0) 10) None (k + 1) flipped).0
  where
    flipped : cond (eqb (get_or (drop at bs) 0 0) 10) None (Some (k + 1)) ≡ None
    flipped = e

header_reads : (bs : List ℕ) → line_fault 4 0 bs ≡ None → Header bs
header_reads bs e0 =
    let e1 = column_rests bs 3 0 0 e0 in
    let e2 = column_rests bs 2 1 4 e1 in
    let e3 = column_rests bs 1 2 10 e2 in
    let e4 = column_rests bs 0 3 14 e3 in
    record {
      facts = column_reads bs 3 0 0 e0;
      count = column_reads bs 2 1 4 e1;
      root_level = column_reads bs 1 2 10 e2;
      root_number = column_reads bs 0 3 14 e3;
      feed = feed_at bs 4 20 e4;
    }

line_reads : (bs : List ℕ) → line_fault 6 0 bs ≡ None → Line bs
line_reads bs e0 =
    let e1 = column_rests bs 5 0 0 e0 in
    let e2 = column_rests bs 4 1 4 e1 in
    let e3 = column_rests bs 3 2 10 e2 in
    let e4 = column_rests bs 2 3 14 e3 in
    let e5 = column_rests bs 1 4 20 e4 in
    let e6 = column_rests bs 0 5 24 e5 in
    record {
      own_level = column_reads bs 5 0 0 e0;
      own_number = column_reads bs 4 1 4 e1;
      low_level = column_reads bs 3 2 10 e2;
      low_number = column_reads bs 2 3 14 e3;
      high_level = column_reads bs 1 4 20 e4;
      high_number = column_reads bs 0 5 24 e5;
      feed = feed_at bs 6 30 e6;
    }

lines_read : (m k : ℕ) (bs : List ℕ) → lines_fault m k bs ≡ None → (i : ℕ) → i < m → Line (drop (31 * i) bs)
lines_read zero k bs e i h = absurd (omega arith)
lines_read (suc m) k bs e zero h = line_reads bs (at_both (line_fault 6 0 bs) k (lines_fault m (k + 1) (drop 31 bs)) e).0
lines_read (suc m) k bs e (suc i) h =
    let j : 31 * suc i ≡ 31 + 31 * i = omega arith in
    rw (j, ← drop-drop (31 * i) 31 bs) (lines_read m (k + 1) (drop 31 bs) (at_both (line_fault 6 0 bs) k (lines_fault m (k + 1) (drop 31 bs)) e).1 i (omega arith))

pub well_formed : (bs : List ℕ) → text_fault bs ≡ None → WellFormed bs
well_formed bs e =
    let whole = at_both (line_fault 4 0 bs) 0 (body_fault bs) (else_none (ltb (length bs) 21) (at_line (line_fault 4 0 bs) 0 (body_fault bs)) Length e) in
    let body = then_none (eqb (length bs) (21 + 31 * count_of bs)) (lines_fault (count_of bs) 1 (drop 21 bs)) Length whole.1 in
    record {
      size = eqb-true (length bs) (21 + 31 * count_of bs) body.0;
      header = header_reads bs whole.0;
      lines = λ i h. rw (← drop-drop (31 * i) 21 bs) (lines_read (count_of bs) 1 (drop 21 bs) body.1 i h);
    }

-- where the length fits, the whole lines behind the header are N
pub whole_lines : (bs : List ℕ) (n : ℕ) → length bs ≡ 21 + 31 * count_of bs → n ≡ facts_of bs → lines_of ((length bs - 21) / 31) n (drop 21 bs) ≡ records_of bs
whole_lines bs n h e =
    let l : (length bs - 21) / 31 ≡ count_of bs = omega arith in
    ap (λ m. lines_of m n (drop 21 bs)) l ∙ ap (λ k. lines_of (count_of bs) k (drop 21 bs)) e
