-- What a step of the readers of lines does to the specification.
use Rattle.std.proofs.Common.{◌≡◌, ℕ, zero, suc, ◌+◌, ◌-◌, ◌*◌, ◌<◌, ◌≤◌, cond, List, [], ◌∷◌, map, length, get_or, take, drop, Some, None, Option, Result, MatchResult, sym, refl, ap, ◌∙◌, ap₂, ◌==◌, ◌⊎◌, inl, inr, length-drop, arith}
use Rattle.std.specs.Option.{unwrap_or}
use Rattle.std.specs.Simd.{first_chunks}
use Rattle.std.proofs.lemmas.List.{drop-drop, drop-take, take-take, get_or-take}
use Rattle.std.proofs.lemmas.Option.{none-some}
use Rattle.std.specs.Result.{IsErrAnd}
use Rattle.std.proofs.lemmas.Result.{err_from_is_err_and}
use Rattle.std.proofs.lemmas.Bool.{cond-true, cond-false, cases_eq, ne_eqb, eq-eqb, lt-ltb, le-ltb}
use Rattle.text.specs.Columns.{numeral, column_of, value_at}
use Rattle.text.specs.Layout.{width, if_read, line_fault, target_of, record_of, lines_of, facts_of, count_of, root_of, at_line, lines_fault, body_fault, text_fault}
use Rattle.text.specs.declared.faults.TextFault.{TextFault}
use Rattle.text.specs.declared.faults.TextFault.TheVariants.{Length, Column}

-- a column that lies in the first n bytes is read from them alone
column_front : (bs : List ℕ) (n at w : ℕ) → at + w ≤ n → take w (drop at (take n bs)) ≡ take w (drop at bs)
column_front bs n at w h =
    let e : n ≡ at + (n - at) = omega arith in
    ap (λ k. take w (drop at (take k bs))) e ∙ ap (take w) (drop-take at (n - at) bs) ∙ take-take w (n - at) (drop at bs) (omega arith)

pub value_front : (bs : List ℕ) (n at w : ℕ) → at + w ≤ n → value_at (take n bs) at w ≡ value_at bs at w
value_front bs n at w h = ap (λ ys. unwrap_or (numeral ys) 0) (column_front bs n at w h)

-- of the header, `hs`
pub header_value : (hs bs : List ℕ) (at w : ℕ) → hs ≡ take 21 bs → at + w ≤ 21 → value_at hs at w ≡ value_at bs at w
header_value hs bs at w e h = ap (λ ys. value_at ys at w) e ∙ value_front bs 21 at w h

pub header_root : (hs bs : List ℕ) (n l k : ℕ) → hs ≡ take 21 bs → n ≡ value_at hs 0 4 → l ≡ value_at hs 10 4 → k ≡ value_at hs 14 6 → target_of n l k ≡ root_of bs
header_root hs bs n l k h d e f =
    ap (λ j. target_of j l k) (d ∙ header_value hs bs 0 4 h (omega arith)) ∙
    ap₂ (λ x y. target_of (facts_of bs) x y) (e ∙ header_value hs bs 10 4 h (omega arith)) (f ∙ header_value hs bs 14 6 h (omega arith))

-- a record is read from its line alone
pub record_front : (n : ℕ) (bs : List ℕ) → record_of n (take 31 bs) ≡ record_of n bs
record_front n bs = λ i. record {
  level = value_front bs 31 0 4 (omega arith) i;
  number = value_front bs 31 4 6 (omega arith) i;
  low = target_of n (value_front bs 31 10 4 (omega arith) i) (value_front bs 31 14 6 (omega arith) i);
  high = target_of n (value_front bs 31 20 4 (omega arith) i) (value_front bs 31 24 6 (omega arith) i);
}

-- how many bytes a line has from column k on, if m columns and the line feed are left
abbrev room : ℕ → ℕ → ℕ
room zero k = 1
room (suc m) k = width k + room m (k + 1)

-- a line's first fault is found in the line alone
pub line_front : (m k n : ℕ) (bs : List ℕ) → room m k ≤ n → line_fault m k (take n bs) ≡ line_fault m k bs
line_front zero k n bs h = ap (λ b. cond (b == 10) None (Some (k + 1))) (get_or-take n bs 0 0 (omega arith))
line_front (suc m) k n bs h =
    let e : n ≡ width k + (n - width k) = omega arith in
    ap₂ (λ o r. if_read o r (Some (k + 1)))
    (ap numeral (take-take (width k) n bs (omega arith)))
    (ap (λ j. line_fault m (k + 1) (drop (width k) (take j bs))) e ∙ ap (line_fault m (k + 1)) (drop-take (width k) (n - width k) bs) ∙ line_front m (k + 1) (n - width k) (drop (width k) bs) (omega arith))

-- one column, where n are left
module _ (bs : List ℕ) (k m n w : ℕ) (left : n ≡ suc m) (wide : w ≡ width k) where
  pub column_some : (v : ℕ) → Some v ≡ column_of bs w → line_fault m (k + 1) (drop w bs) ≡ line_fault n k bs
  column_some v e = rw (left, wide) (ap (λ o. if_read o (line_fault m (k + 1) (drop (width k) bs)) (Some (k + 1))) (e ∙ ap (column_of bs) wide))

  pub column_none : None ≡ column_of bs w → line_fault n k bs ≡ Some (k + 1)
  column_none e = rw left (sym (ap (λ o. if_read o (line_fault m (k + 1) (drop (width k) bs)) (Some (k + 1))) (e ∙ ap (column_of bs) wide)))

-- the line feed
module _ (bs : List ℕ) (k n : ℕ) (left : n ≡ 0) where
  pub feed_yes : get_or bs 0 0 ≡ 10 → line_fault n k bs ≡ None
  feed_yes e = rw (left, e) refl

  pub feed_no : (get_or bs 0 0 ≡ 10 → ⊥) → line_fault n k bs ≡ Some (k + 1)
  feed_no e = rw left (cond-false _ _ _ (ne_eqb _ _ e))

-- a line's fault comes first; where it has none, what follows is told
pub at_some : (o : Option ℕ) (k : ℕ) (rest : Option TextFault) (f : TextFault) → at_line o k None ≡ Some f → at_line o k rest ≡ Some f
at_some (Some c) k rest f e = e
at_some None k rest f e = absurd (none-some f e)

pub at_none : (o : Option ℕ) (k : ℕ) (rest : Option TextFault) → at_line o k None ≡ None → at_line o k rest ≡ rest
at_none (Some c) k rest e = absurd (none-some (Column k c) (sym e))
at_none None k rest e = refl

pub length_lines : (m n : ℕ) (bs : List ℕ) → length (lines_of m n bs) ≡ m
length_lines zero n bs = refl
length_lines (suc m) n bs = ap suc (length_lines m n (drop 31 bs))

-- the exit of a `?` tells the fault that was found
pub exits : {X : Type 0} (r : Result X TextFault) (P : X → Type 0) (o : Option TextFault) (f : TextFault) → IsErrAnd r (λ g. g ≡ f) → o ≡ Some f → MatchResult r P (λ g. o ≡ Some g)
exits r P o f h e = let p = err_from_is_err_and r h in rw p.1 (e ∙ ap Some (sym p.2))

-- the lines as chunks of 31 bytes
pub lines_chunks : (m n : ℕ) (bs : List ℕ) → lines_of m n bs ≡ map (record_of n) (first_chunks 31 m bs)
lines_chunks zero n bs = refl
lines_chunks (suc m) n bs = ap₂ ◌∷◌ (sym (record_front n bs)) (lines_chunks m n (drop 31 bs))

chunk_at : (m i : ℕ) (bs : List ℕ) → i < m → get_or (first_chunks 31 m bs) i [] ≡ take 31 (drop (31 * i) bs)
chunk_at zero i bs h = absurd (omega arith)
chunk_at (suc m) zero bs h = refl
chunk_at (suc m) (suc i) bs h =
    let e : 31 + 31 * i ≡ 31 * suc i = omega arith in
    chunk_at m i (drop 31 bs) (omega arith) ∙ ap (take 31) (drop-drop (31 * i) 31 bs ∙ ap (λ j. drop j bs) e)

-- the lines from line i on, of `count`
module _ (bs : List ℕ) (count i m n : ℕ) (within : i < count) (left : n ≡ suc m) where
  line_at : line_fault 6 0 (get_or (first_chunks 31 count bs) i []) ≡ line_fault 6 0 (drop (31 * i) bs)
  line_at = ap (line_fault 6 0) (chunk_at count i bs within) ∙ line_front 6 0 31 (drop (31 * i) bs) (omega arith)

  pub lines_some : (f : TextFault) → at_line (line_fault 6 0 (get_or (first_chunks 31 count bs) i [])) (i + 1) None ≡ Some f → lines_fault n (i + 1) (drop (31 * i) bs) ≡ Some f
  lines_some f e = rw left (at_some (line_fault 6 0 (drop (31 * i) bs)) (i + 1) _ f (ap (λ o. at_line o (i + 1) None) (sym line_at) ∙ e))

  pub lines_none : at_line (line_fault 6 0 (get_or (first_chunks 31 count bs) i [])) (i + 1) None ≡ None → lines_fault m (i + 1 + 1) (drop (31 * (i + 1)) bs) ≡ lines_fault n (i + 1) (drop (31 * i) bs)
  lines_none e =
      let d : 31 * (i + 1) ≡ 31 * i + 31 = omega arith in
      rw (left, d) (sym (at_none (line_fault 6 0 (drop (31 * i) bs)) (i + 1) _ (ap (λ o. at_line o (i + 1) None) (sym line_at) ∙ e) ∙ ap (lines_fault m (i + 1 + 1)) (drop-drop 31 (31 * i) bs)))

module _ (bs : List ℕ) where
  pub text_short : length bs < 21 → text_fault bs ≡ Some Length
  text_short h = cond-true _ _ _ (lt-ltb (length bs) 21 h)

  pub text_long : 21 ≤ length bs → text_fault bs ≡ at_line (line_fault 4 0 bs) 0 (body_fault bs)
  text_long h = cond-false _ _ _ (le-ltb (length bs) 21 h)

  pub body_lines : (n : ℕ) → n ≡ value_at bs 4 6 → length bs ≡ 21 + 31 * n → body_fault bs ≡ lines_fault n 1 (drop 21 bs)
  body_lines n e h = cond-true _ _ _ (eq-eqb _ _ (h ∙ ap (λ k. 21 + 31 * k) e)) ∙ ap (λ k. lines_fault k 1 (drop 21 bs)) (sym e)

-- the header alone, `hs`, is tested, and then what stands behind it, `ls`
module _ (bs hs ls : List ℕ) (front : hs ≡ take 21 bs) (back : ls ≡ drop 21 bs) (long : 21 ≤ length bs) where
  head_is : line_fault 4 0 hs ≡ line_fault 4 0 bs
  head_is = ap (line_fault 4 0) front ∙ line_front 4 0 21 bs (omega arith)

  pub head_some : (f : TextFault) → at_line (line_fault 4 0 hs) 0 None ≡ Some f → text_fault bs ≡ Some f
  head_some f e = text_long bs long ∙ at_some (line_fault 4 0 bs) 0 (body_fault bs) f (ap (λ o. at_line o 0 None) (sym head_is) ∙ e)

  head_none : at_line (line_fault 4 0 hs) 0 None ≡ None → text_fault bs ≡ body_fault bs
  head_none e = text_long bs long ∙ at_none (line_fault 4 0 bs) 0 (body_fault bs) (ap (λ o. at_line o 0 None) (sym head_is) ∙ e)

  body_is : (n : ℕ) → n ≡ value_at hs 4 6 → body_fault bs ≡ cond (length ls == 31 * n) (lines_fault n 1 ls) (Some Length)
  body_is n e = whole (cases_eq (length bs) (21 + 31 * n))
    where
      count : count_of bs ≡ n
      count = sym (e ∙ header_value hs bs 4 6 front (omega arith))

      size : length ls ≡ length bs - 21
      size = ap length back ∙ length-drop 21 bs

      whole : (length bs ≡ 21 + 31 * n) ⊎ (length bs ≡ 21 + 31 * n → ⊥) → body_fault bs ≡ cond (length ls == 31 * n) (lines_fault n 1 ls) (Some Length)
      whole (inl l) =
          let d : length ls ≡ 31 * n = omega (arith, size, l) in
          body_lines bs n (sym count) l ∙ ap (lines_fault n 1) (sym back) ∙ sym (cond-true _ _ _ (eq-eqb _ _ d))
      whole (inr l) =
          let m : length bs ≡ 21 + 31 * count_of bs → ⊥ = λ k. l (k ∙ ap (λ j. 21 + 31 * j) count) in
          let d : length ls ≡ 31 * n → ⊥ = λ k. l (omega (arith, size, k, long)) in
          cond-false _ _ _ (ne_eqb _ _ m) ∙ sym (cond-false _ _ _ (ne_eqb _ _ d))

  pub behind_is : (n : ℕ) → n ≡ value_at hs 4 6 → at_line (line_fault 4 0 hs) 0 None ≡ None → text_fault bs ≡ cond (length ls == 31 * n) (lines_fault n 1 ls) (Some Length)
  behind_is n e f = head_none f ∙ body_is n e
