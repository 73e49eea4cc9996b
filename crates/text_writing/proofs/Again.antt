-- What is written is read again.
use Rattle.std.proofs.Common.{◌≡◌, ℕ, zero, suc, ◌+◌, ◌-◌, ◌*◌, ◌/◌, ◌%◌, ◌^◌, ◌<◌, ◌≤◌, true, false, List, [], ◌∷◌, ◌++◌, length, take, drop, Some, None, unwrap_or, sym, refl, ap, ◌∙◌, subst, ap₂, inl, inr, ⊎_elim, append_assoc, pow-suc, arith}
use mathlib.Core.Path.{subst⁻¹}
use Rattle.std.specs.List.{flat_map}
use Rattle.std.proofs.lemmas.List.{drop-drop, drop_at, take_at}
use Rattle.std.proofs.lemmas.Bool.{cond-true, cond-false, eq-eqb, ne_eqb, cases_lt}
use Rattle.listing.specs.declared.Target.{Target}
use Rattle.listing.specs.declared.Target.TheVariants.{Node, False, True}
use Rattle.listing.specs.declared.Record.{Record}
use Rattle.listing.specs.Members.{In}
use Rattle.listing.specs.Listing.{depth, Within, Levelled, Follows, Next, Numbered}
use Rattle.listing.proofs.Rules.{root_within}
use Rattle.text.specs.Columns.{digits, numeral, column_of, value_at}
use Rattle.text.specs.Layout.{width, target_of, record_of, lines_of, facts_of, count_of, root_of, records_of, line_fault, at_line, lines_fault, text_fault}
use Rattle.text_writing.specs.Writing.{lead, leading, padded, pair, number_of, aim, header, columns, line, written, Tells, OpensAgain}
use Rattle.text.proofs.Numbers.{yes_digit}
use Rattle.text.proofs.Lines.{column_some, text_long, body_lines}
use Rattle.text_writing.proofs.Written.{length_padded, length_pair, length_header, length_line, length_written}

-- a number in its column: blanks are passed over, and each digit is read as it was written
blanks_read : (w : ℕ) (ys : List ℕ) → numeral (leading w 0 ++ ys) ≡ numeral ys
unfolding leading
blanks_read zero ys = refl
blanks_read (suc w) ys = ap numeral (append_assoc (leading w 0) (32 ∷ []) ys) ∙ blanks_read w (32 ∷ ys)

digit_read : (v : ℕ) (ys : List ℕ) → digits (v / 10) ((48 + v % 10) ∷ ys) ≡ digits v ys
digit_read v ys =
    let e : v / 10 * 10 + (48 + v % 10 - 48) ≡ v = omega arith in
    cond-true _ _ _ (yes_digit (48 + v % 10) (omega arith) (omega arith)) ∙ ap (λ k. digits k ys) e

first_read : (v : ℕ) (ys : List ℕ) → 0 < v → v < 10 → numeral ((48 + v % 10) ∷ ys) ≡ digits v ys
first_read v ys h l =
    let z : 0 ≡ v / 10 = omega arith in
    let a : 48 + v % 10 ≡ 32 → ⊥ = λ e. omega arith in
    let b : 48 + v % 10 ≡ 48 → ⊥ = λ e. omega arith in
    cond-false _ _ _ (ne_eqb (48 + v % 10) 32 a) ∙ cond-false _ _ _ (ne_eqb (48 + v % 10) 48 b) ∙ ap (λ k. digits k ((48 + v % 10) ∷ ys)) z ∙ digit_read v ys

-- the last digit, where those before it are read as they were written
last_read : (w v : ℕ) (ys : List ℕ) → (0 < v / 10 → numeral (leading w (v / 10) ++ ((48 + v % 10) ∷ ys)) ≡ digits (v / 10) ((48 + v % 10) ∷ ys)) → 0 < v → numeral (leading w (v / 10) ++ ((48 + v % 10) ∷ ys)) ≡ digits v ys
last_read w v ys before h =
    ⊎_elim
    (λ k. before k ∙ digit_read v ys)
    (λ k. let z : v / 10 ≡ 0 = omega arith in
    ap (λ j. numeral (leading w j ++ ((48 + v % 10) ∷ ys))) z ∙ blanks_read w ((48 + v % 10) ∷ ys) ∙ first_read v ys h (omega arith))
    (cases_lt 0 (v / 10))

leading_read : (w v : ℕ) (ys : List ℕ) → 0 < v → v < 10 ^ w → numeral (leading w v ++ ys) ≡ digits v ys
unfolding leading
leading_read zero v ys h l = absurd (omega arith)
leading_read (suc w) v ys h l =
    let z : v ≡ 0 → ⊥ = λ e. omega arith in
    ap numeral (append_assoc (leading w (v / 10)) (lead v ∷ []) ys) ∙
    ap (λ x. numeral (leading w (v / 10) ++ (x ∷ ys))) (cond-false _ _ _ (ne_eqb v 0 z)) ∙
    last_read w v ys (λ k. leading_read w (v / 10) ((48 + v % 10) ∷ ys) k (omega (arith, pow-suc 10 w))) h

padded_read : (w v : ℕ) → v < 10 ^ suc w → numeral (padded (suc w) v) ≡ Some v
unfolding padded
padded_read w v l =
    ⊎_elim
    (λ h. last_read w v [] (λ k. leading_read w (v / 10) ((48 + v % 10) ∷ []) k (omega (arith, pow-suc 10 w))) h)
    (λ k. let z : v ≡ 0 = omega arith in
    subst⁻¹ (λ j. numeral (leading w (j / 10) ++ ((48 + j % 10) ∷ [])) ≡ Some j) z (blanks_read w (48 ∷ [])))
    (cases_lt 0 v)

column_read : (w v : ℕ) (rest : List ℕ) → v < 10 ^ suc w → column_of (padded (suc w) v ++ rest) (suc w) ≡ Some v
column_read w v rest l = ap numeral (take_at (padded (suc w) v) rest (suc w) (length_padded (suc w) v)) ∙ padded_read w v l

-- two columns, and what stands behind them
module _ (a b : ℕ) (rest : List ℕ) where
  first_column : a < 10000 → column_of (pair a b ++ rest) 4 ≡ Some a
  unfolding pair
  first_column l = ap (λ ys. column_of ys 4) (append_assoc (padded 4 a) (padded 6 b) rest) ∙ column_read 3 a (padded 6 b ++ rest) l

  second_column : b < 1000000 → column_of (drop 4 (pair a b ++ rest)) 6 ≡ Some b
  unfolding pair
  second_column l =
      ap (λ ys. column_of (drop 4 ys) 6) (append_assoc (padded 4 a) (padded 6 b) rest) ∙
      ap (λ ys. column_of ys 6) (drop_at (padded 4 a) (padded 6 b ++ rest) 4 (length_padded 4 a)) ∙ column_read 5 b rest l

  behind : drop 10 (pair a b ++ rest) ≡ rest
  behind = drop_at (pair a b) rest 10 (length_pair a b)

  first_value : a < 10000 → value_at (pair a b ++ rest) 0 4 ≡ a
  first_value l = ap (λ o. unwrap_or o 0) (first_column l)

  second_value : b < 1000000 → value_at (pair a b ++ rest) 4 6 ≡ b
  second_value l = ap (λ o. unwrap_or o 0) (second_column l)

  later_value : (at w : ℕ) → value_at (pair a b ++ rest) (10 + at) w ≡ value_at rest at w
  later_value at w = ap (λ ys. unwrap_or (column_of ys w) 0) (sym (drop-drop at 10 (pair a b ++ rest)) ∙ ap (drop at) behind)

  -- neither column is malformed
  pair_sound : (m k : ℕ) → 4 ≡ width k → 6 ≡ width (k + 1) → a < 10000 → b < 1000000 → line_fault (suc (suc m)) k (pair a b ++ rest) ≡ line_fault m (k + 1 + 1) rest
  pair_sound m k e f la lb =
      sym (column_some (pair a b ++ rest) k (suc m) (suc (suc m)) 4 refl e a (sym (first_column la))) ∙
      sym (column_some (drop 4 (pair a b ++ rest)) (k + 1) m (suc m) 6 refl f b (sym (second_column lb))) ∙
      ap (line_fault m (k + 1 + 1)) (drop-drop 6 4 (pair a b ++ rest) ∙ behind)

-- a target that fits its columns, and is not a node on level n
record Fits (n : ℕ) (t : Target) : Type 0 where
  level : depth n t < 10000
  number : number_of t < 1000000
  same : target_of n (depth n t) (number_of t) ≡ t

-- a record that fits its line
record FitsLine (n : ℕ) (r : Record) : Type 0 where
  level : r.level < 10000
  number : r.number < 1000000
  low : Fits n r.low
  high : Fits n r.high

-- a target's two columns, as level and number
target_read : (n : ℕ) (t : Target) → Fits n t → (k a b : ℕ) → k ≡ n → a ≡ depth n t → b ≡ number_of t → target_of k a b ≡ t
target_read n t fit k a b d e f = ap (λ j. target_of j a b) d ∙ ap₂ (λ x y. target_of n x y) e f ∙ fit.same

-- one line, with what stands behind it
module _ (n : ℕ) (r : Record) (rest : List ℕ) where
  abbrev from_high : List ℕ
  from_high = aim n r.high ++ (10 ∷ rest)

  abbrev from_low : List ℕ
  from_low = aim n r.low ++ from_high

  line_then : line n r ++ rest ≡ pair r.level r.number ++ from_low
  unfolding columns
  line_then = simp append_assoc

  line_behind : drop 31 (line n r ++ rest) ≡ rest
  line_behind = drop_at (line n r) rest 31 (length_line n r)

  -- a column of low or high, found behind those before it
  at_low : (at w : ℕ) → value_at (line n r ++ rest) (10 + at) w ≡ value_at from_low at w
  at_low at w = ap (λ bs. value_at bs (10 + at) w) line_then ∙ later_value r.level r.number from_low at w

  at_high : (at w : ℕ) → value_at (line n r ++ rest) (10 + (10 + at)) w ≡ value_at from_high at w
  at_high at w = at_low (10 + at) w ∙ later_value (depth n r.low) (number_of r.low) from_high at w

module _ (n : ℕ) (r : Record) (rest : List ℕ) (fit : FitsLine n r) where
  line_sound : line_fault 6 0 (line n r ++ rest) ≡ None
  line_sound =
      ap (line_fault 6 0) (line_then n r rest) ∙
      pair_sound r.level r.number (from_low n r rest) 4 0 refl refl fit.level fit.number ∙
      pair_sound (depth n r.low) (number_of r.low) (from_high n r rest) 2 2 refl refl fit.low.level fit.low.number ∙
      pair_sound (depth n r.high) (number_of r.high) (10 ∷ rest) 0 4 refl refl fit.high.level fit.high.number

  level_read : value_at (line n r ++ rest) 0 4 ≡ r.level
  level_read = ap (λ bs. value_at bs 0 4) (line_then n r rest) ∙ first_value r.level r.number (from_low n r rest) fit.level

  number_read : value_at (line n r ++ rest) 4 6 ≡ r.number
  number_read = ap (λ bs. value_at bs 4 6) (line_then n r rest) ∙ second_value r.level r.number (from_low n r rest) fit.number

  low_read : target_of n (value_at (line n r ++ rest) 10 4) (value_at (line n r ++ rest) 14 6) ≡ r.low
  low_read =
      target_read n r.low fit.low n _ _ refl
      (at_low n r rest 0 4 ∙ first_value (depth n r.low) (number_of r.low) (from_high n r rest) fit.low.level)
      (at_low n r rest 4 6 ∙ second_value (depth n r.low) (number_of r.low) (from_high n r rest) fit.low.number)

  high_read : target_of n (value_at (line n r ++ rest) 20 4) (value_at (line n r ++ rest) 24 6) ≡ r.high
  high_read =
      target_read n r.high fit.high n _ _ refl
      (at_high n r rest 0 4 ∙ first_value (depth n r.high) (number_of r.high) (10 ∷ rest) fit.high.level)
      (at_high n r rest 4 6 ∙ second_value (depth n r.high) (number_of r.high) (10 ∷ rest) fit.high.number)

  line_read : record_of n (line n r ++ rest) ≡ r
  line_read = λ i. record { level = level_read i; number = number_read i; low = low_read i; high = high_read i }

-- all lines
lines_sound : (n k : ℕ) (rs : List Record) → ((r : Record) → In r rs → FitsLine n r) → lines_fault (length rs) k (flat_map (line n) rs) ≡ None
lines_sound n k [] fit = refl
lines_sound n k (r ∷ rs) fit =
    ap₂ (λ o bs. at_line o k (lines_fault (length rs) (k + 1) bs)) (line_sound n r (flat_map (line n) rs) (fit r (inl refl))) (line_behind n r (flat_map (line n) rs)) ∙
    lines_sound n (k + 1) rs (λ q m. fit q (inr m))

lines_read : (n : ℕ) (rs : List Record) → ((r : Record) → In r rs → FitsLine n r) → lines_of (length rs) n (flat_map (line n) rs) ≡ rs
lines_read n [] fit = refl
lines_read n (r ∷ rs) fit =
    ap₂ (λ x bs. x ∷ lines_of (length rs) n bs) (line_read n r (flat_map (line n) rs) (fit r (inl refl))) (line_behind n r (flat_map (line n) rs)) ∙
    ap (λ xs. r ∷ xs) (lines_read n rs (λ q m. fit q (inr m)))

-- the whole text
module _ (n : ℕ) (root : Target) (rs : List Record) (few : n < 10000) (short : length rs < 1000000) (top : Fits n root) (fit : (r : Record) → In r rs → FitsLine n r) where
  abbrev from_root : List ℕ
  from_root = aim n root ++ (10 ∷ flat_map (line n) rs)

  text_then : written n root rs ≡ pair n (length rs) ++ from_root
  unfolding written header
  text_then = simp append_assoc

  text_lines : drop 21 (written n root rs) ≡ flat_map (line n) rs
  unfolding written
  text_lines = drop_at (header n (length rs) root) (flat_map (line n) rs) 21 (length_header n (length rs) root)

  head_sound : line_fault 4 0 (written n root rs) ≡ None
  head_sound =
      ap (line_fault 4 0) text_then ∙
      pair_sound n (length rs) from_root 2 0 refl refl few short ∙
      pair_sound (depth n root) (number_of root) (10 ∷ flat_map (line n) rs) 0 2 refl refl top.level top.number

  facts_read : facts_of (written n root rs) ≡ n
  facts_read = ap facts_of text_then ∙ first_value n (length rs) from_root few

  count_read : count_of (written n root rs) ≡ length rs
  count_read = ap count_of text_then ∙ second_value n (length rs) from_root short

  root_value : (at w : ℕ) → value_at (written n root rs) (10 + at) w ≡ value_at from_root at w
  root_value at w = ap (λ bs. value_at bs (10 + at) w) text_then ∙ later_value n (length rs) from_root at w

  root_read : root_of (written n root rs) ≡ root
  root_read =
      target_read n root top (facts_of (written n root rs)) _ _ facts_read
      (root_value 0 4 ∙ first_value (depth n root) (number_of root) (10 ∷ flat_map (line n) rs) top.level)
      (root_value 4 6 ∙ second_value (depth n root) (number_of root) (10 ∷ flat_map (line n) rs) top.number)

  records_read : records_of (written n root rs) ≡ rs
  records_read =
      ap₂ (λ m k. lines_of m k (drop 21 (written n root rs))) count_read facts_read ∙ ap (lines_of (length rs) n) text_lines ∙ lines_read n rs fit

  text_sound : text_fault (written n root rs) ≡ None
  text_sound =
      text_long (written n root rs) (omega (arith, length_written n root rs)) ∙
      ap₂ (λ o b. at_line o 0 b) head_sound
      (body_lines (written n root rs) (length rs) (sym count_read) (length_written n root rs) ∙ ap (lines_fault (length rs) 1) text_lines ∙ lines_sound n 1 rs fit)

  text_tells : Tells n root rs (written n root rs)
  text_tells = record { faultless = text_sound; facts = facts_read; root = root_read; records = records_read }

-- by the rules, numbers are below N: they rise by one a place at most
next_number : (p q : Record) → Next p q → q.number ≤ p.number + 1
next_number p q (inl h) = omega (arith, h.1)
next_number p q (inr h) = omega (arith, h.1)

number_behind : (p : Record) (rs : List Record) → Follows p rs → (r : Record) → In r rs → r.number ≤ p.number + length rs
number_behind p [] f r m = absurd m
number_behind p (q ∷ rs) f r (inl e) = omega (arith, ap (λ (x : Record). x.number) e, next_number p q f.0)
number_behind p (q ∷ rs) f r (inr m) = omega (arith, next_number p q f.0, number_behind q rs f.1 r m)

number_below : (rs : List Record) → Numbered rs → (r : Record) → In r rs → r.number < length rs
number_below [] h r m = absurd m
number_below (q ∷ rs) h r (inl e) = omega (arith, ap (λ (x : Record). x.number) e, h.0)
number_below (q ∷ rs) h r (inr m) = omega (arith, h.0, number_behind q rs h.1 r m)

-- a node that is not on level n is told from the terminals
node_same : (n l k : ℕ) → l < n → target_of n l k ≡ Node l k
node_same n l k h = let z : l ≡ n → ⊥ = λ e. omega arith in cond-false _ _ _ (ne_eqb l n z)

-- by the rules, every target fits
target_fits : (n : ℕ) (rs : List Record) → n ≤ 9999 → length rs ≤ 999999 → Levelled n rs → Numbered rs → (t : Target) → Within rs t → Fits n t
target_fits n rs hn hN lv nm (Node l k) (r, m, e) =
    subst (λ t. Fits n t) e (record {
      level = omega (arith, lv r m);
      number = omega (arith, number_below rs nm r m);
      same = node_same n r.level r.number (lv r m);
    })
target_fits n rs hn hN lv nm False w = record { level = omega arith; number = omega arith; same = cond-true _ _ _ (eq-eqb n n refl) }
target_fits n rs hn hN lv nm True w = record { level = omega arith; number = omega arith; same = cond-true _ _ _ (eq-eqb n n refl) }

opens_again : (n : ℕ) (root : Target) (rs : List Record) → OpensAgain n root rs (written n root rs)
opens_again n root rs hn hN ls =
    text_tells n root rs (omega arith) (omega arith) (fits root (root_within root rs ls.rooted))
    (λ r m. record {
      level = omega (arith, ls.levelled r m);
      number = omega (arith, number_below rs ls.numbered r m);
      low = fits r.low (ls.targeted r m false).0;
      high = fits r.high (ls.targeted r m true).0;
    })
  where
    fits : (t : Target) → Within rs t → Fits n t
    fits = target_fits n rs hn hN ls.levelled ls.numbered

-- so does the front of a buffer that the text was written to
pub front_again : (n : ℕ) (root : Target) (rs : List Record) (after rest : List ℕ) (len : ℕ) → len ≡ 21 + 31 * length rs → after ≡ written n root rs ++ rest → OpensAgain n root rs (take len after)
front_again n root rs after rest len e f =
    subst⁻¹ (OpensAgain n root rs) (ap (take len) f ∙ take_at (written n root rs) rest len (length_written n root rs ∙ sym e)) (opens_again n root rs)
