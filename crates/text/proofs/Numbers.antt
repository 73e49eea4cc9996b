-- What a step of the readers of columns does to the specification.
use Rattle.std.proofs.Common.{◌≡◌, ℕ, ◌+◌, ◌-◌, ◌*◌, ◌^◌, ◌<◌, ◌≤◌, true, false, List, ◌∷◌, length, get_or, eqb, cond, Bool, not, position, ◌==◌, [], zero, suc, take, drop, add-zero, length-drop, Some, None, Option, sym, refl, ap, ◌∙◌, pow-suc, add-one, arith, lit<, MatchOption}
use Rattle.std.proofs.Math.Nat.{one-le-pow, pow-le-pow_right}
use Rattle.std.proofs.lemmas.List.{drop_more, drop_all, take_rest, get_or-drop}
use Rattle.std.proofs.lemmas.List.Quantifiers.{position-Some}
use Rattle.std.proofs.lemmas.Bool.{cond-true, cond-false, not-true, not-false, and_from, le-leb, ne_eqb, eqb-false}
use Rattle.std.specs.List.{position_from}
use Rattle.std.proofs.lemmas.Iterator.Adapters.{position_from-zero}
use Rattle.std.proofs.lemmas.Option.{none-some}
use Rattle.text.specs.Columns.{is_digit, digits, numeral, alone}

pub yes_digit : (b : ℕ) → 48 ≤ b → b ≤ 57 → is_digit b ≡ true
yes_digit b lo hi = and_from _ _ (le-leb 48 b lo) (le-leb b 57 hi)

module _ (xs : List ℕ) (i v : ℕ) (h : i < length xs) where
  pub digits_yes : is_digit (get_or xs i 0) ≡ true → digits (v * 10 + (get_or xs i 0 - 48)) (drop (i + 1) xs) ≡ digits v (drop i xs)
  digits_yes e = rw (drop_more xs i 0 h) (sym (cond-true _ _ _ e))

  pub digits_no : is_digit (get_or xs i 0) ≡ false → None ≡ digits v (drop i xs)
  digits_no e = rw (drop_more xs i 0 h) (sym (cond-false _ _ _ e))

pub digits_end : (xs : List ℕ) (i v : ℕ) → length xs ≤ i → Some v ≡ digits v (drop i xs)
digits_end xs i v h = rw (drop_all i xs h)

pub value_below : (v d i : ℕ) → v < 10 ^ i → d ≤ 9 → v * 10 + d < 10 ^ (i + 1)
value_below v d i l m = rw (add-one, pow-suc) (omega arith)

pub pow_8 : (i : ℕ) → i ≤ 8 → 10 ^ i ≤ 10 ^ 8
pow_8 i h = pow-le-pow_right (lit< tt) h

-- what stands behind the blanks is what the column is
behind : (i : ℕ) (xs : List ℕ) → i ≤ length xs → ((k : ℕ) → k < i → not (eqb (get_or xs k 0) 32) ≡ false) → numeral (drop i xs) ≡ numeral xs
behind zero xs h f = refl
behind (suc i) [] h f = absurd (omega arith)
behind (suc i) (x ∷ xs) h f = behind i xs (omega arith) (λ k l. f (suc k) (omega arith)) ∙ sym (cond-true _ _ _ (not-false _ (f 0 (omega arith))))

blank_step : (b : Bool) (x i : ℕ) (xs : List ℕ) (o : Option ℕ) → (None ≡ o → None ≡ numeral xs) → None ≡ cond (not b) (Some i) o → None ≡ cond b (numeral xs) (cond (x == 48) (alone xs) (digits 0 (x ∷ xs)))
blank_step true x i xs o more e = more e
blank_step false x i xs o more e = absurd (none-some i e)

blank_from : (xs : List ℕ) (i : ℕ) → None ≡ position_from (λ b. not (b == 32)) i xs → None ≡ numeral xs
blank_from [] i e = refl
blank_from (x ∷ xs) i e = blank_step (x == 32) x i xs (position_from (λ b. not (b == 32)) (i + 1) xs) (blank_from xs (i + 1)) e

-- a column of blanks has no number
pub blank_all : (xs : List ℕ) → None ≡ position (λ b. not (b == 32)) xs → None ≡ numeral xs
blank_all xs e = blank_from xs 0 (e ∙ position_from-zero (λ b. not (b == 32)) xs)

-- behind its blanks, `ys`, stands a column's number
module _ (xs ys : List ℕ) (i : ℕ) (e : Some i ≡ position (λ b. not (b == 32)) xs) (from : ys ≡ take (length xs - i) (drop i xs)) where
  first_is : (i < length xs) × (not (get_or xs i 0 == 32) ≡ true) × ((k : ℕ) → k < i → not (get_or xs k 0 == 32) ≡ false)
  first_is = position-Some (λ b. not (b == 32)) xs i 0 (sym e)

  rest_is : ys ≡ drop i xs
  rest_is = from ∙ take_rest xs i

  pub text_numeral : numeral ys ≡ numeral xs
  text_numeral = ap numeral rest_is ∙ behind i xs (omega (arith, first_is.0)) first_is.2

  pub text_short : length ys ≤ length xs
  text_short = omega (arith, ap length rest_is, length-drop i xs)

  pub text_begins : 0 < length ys
  text_begins = omega (arith, ap length rest_is, length-drop i xs, first_is.0)

  pub text_no_blank : get_or ys 0 0 ≡ 32 → ⊥
  text_no_blank h = eqb-false _ _ (not-true _ first_is.1) (ap (λ j. get_or xs j 0) (sym (add-zero i)) ∙ sym (get_or-drop i xs 0 0) ∙ ap (λ zs. get_or zs 0 0) (sym rest_is) ∙ h)

pub numeral_zero : (ys : List ℕ) → get_or ys 0 0 ≡ 48 → length ys ≡ 1 → Some 0 ≡ numeral ys
numeral_zero [] e h = absurd (omega arith)
numeral_zero (y ∷ []) e h = rw e refl
numeral_zero (y ∷ (z ∷ ys)) e h = absurd (omega arith)

pub numeral_led : (ys : List ℕ) → get_or ys 0 0 ≡ 48 → (length ys ≡ 1 → ⊥) → None ≡ numeral ys
numeral_led [] e h = absurd (omega arith)
numeral_led (y ∷ []) e h = absurd (h refl)
numeral_led (y ∷ (z ∷ ys)) e h = rw e refl

pub numeral_digits : (ys : List ℕ) → 0 < length ys → (get_or ys 0 0 ≡ 32 → ⊥) → (get_or ys 0 0 ≡ 48 → ⊥) → digits 0 ys ≡ numeral ys
numeral_digits [] l n m = absurd (omega arith)
numeral_digits (y ∷ ys) l n m = sym (cond-false _ _ _ (ne_eqb y 32 n) ∙ cond-false _ _ _ (ne_eqb y 48 m))

pub below_wider : (o : Option ℕ) (a b : ℕ) → a ≤ b → MatchOption o (0 < 10 ^ a) (λ v. v < 10 ^ a) → MatchOption o (0 < 10 ^ b) (λ v. v < 10 ^ b)
below_wider None a b h p = one-le-pow b 10 (lit< tt)
below_wider (Some v) a b h p = omega (arith, pow-le-pow_right {n = 10} (lit< tt) h)

pub below_absent : (o : Option ℕ) (a : ℕ) → o ≡ None → MatchOption o (0 < 10 ^ a) (λ v. v < 10 ^ a)
below_absent o a e = rw e (one-le-pow a 10 (lit< tt))
