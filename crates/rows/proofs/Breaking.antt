-- From the places that break a rule to the rule, and back.
use Rattle.std.proofs.Common.{◌≡◌, ℕ, zero, suc, ◌+◌, ◌-◌, ◌<◌, ◌≤◌, Bool, eqb, List, [], ◌∷◌, ◌++◌, map, length, get_or, Some, None, Option, Ok, Err, Result, Decides, MatchOption, MatchResult, sym, refl, ap, ◌∙◌, subst, inl, inr, ⊎_elim, ◌≢◌, arith}
use Rattle.std.specs.List.{slice_get}
use Rattle.std.specs.Option.{option_map}
use Rattle.std.proofs.lemmas.Bool.{cases_Bool, both_ways}
use Rattle.std.proofs.lemmas.List.{length-map}
use Rattle.std.proofs.lemmas.Option.{slice_get-map, slice_get-get_or, slice_get_within}
use Rattle.listing.specs.declared.Record.{Record}
use Rattle.listing.specs.Members.{In}
use Rattle.listing.specs.Listing.{Levelled, Next, Follows, Numbered}
use Rattle.listing.specs.Tests as test
use Rattle.listing.proofs.Deciding as decides
use Rattle.rows.specs.declared.row.Row.{Row}
use Rattle.rows.specs.declared.faults.Break.{Break}
use Rattle.rows.specs.declared.faults.Rule.{Rule}
use Rattle.rows.specs.Rows.{no_row, entry_of}
use Rattle.rows.specs.Breaks.{First, TooHigh, Misnumbered}

-- what is decided and cannot fail holds
pub stable : {P : Type 0} (a : Bool) → Decides a P → ((P → ⊥) → ⊥) → P
stable a d h = ⊎_elim d.0 (λ e. absurd (h (λ p. both_ways a e (d.1 p)))) (cases_Bool a)

pub in_nth : {X : Type 0} (x : X) (xs : List X) → In x xs → (k : ℕ) × (slice_get xs k ≡ Some x)
in_nth x [] m = absurd m
in_nth x (y ∷ ys) (inl e) = (0, ap Some (sym e))
in_nth x (y ∷ ys) (inr m) = let w = in_nth x ys m in (suc w.0, w.1)

pub nth_in : {X : Type 0} (x : X) (xs : List X) (k : ℕ) → slice_get xs k ≡ Some x → In x xs
nth_in x [] k e = let z : ◌≡◌ {A = ℕ} 0 1 = cc in absurd (omega arith)
nth_in x (y ∷ ys) zero e = let d : x ≡ y = cc in inl d
nth_in x (y ∷ ys) (suc k) e = inr (nth_in x ys k e)

pub nth_same : {X : Type 0} (xs : List X) (i : ℕ) (x y : X) → Some x ≡ slice_get xs i → slice_get xs i ≡ Some y → x ≡ y
nth_same xs i x y e f = cc

-- the record of the row at a place
pub record_at : (rows : List Row) (k : ℕ) (d : Row) → k < length rows → slice_get (map entry_of rows) k ≡ Some (entry_of (get_or rows k d))
record_at rows k d h = slice_get-map entry_of rows k ∙ ap (option_map entry_of) (slice_get-get_or rows k d h)

pub row_at : (rows : List Row) (k : ℕ) (r : Record) → slice_get (map entry_of rows) k ≡ Some r → (k < length rows) × (entry_of (get_or rows k no_row) ≡ r)
row_at rows k r e =
    let b : k < length rows = omega (arith, slice_get_within (map entry_of rows) k r e, length-map rows entry_of) in
    let a = record_at rows k no_row b in
    (b, cc)

-- R2
-- records of which each is on a level below n
pub levelled_more : (n : ℕ) (rs : List Record) (r : Record) → Levelled n rs → r.level < n → Levelled n (rs ++ r ∷ [])
levelled_more n [] r h l q (inl e) = subst (λ (x : Record). x.level < n) (sym e) l
levelled_more n [] r h l q (inr m) = absurd m
levelled_more n (p ∷ rs) r h l q (inl e) = h q (inl e)
levelled_more n (p ∷ rs) r h l q (inr m) = levelled_more n rs r (λ x k. h x (inr k)) l q m

-- the one behind them is the first that is not
pub too_high_first : (n : ℕ) (rs : List Record) (r : Record) (behind all : List Record) → all ≡ rs ++ r ∷ behind → Levelled n rs → n ≤ r.level → First (TooHigh n all) (length rs)
too_high_first n rs r behind all e h l = ((r, ap (λ xs. slice_get xs (length rs)) e ∙ stands rs, l), λ k lt w. omega (arith, w.2, h w.0 (nth_in w.0 rs k (before rs k lt (sym (ap (λ xs. slice_get xs k) e) ∙ w.1)))))
  where
    stands : (rs : List Record) → slice_get (rs ++ r ∷ behind) (length rs) ≡ Some r
    stands [] = refl
    stands (p ∷ rs) = stands rs

    before : (rs : List Record) (k : ℕ) → k < length rs → {q : Record} → slice_get (rs ++ r ∷ behind) k ≡ Some q → slice_get rs k ≡ Some q
    before [] k lt e = absurd (omega arith)
    before (p ∷ rs) zero lt e = e
    before (p ∷ rs) (suc k) lt e = before rs k (omega arith) e

-- R3
follows_from : (p : Record) (rs : List Record) → ((k : ℕ) → Misnumbered (p ∷ rs) (suc k) → ⊥) → Follows p rs
follows_from p [] f = tt
follows_from p (r ∷ rs) f =
    (stable (test.next p r) (decides.next p r) (λ n. f 0 (p, r, refl, refl, n)), follows_from r rs (λ k w. f (suc k) w))

pub numbered_from : (rs : List Record) (i : ℕ) → length rs ≤ i → ((k : ℕ) → k < i → Misnumbered rs k → ⊥) → Numbered rs
numbered_from [] i h f = tt
numbered_from (r ∷ rs) i h f = (
  stable (eqb r.number 0) (decides.equal_numbers r.number 0) (λ n. f 0 (omega arith) (r, refl, n)),
  follows_from r rs (λ k w. f (suc k) (omega (arith, slice_get_within (r ∷ rs) (suc k) w.1 w.3)) w),
)

abbrev AtRows : (Record → Record → Type 0) → List Row → ℕ → ℕ → Type 0
AtRows P rows j k = P (entry_of (get_or rows j no_row)) (entry_of (get_or rows k no_row))

module _ (rows : List Row) (z : 0 < length rows → (get_or rows 0 no_row).number ≡ 0) where
  -- where a row is next to the one before it, its place does not break the rule
  next_kept : (k : ℕ) → ((j : ℕ) → j + 1 ≡ k → k < length rows → AtRows Next rows j (j + 1)) → Misnumbered (map entry_of rows) k → ⊥
  next_kept zero h w = let x = row_at rows 0 w.0 w.1 in w.2 (omega (arith, z x.0, ap (λ (q : Record). q.number) x.1))
  next_kept (suc j) h w =
      let x = row_at rows j w.0 w.2 in
      let y = row_at rows (suc j) w.1 w.3 in
      let d : j + 1 ≡ suc j = omega arith in
      w.4
      (subst (λ (q : Record). Next q w.1) x.1
      (subst (λ (q : Record). Next (entry_of (get_or rows j no_row)) q) y.1
      (subst (λ i. AtRows Next rows j i) d (h j d y.0))))

  pub number_first : (o : Option ℕ) →
      MatchOption o ((k : ℕ) → k + 1 < length rows → AtRows Next rows k (k + 1))
      (λ p. (0 < p) × (p < length rows) × (AtRows Next rows (p - 1) p → ⊥) × ((k : ℕ) → k + 1 < p → AtRows Next rows k (k + 1))) →
      MatchOption o (Numbered (map entry_of rows)) (First (Misnumbered (map entry_of rows)))
  number_first None h = numbered_from (map entry_of rows) (length (map entry_of rows)) (omega arith) (λ k l. next_kept k (λ j e b. h j (omega arith)))
  number_first (Some zero) h = absurd (omega (arith, h.0))
  number_first (Some (suc p)) h =
      let d : suc p - 1 ≡ p = omega arith in (
        (entry_of (get_or rows p no_row), entry_of (get_or rows (suc p) no_row), record_at rows p no_row (omega (arith, h.1)), record_at rows (suc p) no_row h.1, λ n. h.2 (subst (λ i. AtRows Next rows i (suc p)) (sym d) n)),
        (λ k l. next_kept k (λ j e b. h.3 j (omega arith))),
      )

pub number_zero : (rows : List Row) → 0 < length rows → (get_or rows 0 no_row).number ≢ 0 → First (Misnumbered (map entry_of rows)) 0
number_zero rows b n = ((entry_of (get_or rows 0 no_row), record_at rows 0 no_row b, n), (λ k l. absurd (omega arith)))

-- a place that breaks a rule, told with the rule
pub told_break : (rule : Rule) (o : Option ℕ) (P : Type 0) (Q : ℕ → Type 0) (r : Result (Unit {0}) Break) →
    MatchResult r (λ _. o ≡ None) (λ b. (b.rule ≡ rule) × (o ≡ Some b.place)) → MatchOption o P Q → MatchResult r (λ _. P) (λ b. (b.rule ≡ rule) × Q b.place)
told_break rule o P Q (Ok u) h a = subst (λ x. MatchOption x P Q) h a
told_break rule o P Q (Err b) h a = (h.0, subst (λ x. MatchOption x P Q) h.1 a)
