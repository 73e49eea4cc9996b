-- Bags: lists with the same elements, each as often.
use Rattle.std.proofs.Common.{◌≡◌, ℕ, zero, suc, ◌+◌, ◌<◌, Bool, true, false, cond, ◌⊎◌, List, [], ◌∷◌, ◌++◌, map, length, get_or, sum_by as sumBy, filter as kept_by, sym, refl, ap, ◌∙◌, ap₂, inl, inr, ⊎_elim, arith}
use mathlib.Core.Path.{subst⁻¹}
use Rattle.std.specs.List.Sorted.{IsPermutation}
use Rattle.std.proofs.lemmas.List.Sorted.{IsPermutation-sym, sum_by-IsPermutation}
use Rattle.std.proofs.ByRecursion.{has_shuffled}
use Rattle.std.proofs.lemmas.Bool.{cond-true, cond-false, cases_Bool}
use Rattle.std.proofs.lemmas.List.Sums.{sum_by-cons, sum_by-append}
use Rattle.std.specs.List.{ContainsAt, AllByRecursion}
use Rattle.pairs.proofs.Lists.{among_left, among_right, among_cases, kept_among, among_kept}
use Rattle.listing.specs.Members.{In}

has_among : {X : Type 0} (xs : List X) (x : X) (k : ℕ) → k < length xs → ((d : X) → get_or xs k d ≡ x) → In x xs
has_among [] x k l e = absurd (omega arith)
has_among (y ∷ xs) x zero l e = inl (sym (e y))
has_among (y ∷ xs) x (suc k) l e = inr (has_among xs x k (omega arith) e)

among_has : {X : Type 0} (xs : List X) (x : X) → In x xs → ContainsAt xs x
among_has [] x m = absurd m
among_has (y ∷ xs) x (inl e) = (0, omega arith, λ d. sym e)
among_has (y ∷ xs) x (inr m) = let h = among_has xs x m in (suc h.0, omega (arith, h.1), h.2)

-- the same elements, each as often
pub record Bag {X : Type 0} (xs ys : List X) : Type 0 where
  pub sums : (f : X → ℕ) → sumBy f xs ≡ sumBy f ys
  pub there : (x : X) → In x xs → In x ys
  pub back : (x : X) → In x ys → In x xs

module _ {X : Type 0} where
  pub bag_refl : (xs : List X) → Bag xs xs
  bag_refl xs = record { sums = λ f. refl; there = λ x m. m; back = λ x m. m }

  pub bag_sym : (xs ys : List X) → Bag xs ys → Bag ys xs
  bag_sym xs ys b = record { sums = λ f. sym (b.sums f); there = b.back; back = b.there }

  pub bag_trans : (xs ys zs : List X) → Bag xs ys → Bag ys zs → Bag xs zs
  bag_trans xs ys zs a b = record { sums = λ f. a.sums f ∙ b.sums f; there = λ x m. b.there x (a.there x m); back = λ x m. a.back x (b.back x m) }

  pub shuffled_bag : (xs ys : List X) → IsPermutation xs ys → Bag xs ys
  shuffled_bag xs ys s =
      record {
        sums = λ f. sym (sum_by-IsPermutation f xs ys s);
        there = λ x m. let h = has_shuffled xs ys x s (among_has xs x m) in has_among ys x h.0 h.1 h.2;
        back = λ x m. let h = has_shuffled ys xs x (IsPermutation-sym xs ys s) (among_has ys x m) in has_among xs x h.0 h.1 h.2;
      }

  pub bag_append : (ws xs bs ys : List X) → Bag ws bs → Bag xs ys → Bag (ws ++ xs) (bs ++ ys)
  bag_append ws xs bs ys a b =
      record {
        sums = λ f. sum_by-append f ws xs ∙ ap₂ ◌+◌ (a.sums f) (b.sums f) ∙ sym (sum_by-append f bs ys);
        there = λ x m. ⊎_elim (λ k. among_left bs ys x (a.there x k)) (λ k. among_right bs ys x (b.there x k)) (among_cases ws xs x m);
        back = λ x m. ⊎_elim (λ k. among_left ws xs x (a.back x k)) (λ k. among_right ws xs x (b.back x k)) (among_cases bs ys x m);
      }

  pub bag_turn : (xs ys : List X) → Bag (xs ++ ys) (ys ++ xs)
  bag_turn xs ys =
      record {
        sums = λ f. omega (arith, sum_by-append f xs ys, sum_by-append f ys xs);
        there = λ x m. ⊎_elim (among_right ys xs x) (among_left ys xs x) (among_cases xs ys x m);
        back = λ x m. ⊎_elim (among_right xs ys x) (among_left xs ys x) (among_cases ys xs x m);
      }

  sum_kept : (t : X → Bool) (f : X → ℕ) (xs : List X) → sumBy f (kept_by t xs) ≡ sumBy (λ x. cond (t x) (f x) 0) xs
  sum_kept t f [] = refl
  sum_kept t f (x ∷ xs) = by (sum_kept t f xs) (cases_Bool (t x))
    where
      by : sumBy f (kept_by t xs) ≡ sumBy (λ x. cond (t x) (f x) 0) xs → (t x ≡ true) ⊎ (t x ≡ false) → sumBy f (kept_by t (x ∷ xs)) ≡ sumBy (λ x. cond (t x) (f x) 0) (x ∷ xs)
      by ih (inl e) =
          ap (sumBy f) (cond-true (t x) (x ∷ kept_by t xs) (kept_by t xs) e) ∙ sum_by-cons f x (kept_by t xs) ∙ ap₂ ◌+◌ (sym (cond-true (t x) (f x) 0 e)) ih ∙ sym (sum_by-cons (λ x. cond (t x) (f x) 0) x xs)
      by ih (inr e) =
          ap (sumBy f) (cond-false (t x) (x ∷ kept_by t xs) (kept_by t xs) e) ∙ ih ∙ (let z = cond-false (t x) (f x) 0 e in omega (arith, sum_by-cons (λ x. cond (t x) (f x) 0) x xs))

  pub bag_kept : (t : X → Bool) (xs ys : List X) → Bag xs ys → Bag (kept_by t xs) (kept_by t ys)
  bag_kept t xs ys b =
      record {
        sums = λ f. sum_kept t f xs ∙ b.sums (λ x. cond (t x) (f x) 0) ∙ sym (sum_kept t f ys);
        there = λ x m. let k = kept_among t xs x m in among_kept t ys x (b.there x k.0) k.1;
        back = λ x m. let k = kept_among t ys x m in among_kept t xs x (b.back x k.0) k.1;
      }

  sum_ones : (xs : List X) → sumBy (λ _. 1) xs ≡ length xs
  sum_ones [] = refl
  sum_ones (x ∷ xs) = let z = sum_ones xs in omega (arith, sum_by-cons (λ (_ : X). 1) x xs)

  pub bag_length : (xs ys : List X) → Bag xs ys → length xs ≡ length ys
  bag_length xs ys b = sym (sum_ones xs) ∙ b.sums (λ _. 1) ∙ sum_ones ys

  pub all_among : (P : X → Type 0) (xs : List X) → AllByRecursion P xs → (x : X) → In x xs → P x
  all_among P [] h x m = absurd m
  all_among P (y ∷ xs) h x (inl e) = subst⁻¹ P e h.0
  all_among P (y ∷ xs) h x (inr m) = all_among P xs h.1 x m

  pub has_in : (xs : List X) (x : X) → ContainsAt xs x → In x xs
  has_in xs x h = has_among xs x h.0 h.1 h.2

pub among_map : {A B : Type 0} (f : A → B) (xs : List A) (y : B) → In y (map f xs) → (x : A) × In x xs × (y ≡ f x)
among_map f [] y m = absurd m
among_map f (x ∷ xs) y (inl e) = (x, inl refl, e)
among_map f (x ∷ xs) y (inr m) = let w = among_map f xs y m in (w.0, inr w.1, w.2)

pub map_among : {A B : Type 0} (f : A → B) (xs : List A) (x : A) → In x xs → In (f x) (map f xs)
map_among f [] x m = absurd m
map_among f (y ∷ xs) x (inl e) = inl (ap f e)
map_among f (y ∷ xs) x (inr m) = inr (map_among f xs x m)

pub kept_map : {A B : Type 0} (t : B → Bool) (f : A → B) (xs : List A) → kept_by t (map f xs) ≡ map f (kept_by (λ x. t (f x)) xs)
kept_map t f [] = refl
kept_map t f (x ∷ xs) = by (kept_map t f xs) (cases_Bool (t (f x)))
  where
    by : kept_by t (map f xs) ≡ map f (kept_by (λ x. t (f x)) xs) → (t (f x) ≡ true) ⊎ (t (f x) ≡ false) → kept_by t (map f (x ∷ xs)) ≡ map f (kept_by (λ x. t (f x)) (x ∷ xs))
    by ih (inl e) = cond-true _ _ _ e ∙ ap (λ l. f x ∷ l) ih ∙ ap (map f) (sym (cond-true _ _ _ e))
    by ih (inr e) = cond-false _ _ _ e ∙ ih ∙ ap (map f) (sym (cond-false _ _ _ e))
