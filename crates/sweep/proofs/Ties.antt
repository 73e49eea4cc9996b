-- Draining the ties of a least key.
use Rattle.std.proofs.Common.{◌≡◌, true, false, not, List, [], ◌∷◌, ◌++◌, get_or, set, Ordering, Less, Equal, Greater, sym, refl, ap, ◌∙◌, ⊎_elim, arith}
use mathlib.Core.Path.{subst⁻¹}
use Rattle.std.specs.Ordering.{is_eq, is_ne, is_gt, ordering_reverse}
use Rattle.std.specs.List.Sorted.{IsPermutation}
use Rattle.std.specs.List.{AllByRecursion}
use Rattle.std.proofs.lemmas.Bool.{cases_Bool, true≢false, false≢true}
use Rattle.std.proofs.ByRecursion.{All-weaker, all_shuffled}
use Rattle.std.proofs.lemmas.List.Sorted.{IsPermutation-refl, IsPermutation-cons, IsPermutation-trans, IsPermutation-sym, IsPermutation-swap}
use Rattle.std.specs.Cmp.{IsTotalOrder}
use Rattle.queue.specs.Rank.{UpTo}
use Rattle.queue.specs.declared.Element.{Element}
use Rattle.listing.specs.declared.Target.{Target}
use Rattle.rows.specs.declared.row.Row.{Row}
use Rattle.rows.specs.Rows.{no_row}
use Rattle.sweep.specs.declared.faults.Request.{Request}
use Rattle.sweep.specs.Requests.{point, pointed}

is_equal : (o : Ordering) → is_eq o ≡ true → o ≡ Equal
is_equal Less e = absurd (false≢true e)
is_equal Equal e = refl
is_equal Greater e = absurd (false≢true e)

pub ne_is : (o : Ordering) → is_ne o ≡ not (is_eq o)
ne_is Less = refl
ne_is Equal = refl
ne_is Greater = refl

no_way : (o : Ordering) → is_gt o ≡ false → is_gt (ordering_reverse o) ≡ false → is_eq o ≡ false → ⊥
no_way Less a b c = true≢false b
no_way Equal a b c = true≢false c
no_way Greater a b c = true≢false a

all_right : {X : Type 0} (P : X → Type 0) (xs ys : List X) → AllByRecursion P (xs ++ ys) → AllByRecursion P ys
all_right P [] ys h = h
all_right P (x ∷ xs) ys h = all_right P xs ys h.1

pub shuffled_after : {X : Type 0} (ps xs ys : List X) → IsPermutation xs ys → IsPermutation (ps ++ xs) (ps ++ ys)
shuffled_after [] xs ys s = s
shuffled_after (a ∷ ps) xs ys s = IsPermutation-cons a (ps ++ xs) (ps ++ ys) (shuffled_after ps xs ys s)

shuffled_middle : {X : Type 0} (xs ys : List X) (e : X) → IsPermutation (e ∷ (xs ++ ys)) (xs ++ e ∷ ys)
shuffled_middle [] ys e = IsPermutation-refl (e ∷ ys)
shuffled_middle (x ∷ xs) ys e =
    IsPermutation-trans _ (x ∷ e ∷ (xs ++ ys)) _
    (IsPermutation-swap (e ∷ x ∷ (xs ++ ys)) (x ∷ e ∷ (xs ++ ys)) 0 1 (omega arith) (omega arith) refl)
    (IsPermutation-cons x _ _ (shuffled_middle xs ys e))

tie_not : {K : Type 0} (rank : K → K → Ordering) → IsTotalOrder rank → (key e y : K) → UpTo rank e y → UpTo rank key e → is_eq (rank e key) ≡ false → is_eq (rank y key) ≡ false
tie_not rank law key e y a b c = ⊎_elim (λ h. absurd (no_way (rank e key) (ap is_gt (sym (same h)) ∙ a) (ap is_gt (sym (law.antisymm key e)) ∙ b) c)) (λ h. h) (cases_Bool (is_eq (rank y key)))
  where
    same : is_eq (rank y key) ≡ true → rank e y ≡ rank e key
    same h = law.antisymm e y ∙ ap ordering_reverse (law.congr y key e (is_equal (rank y key) h)) ∙ sym (law.antisymm e key)

-- all that tie with the key are gone, and the others wait on
pub record Drained {K V : Type 0} (rank : K → K → Ordering) (key : K) (xs ys : List (Element K V)) : Type 0 where
  pub gone : List (Element K V)
  pub ties : AllByRecursion (λ y. is_eq (rank y.key key) ≡ true) gone
  pub rest : IsPermutation xs (gone ++ ys)
  pub apart : AllByRecursion (λ y. is_eq (rank y.key key) ≡ false) ys

module _ {K V : Type 0} (rank : K → K → Ordering) (key : K) where
  -- what is gone so far
  pub record GoingOn (xs ys : List (Element K V)) : Type 0 where
    pub gone : List (Element K V)
    pub ties : AllByRecursion (λ y. is_eq (rank y.key key) ≡ true) gone
    pub rest : IsPermutation xs (gone ++ ys)

  pub on_none : (xs : List (Element K V)) → GoingOn xs xs
  on_none xs = record { gone = []; ties = tt; rest = IsPermutation-refl xs }

  pub on_more : (xs ys zs : List (Element K V)) (e : Element K V) → GoingOn xs ys → is_eq (rank e.key key) ≡ true → IsPermutation ys (e ∷ zs) → GoingOn xs zs
  on_more xs ys zs e d tie s =
      record {
        gone = e ∷ d.gone;
        ties = (tie, d.ties);
        rest = IsPermutation-trans xs (d.gone ++ ys) (e ∷ (d.gone ++ zs)) d.rest
            (IsPermutation-trans (d.gone ++ ys) (d.gone ++ e ∷ zs) (e ∷ (d.gone ++ zs)) (shuffled_after d.gone ys (e ∷ zs) s) (IsPermutation-sym (e ∷ (d.gone ++ zs)) (d.gone ++ e ∷ zs) (shuffled_middle d.gone zs e)));
      }

  pub on_end : IsTotalOrder rank → (xs ys : List (Element K V)) (e : Element K V) → AllByRecursion (λ y. UpTo rank key y.key) xs → GoingOn xs ys → AllByRecursion (λ y. UpTo rank e.key y.key) ys → UpTo rank key e.key → is_eq (rank e.key key) ≡ false → Drained rank key xs ys
  on_end law xs ys e low d h u c =
      record { gone = d.gone; ties = d.ties; rest = d.rest; apart = All-weaker (λ (y : Element K V). UpTo rank e.key y.key) (λ (y : Element K V). is_eq (rank y.key key) ≡ false) (λ y a. tie_not rank law key e.key y.key a u c) ys h }

  pub on_empty : (xs ys : List (Element K V)) → GoingOn xs ys → ys ≡ [] → Drained rank key xs ys
  on_empty xs ys d e = record { gone = d.gone; ties = d.ties; rest = d.rest; apart = subst⁻¹ (AllByRecursion (λ y. is_eq (rank y.key key) ≡ false)) e tt }

  -- what is left is not before the key
  pub on_low : (xs ys : List (Element K V)) → AllByRecursion (λ y. UpTo rank key y.key) xs → GoingOn xs ys → AllByRecursion (λ y. UpTo rank key y.key) ys
  on_low xs ys low d = all_right (λ (y : Element K V). UpTo rank key y.key) d.gone ys (all_shuffled (λ (y : Element K V). UpTo rank key y.key) xs (d.gone ++ ys) d.rest low)

  -- what holds of each, holds of each that is left
  pub on_all : (P : Element K V → Type 0) (xs ys : List (Element K V)) → AllByRecursion P xs → GoingOn xs ys → AllByRecursion P ys
  on_all P xs ys low d = all_right P d.gone ys (all_shuffled P xs (d.gone ++ ys) d.rest low)

module _ {K : Type 0} (rank : K → K → Ordering) (key : K) (t : Target) where
  -- what is gone so far, its arcs set
  pub record PointingOn (xs ys : List (Element K Request)) (before after : List Row) : Type 0 where
    pub base : GoingOn rank key xs ys
    pub rows : after ≡ pointed t base.gone before

  pub pointing_none : (xs : List (Element K Request)) (before : List Row) → PointingOn xs xs before before
  unfolding on_none
  pointing_none xs before = record { base = on_none rank key xs; rows = refl }

  pub pointing_more : (xs ys zs : List (Element K Request)) (e : Element K Request) (before rows : List Row) (d : Row) → PointingOn xs ys before rows → is_eq (rank e.key key) ≡ true → IsPermutation ys (e ∷ zs) →
      d ≡ point t e.carried.high (get_or rows e.carried.row no_row) → PointingOn xs zs before (set rows e.carried.row d)
  unfolding on_more
  pointing_more xs ys zs e before rows d p tie s f =
      record {
        base = on_more rank key xs ys zs e p.base tie s;
        rows = ap (set rows e.carried.row) f ∙ ap (λ l. set l e.carried.row (point t e.carried.high (get_or l e.carried.row no_row))) p.rows;
      }
