-- What a slot in front of a queue keeps when one is put. Assumes nothing.
use Rattle.std.proofs.Common.{◌≡◌, ℕ, ◌+◌, ◌<◌, ◌≤◌, Bool, true, false, cond, List, ◌∷◌, length, IfErr, Some, None, Ok, Err, Option, Result, Ordering, sym, refl, subst, arith}
use Rattle.std.specs.Ordering.{is_lt}
use Rattle.std.specs.List.{AllByRecursion}
use Rattle.std.specs.List.Sorted.{IsPermutation}
use Rattle.std.proofs.ByRecursion.{All-weaker, all_shuffled}
use Rattle.std.proofs.lemmas.List.Sorted.{IsPermutation-refl, IsPermutation-cons, IsPermutation-trans, length_permutation}
use Rattle.std.specs.Cmp.{IsTotalOrder}
use Rattle.queue.specs.Rank.{UpTo}
use Rattle.queue_front.specs.Front.{front, Fronts}
use Rattle.queue.specs.Waiting.{Least, Put}
use Rattle.queue.specs.declared.Element.{Element}
use Rattle.queue.specs.declared.Refused.{Refused}
use Rattle.queue.proofs.Bags.{shuffled_two}
use Rattle.queue.proofs.Ranks.{key_of, upto_self, upto_before, upto_not_before, upto_trans, upto_at}

module _ {K V : Type 0} {rank : K → K → Ordering} (law : IsTotalOrder rank) where
  -- what does not come after x comes after none of those that x does not come after
  pub all_upto : (e x : Element K V) (xs : List (Element K V)) → UpTo rank e.key x.key → AllByRecursion (λ y. UpTo rank x.key y.key) xs → AllByRecursion (λ y. UpTo rank e.key y.key) xs
  all_upto e x xs h all =
      All-weaker (λ (y : Element K V). UpTo rank x.key y.key) (λ (y : Element K V). UpTo rank e.key y.key) (λ y k. upto_trans law e.key x.key y.key h k) xs all

  -- what comes after none of those that wait, nor after e, comes after none where e joined
  all_put : (x e : Element K V) (xs ys : List (Element K V)) (room : ℕ) (r : Result (Unit {0}) (Refused K V)) → AllByRecursion (λ y. UpTo rank x.key y.key) xs → UpTo rank x.key e.key → Put xs room e ys r → AllByRecursion (λ y. UpTo rank x.key y.key) ys
  all_put x e xs ys room (Ok u) all h p = all_shuffled (λ (y : Element K V). UpTo rank x.key y.key) (e ∷ xs) ys p.1 (h, all)
  all_put x e xs ys room (Err f) all h p = subst (λ l. AllByRecursion (λ (y : Element K V). UpTo rank x.key y.key) l) (sym p.2) all

  -- of x and e, one goes to the front and the other behind
  module _ (x e front' behind : Element K V) (at_front : front' ≡ cond (is_lt (rank e.key x.key)) e x) (at_back : behind ≡ cond (is_lt (rank e.key x.key)) x e) (xs : List (Element K V)) where
    record Two : Type 0 where
      lesser : UpTo rank front'.key behind.key
      first : UpTo rank front'.key x.key
      same : IsPermutation (e ∷ x ∷ xs) (front' ∷ behind ∷ xs)

    two_by : (b : Bool) → is_lt (rank e.key x.key) ≡ b → front' ≡ cond b e x → behind ≡ cond b x e → Two
    two_by true is f g =
        let h : UpTo rank e.key x.key = upto_before law e.key x.key is in
        record {
          lesser = upto_at law e.key x.key front'.key behind.key (key_of f) (key_of g) h;
          first = upto_at law e.key x.key front'.key x.key (key_of f) refl h;
          same = subst (λ u. IsPermutation (e ∷ x ∷ xs) (u ∷ behind ∷ xs)) (sym f) (subst (λ v. IsPermutation (e ∷ x ∷ xs) (e ∷ v ∷ xs)) (sym g) (IsPermutation-refl (e ∷ x ∷ xs)));
        }
    two_by false is f g =
        record {
          lesser = upto_at law x.key e.key front'.key behind.key (key_of f) (key_of g) (upto_not_before law e.key x.key is);
          first = upto_at law x.key x.key front'.key x.key (key_of f) refl (upto_self law x.key);
          same = subst (λ u. IsPermutation (e ∷ x ∷ xs) (u ∷ behind ∷ xs)) (sym f) (subst (λ v. IsPermutation (e ∷ x ∷ xs) (x ∷ v ∷ xs)) (sym g) (shuffled_two e x xs));
        }

    two : Two
    two = two_by (is_lt (rank e.key x.key)) refl at_front at_back

    -- the slot held x, and what does not stay in front was put below
    module _ (slot : Option (Element K V)) (is : slot ≡ Some x) (ys : List (Element K V)) (s : IsPermutation (behind ∷ xs) ys) where
      pub two_kept : Fronts rank slot xs → AllByRecursion (λ y. UpTo rank front'.key y.key) ys
      two_kept f =
          all_shuffled (λ (y : Element K V). UpTo rank front'.key y.key) (behind ∷ xs) ys s (two.lesser, all_upto front' x xs two.first (subst (λ o. Fronts rank o xs) is f))

      pub two_put : (room : ℕ) → length xs < room → (length (front slot xs) < room + 1) × IsPermutation (e ∷ front slot xs) (front' ∷ ys)
      two_put room h =
          subst (λ o. (length (front o xs) < room + 1) × IsPermutation (e ∷ front o xs) (front' ∷ ys)) (sym is)
          (omega arith, IsPermutation-trans (e ∷ x ∷ xs) (front' ∷ behind ∷ xs) (front' ∷ ys) two.same (IsPermutation-cons front' (behind ∷ xs) ys s))

  -- the slot is empty, and e does not come after the next below: it goes into the slot
  pub slot_kept : (x e : Element K V) (xs : List (Element K V)) → Least rank xs (Some x) → UpTo rank e.key x.key → AllByRecursion (λ y. UpTo rank e.key y.key) xs
  slot_kept x e xs l h = all_upto e x xs h l.1

  -- the slot is empty, and e comes after the next below: that goes into the slot, and e below
  module _ (slot o : Option (Element K V)) (x e : Element K V) (empty : slot ≡ None) (is : o ≡ Some x) (xs ys zs : List (Element K V)) (room : ℕ) (r : Result (Unit {0}) (Refused K V)) (s : IsPermutation xs (x ∷ ys)) (p : Put ys room e zs r) where
    pub refill_kept : Least rank xs (Some x) → UpTo rank x.key e.key → Fronts rank o zs
    refill_kept l h =
        subst (λ q. Fronts rank q zs) (sym is) (all_put x e ys zs room r (all_shuffled (λ (y : Element K V). UpTo rank x.key y.key) xs (x ∷ ys) s l.1).1 h p)

    module _ (fits : length xs ≤ room) where
      -- one was taken, so there is room
      never : (q : Result (Unit {0}) (Refused K V)) (P : Refused K V → Type 0) → Put ys room e zs q → IfErr q P
      never (Ok u) P p = tt
      never (Err f) P p = let n = length_permutation xs (x ∷ ys) s in absurd (omega (arith, p.0))

      pub refill_same : (P : Refused K V → Type 0) → IfErr r P
      refill_same P = never r P p

      joins : (q : Result (Unit {0}) (Refused K V)) → Put ys room e zs q → Put xs (room + 1) e (x ∷ zs) q
      joins (Ok u) p = (
        omega arith,
        IsPermutation-trans (e ∷ xs) (e ∷ x ∷ ys) (x ∷ zs) (IsPermutation-cons e xs (x ∷ ys) s)
            (IsPermutation-trans (e ∷ x ∷ ys) (x ∷ e ∷ ys) (x ∷ zs) (shuffled_two e x ys) (IsPermutation-cons x (e ∷ ys) zs p.1)),
      )
      joins (Err f) p = let n = length_permutation xs (x ∷ ys) s in absurd (omega (arith, p.0))

      pub refill_put : Put (front slot xs) (room + 1) e (front o zs) r
      refill_put = subst (λ q. Put (front q xs) (room + 1) e (front o zs) r) (sym empty) (subst (λ q. Put xs (room + 1) e (front q zs) r) (sym is) (joins r p))
