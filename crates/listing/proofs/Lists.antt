-- Lists of records by their members: sorted lists with the same members are equal; a list that maps apart into another is no longer.
use Rattle.std.proofs.Common.{◌≡◌, suc, ◌≤◌, ◌⊎◌, List, [], ◌∷◌, length, sym, refl, ap, ◌∙◌, subst, ap₂, inl, inr, ⊎_elim, arith}
use Rattle.listing.specs.declared.Record.{Record}
use Rattle.listing.specs.Members.{In}
use Rattle.listing.proofs.Walk.{Ahead, Earlier}
use Rattle.listing.proofs.Rules.{Ordered, ahead_trans}

ahead_irr : (r q : Record) → r ≡ q → Ahead r q → ⊥
ahead_irr r q e h = omega (arith, ap (λ (x : Record). x.level) e, ap (λ (x : Record). x.number) e)

abbrev Among : List Record → List Record → Type 0
Among xs ys = (r : Record) → In r xs → In r ys

-- the heads of two sorted lists with the same members are equal
heads : (x : Record) (xs : List Record) (y : Record) (ys : List Record) → Earlier x xs → Earlier y ys → In x (y ∷ ys) → In y (x ∷ xs) → x ≡ y
heads x xs y ys ex ey (inl e) k = e
heads x xs y ys ex ey (inr m) (inl e) = sym e
heads x xs y ys ex ey (inr m) (inr k) = absurd (ahead_irr x x refl (ahead_trans x y x (ex y k) (ey x m)))

tails : (x : Record) (xs : List Record) (y : Record) (ys : List Record) → x ≡ y → Earlier x xs → Among (x ∷ xs) (y ∷ ys) → Among xs ys
tails x xs y ys e ex w r m = ⊎_elim (λ f. absurd (ahead_irr x r (e ∙ sym f) (ex r m))) (λ k. k) (w r (inr m))

pub same_members : (xs ys : List Record) → Ordered xs → Ordered ys → Among xs ys → Among ys xs → xs ≡ ys
same_members [] [] ox oy f g = refl
same_members [] (y ∷ ys) ox oy f g = absurd (g y (inl refl))
same_members (x ∷ xs) [] ox oy f g = absurd (f x (inl refl))
same_members (x ∷ xs) (y ∷ ys) ox oy f g =
    let e = heads x xs y ys ox.0 oy.0 (f x (inl refl)) (g y (inl refl)) in
    ap₂ ◌∷◌ e (same_members xs ys ox.1 oy.1 (tails x xs y ys e ox.0 f) (tails y ys x xs (sym e) oy.0 g))

abbrev without : (ys : List Record) (q : Record) → In q ys → List Record
without [] q m = []
without (y ∷ ys) q (inl e) = ys
without (y ∷ ys) q (inr m) = y ∷ without ys q m

without_length : (ys : List Record) (q : Record) (m : In q ys) → length ys ≡ suc (length (without ys q m))
without_length [] q m = absurd m
without_length (y ∷ ys) q (inl e) = refl
without_length (y ∷ ys) q (inr m) = ap suc (without_length ys q m)

without_keeps : (ys : List Record) (q : Record) (m : In q ys) (p : Record) → In p ys → (p ≡ q) ⊎ In p (without ys q m)
without_keeps [] q m p k = absurd m
without_keeps (y ∷ ys) q (inl e) p (inl f) = inl (f ∙ sym e)
without_keeps (y ∷ ys) q (inl e) p (inr k) = inr k
without_keeps (y ∷ ys) q (inr m) p (inl f) = inr (inl f)
without_keeps (y ∷ ys) q (inr m) p (inr k) = ⊎_elim (λ f. inl f) (λ j. inr (inr j)) (without_keeps ys q m p k)

module _ (R : Record → Record → Type 0) where
  -- no two of the records have one image
  abbrev pub Apart : List Record → Type 0
  Apart [] = Unit {0}
  Apart (r ∷ rs) = ((p : Record) → In p rs → (q : Record) → R r q → R p q → ⊥) × Apart rs

  pub no_longer : (xs ys : List Record) → Apart xs → ((r : Record) → In r xs → (q : Record) × In q ys × R r q) → length xs ≤ length ys
  no_longer [] ys a f = omega arith
  no_longer (r ∷ rs) ys a f =
      let w = f r (inl refl) in
      let ih = no_longer rs (without ys w.0 w.1) a.1 (λ p m.
      let v = f p (inr m) in (
        v.0,
        ⊎_elim (λ e. absurd (a.0 p m w.0 w.2 (subst (λ (x : Record). R p x) e v.2))) (λ k. k) (without_keeps ys w.0 w.1 v.0 v.1),
        v.2,
      )) in
      omega (arith, without_length ys w.0 w.1)
