-- Members and filters of lists.
use Rattle.std.proofs.Common.{◌≡◌, Bool, true, false, cond, ◌&&◌, ◌⊎◌, List, [], ◌∷◌, ◌++◌, map, filter, sym, refl, ap, ◌∙◌, subst, ap₂, inl, inr, ⊎_elim}
use mathlib.Core.Path.{subst⁻¹}
use Rattle.std.proofs.lemmas.Bool.{cases_Bool, cond-true, cond-false}
use Rattle.listing.specs.declared.Record.{Record}
use Rattle.listing.specs.Members.{In}

pub in_map : {A : Type 0} (f : A → Record) (xs : List A) (x : A) → In x xs → In (f x) (map f xs)
in_map f [] x m = absurd m
in_map f (y ∷ ys) x (inl e) = inl (ap f e)
in_map f (y ∷ ys) x (inr m) = inr (in_map f ys x m)

pub map_in : {A : Type 0} (f : A → Record) (xs : List A) (q : Record) → In q (map f xs) → (x : A) × In x xs × (q ≡ f x)
map_in f [] q m = absurd m
map_in f (y ∷ ys) q (inl e) = (y, inl refl, e)
map_in f (y ∷ ys) q (inr m) = let w = map_in f ys q m in (w.0, inr w.1, w.2)

module _ {A : Type 0} where
  pub among_left : (xs ys : List A) (x : A) → In x xs → In x (xs ++ ys)
  among_left [] ys x m = absurd m
  among_left (z ∷ xs) ys x (inl e) = inl e
  among_left (z ∷ xs) ys x (inr m) = inr (among_left xs ys x m)

  pub among_right : (xs ys : List A) (x : A) → In x ys → In x (xs ++ ys)
  among_right [] ys x m = m
  among_right (z ∷ xs) ys x m = inr (among_right xs ys x m)

  pub among_cases : (xs ys : List A) (x : A) → In x (xs ++ ys) → In x xs ⊎ In x ys
  among_cases [] ys x m = inr m
  among_cases (z ∷ xs) ys x (inl e) = inl (inl e)
  among_cases (z ∷ xs) ys x (inr m) = ⊎_elim (λ k. inl (inr k)) (λ k. inr k) (among_cases xs ys x m)

  pub kept_same : (f g : A → Bool) (xs : List A) → ((x : A) → In x xs → f x ≡ g x) → filter f xs ≡ filter g xs
  kept_same f g [] h = refl
  kept_same f g (x ∷ xs) h = ap₂ (λ (b : Bool) (l : List A). cond b (x ∷ l) l) (h x (inl refl)) (kept_same f g xs (λ y m. h y (inr m)))

  pub kept_none : (f : A → Bool) (xs : List A) → ((x : A) → In x xs → f x ≡ false) → filter f xs ≡ []
  kept_none f [] h = refl
  kept_none f (x ∷ xs) h = cond-false _ _ _ (h x (inl refl)) ∙ kept_none f xs (λ y m. h y (inr m))

  pub kept_all : (f : A → Bool) (xs : List A) → ((x : A) → In x xs → f x ≡ true) → filter f xs ≡ xs
  kept_all f [] h = refl
  kept_all f (x ∷ xs) h = cond-true _ _ _ (h x (inl refl)) ∙ ap (λ l. x ∷ l) (kept_all f xs (λ y m. h y (inr m)))

  -- what a filter keeps
  pub kept_among : (f : A → Bool) (xs : List A) (x : A) → In x (filter f xs) → In x xs × (f x ≡ true)
  kept_among f [] x m = absurd m
  kept_among f (y ∷ xs) x m = by (kept_among f xs x) (cases_Bool (f y))
    where
      by : (In x (filter f xs) → In x xs × (f x ≡ true)) → (f y ≡ true) ⊎ (f y ≡ false) → In x (y ∷ xs) × (f x ≡ true)
      by ih (inl e) = ⊎_elim (λ g. (inl g, ap f g ∙ e)) (λ k. (inr (ih k).0, (ih k).1)) (subst (In x) (cond-true (f y) (y ∷ filter f xs) (filter f xs) e) m)
      by ih (inr e) = let k = subst (In x) (cond-false (f y) (y ∷ filter f xs) (filter f xs) e) m in (inr (ih k).0, (ih k).1)

  pub among_kept : (f : A → Bool) (xs : List A) (x : A) → In x xs → f x ≡ true → In x (filter f xs)
  among_kept f [] x m e = absurd m
  among_kept f (y ∷ xs) x (inl g) e = subst⁻¹ (In x) (cond-true (f y) (y ∷ filter f xs) (filter f xs) (ap f (sym g) ∙ e)) (inl g)
  among_kept f (y ∷ xs) x (inr m) e = by (among_kept f xs x m e) (cases_Bool (f y))
    where
      by : In x (filter f xs) → (f y ≡ true) ⊎ (f y ≡ false) → In x (filter f (y ∷ xs))
      by k (inl g) = subst⁻¹ (In x) (cond-true (f y) (y ∷ filter f xs) (filter f xs) g) (inr k)
      by k (inr g) = subst⁻¹ (In x) (cond-false (f y) (y ∷ filter f xs) (filter f xs) g) k

  -- a filter behind a filter
  pub kept_kept : (f g : A → Bool) (xs : List A) → filter (λ x. f x && g x) xs ≡ filter g (filter f xs)
  kept_kept f g [] = refl
  kept_kept f g (x ∷ xs) = by (kept_kept f g xs) (cases_Bool (f x))
    where
      by : filter (λ x. f x && g x) xs ≡ filter g (filter f xs) → (f x ≡ true) ⊎ (f x ≡ false) → filter (λ x. f x && g x) (x ∷ xs) ≡ filter g (filter f (x ∷ xs))
      by ih (inl e) = ap (λ b. cond (b && g x) (x ∷ filter (λ x. f x && g x) xs) (filter (λ x. f x && g x) xs)) e ∙ ap (λ l. cond (g x) (x ∷ l) l) ih ∙ ap (filter g) (sym (cond-true _ _ _ e))
      by ih (inr e) = ap (λ b. cond (b && g x) (x ∷ filter (λ x. f x && g x) xs) (filter (λ x. f x && g x) xs)) e ∙ ih ∙ ap (filter g) (sym (cond-false _ _ _ e))
