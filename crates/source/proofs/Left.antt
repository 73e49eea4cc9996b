-- One step of a walk over a list by its places.
use Rattle.std.proofs.Common.{◌≡◌, ℕ, zero, suc, ◌+◌, ◌<◌, List, [], ◌∷◌, ◌++◌, take, drop, length, Some, None, Option, sym, refl, ap, ◌∙◌, arith, append-nil, length-append}
use Rattle.std.specs.List.{slice_get}
use Rattle.std.specs.Option.{MatchOption}
use Rattle.std.specs.Iterator.{YieldsFirst, Yields}

none_left : {X : Type 0} (xs : List X) (a b : ℕ) → None ≡ slice_get xs a → drop a (take b xs) ≡ []
none_left [] zero zero e = refl
none_left [] zero (suc b) e = refl
none_left [] (suc a) zero e = refl
none_left [] (suc a) (suc b) e = refl
none_left (x ∷ xs) zero b e = let z : ◌≡◌ {A = ℕ} 0 1 = cc in absurd (omega arith)
none_left (x ∷ xs) (suc a) zero e = refl
none_left (x ∷ xs) (suc a) (suc b) e = none_left xs a b e

none_more : {X : Type 0} (xs : List X) (a : ℕ) → drop a xs ≡ [] → drop (a + 1) xs ≡ []
none_more [] a e = let j : a + 1 ≡ suc a = omega arith in rw j refl
none_more (x ∷ xs) zero e = let z : ◌≡◌ {A = ℕ} 0 1 = cc in absurd (omega arith)
none_more (x ∷ xs) (suc a) e = let j : suc a + 1 ≡ suc (a + 1) = omega arith in rw j (none_more xs a e)

some_left : {X : Type 0} (xs : List X) (a b : ℕ) (x : X) → a < b → Some x ≡ slice_get xs a → drop a (take b xs) ≡ x ∷ drop (a + 1) (take b xs)
some_left xs a zero x h e = absurd (omega arith)
some_left [] a (suc b) x h e = let z : ◌≡◌ {A = ℕ} 0 1 = cc in absurd (omega arith)
some_left (y ∷ ys) zero (suc b) x h e = let d : y ≡ x = cc in ap (λ z. z ∷ take b ys) d
some_left (y ∷ ys) (suc a) (suc b) x h e =
    let j : suc a + 1 ≡ suc (a + 1) = omega arith in
    rw j (some_left ys a b x (omega arith) e)

-- what stands at the first place that is left is the first of what is left
pub first_left : {X : Type 0} (xs : List X) (a b : ℕ) (r : Option X) → a < b → r ≡ slice_get xs a → MatchOption r ((drop a (take b xs) ≡ []) × (drop (a + 1) (take b xs) ≡ [])) (λ x. drop a (take b xs) ≡ x ∷ drop (a + 1) (take b xs))
first_left xs a b None h e = let n = none_left xs a b e in (n, none_more (take b xs) a n)
first_left xs a b (Some x) h e = some_left xs a b x h e

came : {S X : Type 0} (rest : S → List X) (s : S) (xs : List X) (t : S) → Yields (YieldsFirst rest) s xs t → rest s ≡ xs ++ rest t
came rest s [] t h = ap rest h
came rest s (x ∷ xs) t h =
    let one : rest s ≡ x ∷ rest h.0 = h.1 in
    one ∙ ap (λ ys. x ∷ ys) (came rest h.0 xs t h.2)

-- a walk over rs, of which xs came
module _ {S X : Type 0} (rest : S → List X) {s t : S} {rs : List X} (xs : List X) (begun : rest s ≡ rs) (h : Yields (YieldsFirst rest) s xs t) where
  -- where nothing is left, all came
  pub came_all : rest t ≡ [] → xs ≡ rs
  came_all e = sym (append-nil xs) ∙ ap (λ ys. xs ++ ys) (sym e) ∙ sym (came rest s xs t h) ∙ begun

  -- one that comes stands behind those that came
  pub came_next : (x : X) (ys : List X) → rest t ≡ x ∷ ys → rs ≡ xs ++ x ∷ ys
  came_next x ys e = sym begun ∙ came rest s xs t h ∙ ap (λ zs. xs ++ zs) e

  -- so fewer came before
  pub came_few : (x : X) (ys : List X) → rest t ≡ x ∷ ys → length xs < length rs
  came_few x ys e = let k = ap length (came_next x ys e) in omega (arith, k, length-append xs (x ∷ ys))
