-- Lists by their places.
use Rattle.std.proofs.Common.{◌≡◌, ℕ, zero, suc, ◌+◌, ◌<◌, List, [], ◌∷◌, ◌++◌, map, length, take, drop, set, Some, None, Option, sym, refl, ap, ◌∙◌, arith, Bor}
use Rattle.std.specs.List.{slice_get}
use Rattle.std.specs.Option.{option_map}
use Rattle.std.specs.Slice.{IsGetResult}
use Rattle.std.proofs.lemmas.Option.{slice_get_past, slice_get_read}

pub nth_map : {X Y : Type 0} (f : X → Y) (xs : List X) (i : ℕ) → slice_get (map f xs) i ≡ option_map f (slice_get xs i)
nth_map f [] i = refl
nth_map f (x ∷ xs) zero = refl
nth_map f (x ∷ xs) (suc i) = nth_map f xs i

pub nth_map_at : {X Y : Type 0} (f : X → Y) (xs : List X) (i : ℕ) (o : Option X) → o ≡ slice_get xs i → option_map f o ≡ slice_get (map f xs) i
nth_map_at f xs i o e = ap (option_map f) e ∙ sym (nth_map f xs i)

-- what a slice's `get` finds, copied out
pub get_nth : {X : Type 0} (xs : List X) (i : ℕ) (r : Option (Bor X)) → IsGetResult xs i i r → option_map (λ x. x.now) r ≡ slice_get xs i
get_nth xs i None h = sym (slice_get_past xs i h.3)
get_nth xs i (Some x) h = sym (slice_get_read xs (length xs) i x.now refl h.3.0 h.1)

-- one element more copied to the front
pub front_more : {X Y : Type 0} (f : X → Y) (xs : List X) (ys : List Y) (i : ℕ) (x : X) → Some x ≡ slice_get xs i → i < length ys → set (map f (take i xs) ++ drop i ys) i (f x) ≡ map f (take (i + 1) xs) ++ drop (i + 1) ys
front_more f [] ys i x e h = let z : ◌≡◌ {A = ℕ} 0 1 = cc in absurd (omega arith)
front_more f (q ∷ xs) [] i x e h = absurd (omega arith)
front_more f (q ∷ xs) (y ∷ ys) zero x e h = let d : x ≡ q = cc in ap (λ z. f z ∷ ys) d
front_more f (q ∷ xs) (y ∷ ys) (suc i) x e h =
    let j : suc i + 1 ≡ suc (i + 1) = omega arith in
    rw j (ap (λ zs. f q ∷ zs) (front_more f xs ys i x e (omega arith)))
