-- Lists with the same elements. Assumes nothing.
use Rattle.std.proofs.Common.{◌≡◌, ℕ, ◌+◌, ◌-◌, ◌<◌, List, ◌∷◌, ◌++◌, length, take, sym, ap, ◌∙◌, subst, arith}
use Rattle.std.specs.List.Sorted.{IsPermutation}
use Rattle.std.proofs.lemmas.List.{take-take, take_at, length-take-le}
use Rattle.std.proofs.lemmas.List.Sorted.{IsPermutation-insert, length_permutation}

-- the first two change places
pub shuffled_two : {X : Type 0} (x y : X) (xs : List X) → IsPermutation (x ∷ y ∷ xs) (y ∷ x ∷ xs)
shuffled_two x y xs = IsPermutation-insert (y ∷ xs) 1 x

-- e went among the first n of a longer list
pub joined : {X : Type 0} (xs ys rest : List X) (n : ℕ) (e : X) → n < length xs → IsPermutation (e ∷ take (length (take (n + 1) xs) - 1) (take (n + 1) xs)) ys → IsPermutation (e ∷ take n xs) (take (n + 1) (ys ++ rest))
joined xs ys rest n e free s =
    let b : length (take (n + 1) xs) ≡ n + 1 = length-take-le (n + 1) xs (omega arith) in
    let front : take (length (take (n + 1) xs) - 1) (take (n + 1) xs) ≡ take n xs = ap (λ k. take k (take (n + 1) xs)) (omega arith) ∙ take-take n (n + 1) xs (omega arith) in
    let t : IsPermutation (e ∷ take n xs) ys = subst (λ zs. IsPermutation (e ∷ zs) ys) front s in
    let l = length_permutation (e ∷ take n xs) ys t in
    let c : length (take n xs) ≡ n = length-take-le n xs (omega arith) in
    subst (λ zs. IsPermutation (e ∷ take n xs) zs) (sym (take_at ys rest (n + 1) (omega arith))) t
