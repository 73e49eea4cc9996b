-- A slot in front of a queue. Assumes nothing.
use Rattle.std.specs.Prelude.{ℕ, ◌+◌, ◌≤◌, List, ◌∷◌, length, Some, None, Option}
use Rattle.std.specs.declared.cmp.Ordering.{Ordering}
use Rattle.std.proofs.Common.{arith}
use Rattle.std.specs.List.{AllByRecursion, AllByRecursion-prop}
use Rattle.std.specs.Coded.{Unit-prop}
use Rattle.queue.specs.Rank.{UpTo, upto_single}
use Rattle.queue.specs.declared.Element.{Element}

-- what waits in the slot and below
abbrev pub front : {X : Type 0} → Option X → List X → List X
front None xs = xs
front (Some e) xs = e ∷ xs

-- what the slot holds, else what is next below
abbrev pub foremost : {X : Type 0} → Option X → Option X → Option X
foremost None o = o
foremost (Some e) o = Some e

-- what the slot holds comes after nothing below
abbrev pub Fronts : {K V : Type 0} → (K → K → Ordering) → Option (Element K V) → List (Element K V) → Type 0
Fronts rank None xs = Unit {0}
Fronts rank (Some e) xs = AllByRecursion (λ y. UpTo rank e.key y.key) xs

-- that is one fact, however it was shown
pub fronts_single : {K V : Type 0} (rank : K → K → Ordering) (slot : Option (Element K V)) (xs : List (Element K V)) → IsProp (Fronts rank slot xs)
fronts_single rank None xs = Unit-prop
fronts_single rank (Some e) xs = AllByRecursion-prop _ (λ y. upto_single rank e.key y.key) xs

-- a slot in front holds one at most
pub front_fits : {X : Type 0} (slot : Option X) (xs : List X) (room : ℕ) → length xs ≤ room → length (front slot xs) ≤ room + 1
front_fits None xs room h = omega arith
front_fits (Some e) xs room h = omega arith
