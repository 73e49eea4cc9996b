-- The rows of a product run, the cut after a row, and how a run comes out.
use Rattle.std.specs.Prelude.{◌≡◌, ℕ, suc, ◌+◌, ◌<◌, ◌≤◌, Bool, true, false, cond, ◌&&◌, List, [], ◌∷◌, ◌++◌, length, take, Some, filter}
use Rattle.std.specs.List.{slice_get}
use Rattle.listing.specs.Members.{In}
use Rattle.pairs.specs.declared.Pair.{Pair}
use Rattle.pairs.specs.Pairs.{Run, kid, start, opens, Open, ahead, Ahead}

-- each pair before all later ones
abbrev pub Ascending : Run → List Pair → Type 0
Ascending r [] = Unit {0}
Ascending r (p ∷ ps) = ((q : Pair) → In q ps → Ahead r p q) × Ascending r ps

-- the root pair, and the children of open pairs reached
pub data Reached (r : Run) : Pair → Type 0 where
  at_root : {p : Pair} → p ≡ start r → Reached r p
  by_arc : {p : Pair} (q : Pair) (b : Bool) → Reached r q → Open r q → p ≡ kid r b q → Reached r p

-- The rows: the open pairs reached from the root pair, each once, in the order of pairs; they are numbered from 0.
pub record Rows (r : Run) (ps : List Pair) : Type 0 where
  pub ascending : Ascending r ps
  pub sound : (p : Pair) → In p ps → Reached r p × Open r p
  pub full : (p : Pair) → Reached r p → Open r p → In p ps

-- an arc from a row, low or high, to an open pair
pub record Arc : Type 0 where
  pub row : ℕ
  pub high : Bool
  pub to : Pair

-- the arc of row k, which is p, if it leads to an open pair
unfoldable pub arc : Run → ℕ → Pair → Bool → List Arc
arc r k p b = cond (opens r.operator (kid r b p)) (record { row = k; high = b; to = kid r b p } ∷ []) []

-- the arcs of rows k and on to open pairs, low first, each arc by itself
unfoldable pub arcs : Run → ℕ → List Pair → List Arc
arcs r k [] = []
arcs r k (p ∷ ps) = arc r k p false ++ (arc r k p true ++ arcs r (suc k) ps)

-- whether q is beyond each of the pairs
unfoldable pub beyond : Run → List Pair → Pair → Bool
beyond r [] q = true
beyond r (p ∷ ps) q = ahead r p q && beyond r ps q

-- the arcs from rows 0 and on, which are ps, to open pairs beyond them
unfoldable pub waiting : Run → List Pair → List Arc
waiting r ps = filter (λ a. beyond r ps a.to) (arcs r 0 ps)

-- the cut after row k: how many arcs lead from rows 0 to k to open pairs beyond them
unfoldable pub cut : Run → List Pair → ℕ → ℕ
cut r ps k = length (waiting r (take (suc k) ps))

-- how a run comes out: done, or row space lacks for a row, or the queue is full at a row
pub data Outcome : Type 0 where
  done : Outcome
  no_row queue_full : ℕ → Outcome

-- there is space for row k, and the cut after it fits the queue
abbrev pub Fits : Run → List Pair → ℕ → ℕ → ℕ → Type 0
Fits r ps space capacity k = (k < space) × (cut r ps k ≤ capacity)

-- How a run with rows ps comes out: a fault comes at the earliest row where space lacks or the cut exceeds the
-- capacity, space first; else it is done.
abbrev pub Comes : Run → List Pair → ℕ → ℕ → Outcome → Type 0
Comes r ps space capacity done = (k : ℕ) → k < length ps → Fits r ps space capacity k
Comes r ps space capacity (no_row k) = (k < length ps) × ((j : ℕ) → j < k → Fits r ps space capacity j) × (space ≤ k)
Comes r ps space capacity (queue_full k) = (k < length ps) × ((j : ℕ) → j < k → Fits r ps space capacity j) × (k < space) × (capacity < cut r ps k)

-- how many arcs from the rows before row k, which is p, lead to open pairs beyond it
unfoldable pub passing : Run → List Pair → ℕ → Pair → ℕ
passing r ps k p = length (filter (λ a. ahead r p a.to) (waiting r (take k ps)))

-- how many arcs wait when arc b of row k is put: those that pass it, and before high also the row's low
unfoldable pub put_before : Run → List Pair → ℕ → Pair → Bool → ℕ
put_before r ps k p false = passing r ps k p
put_before r ps k p true = passing r ps k p + length (arc r k p false)

-- Arc b of row k, low before high, is the first that finds the queue full.
pub record Refuses (r : Run) (ps : List Pair) (capacity k : ℕ) (p : Pair) (b : Bool) : Type 0 where
  pub row : slice_get ps k ≡ Some p
  pub opened : Open r (kid r b p)
  pub full : put_before r ps k p b ≡ capacity
  pub first : b ≡ true → Open r (kid r false p) → put_before r ps k p false < capacity
