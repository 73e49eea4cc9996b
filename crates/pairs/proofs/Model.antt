-- A model of the sweep, with a list for the queue.
use Rattle.std.proofs.Common.{◌≡◌, ℕ, zero, suc, cond, ltb, List, [], ◌∷◌, ◌++◌, length, take, filter}
use Rattle.pairs.specs.declared.Pair.{Pair}
use Rattle.pairs.specs.Pairs.{Run, Sides, start, opens, ahead}
use Rattle.pairs.specs.Rows.{Rows, Arc, arcs, Outcome, done, no_row, queue_full, Comes}

-- the least of p and the pairs that arcs wait for
unfoldable pub least : Run → Pair → List Arc → Pair
least r p [] = p
least r p (a ∷ ws) = least r (cond (ahead r a.to p) a.to p) ws

-- what still waits when row p is opened
unfoldable pub later : Run → Pair → List Arc → List Arc
later r p ws = filter (λ a. ahead r p a.to) ws

-- the rows so far and how the run came out
pub record Result : Type 0 where
  pub rows : List Pair
  pub came : Outcome

-- the next waiting pair, if there is one, is taken with all its arcs
unfoldable pub next : {R : Type 0} → Run → (Pair → List Arc → R) → R → List Arc → R
next r f d [] = d
next r f d (a ∷ ws) = f (least r a.to ws) (later r (least r a.to ws) (a ∷ ws))

-- with `left` rows free, open the row of p behind the rows xs, where ws waits, and go on
unfoldable pub enter : Run → ℕ → ℕ → List Pair → Pair → List Arc → Result
enter r capacity zero xs p ws = record { rows = xs; came = no_row (length xs) }
enter r capacity (suc left) xs p ws =
    let ys = xs ++ (p ∷ []) in
    let vs = ws ++ arcs r (length xs) (p ∷ []) in
    let go = next r (λ q us. enter r capacity left ys q us) (record { rows = ys; came = done }) vs in
    cond (ltb capacity (length vs)) (record { rows = ys; came = queue_full (length xs) }) go

-- the whole run
unfoldable pub sweep : Run → ℕ → ℕ → Result
sweep r space capacity = cond (opens r.operator (start r)) (enter r capacity space [] (start r) []) (record { rows = []; came = done })

-- the model comes out right, with a front of the rows, and with all of them when it is done
abbrev pub ModelRight : Type 0
ModelRight =
    (r : Run) → Sides r → (ps : List Pair) → Rows r ps → (space capacity : ℕ) →
    Comes r ps space capacity (sweep r space capacity).came ×
    ((sweep r space capacity).rows ≡ take (length (sweep r space capacity).rows) ps) ×
    ((sweep r space capacity).came ≡ done → (sweep r space capacity).rows ≡ ps)
