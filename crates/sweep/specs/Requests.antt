-- The arcs of rows as they wait in a queue, and arcs pointed at rows. Inner functions cite this.
use Rattle.std.specs.Prelude.{◌≡◌, ℕ, ◌≤◌, Bool, true, false, cond, List, [], ◌∷◌, ◌++◌, length, Some, None, Ok, Err, Option, Result, slice_index_or, slice_set}
use Rattle.std.specs.declared.cmp.Ordering.{Ordering}
use Rattle.std.specs.Ordering.{is_eq}
use Rattle.std.specs.List.{AllByRecursion}
use Rattle.std.specs.List.Sorted.{IsPermutation}
use Rattle.listing.specs.declared.Target.{Target}
use Rattle.listing.specs.declared.Target.TheVariants.{Node, False}
use Rattle.queue.specs.declared.Element.{Element}
use Rattle.queue.specs.Waiting.{Least}
use Rattle.pairs.specs.declared.Pair.{Pair}
use Rattle.pairs.specs.declared.keys.PairKey.{PairKey}
use Rattle.pairs.specs.Keys.{key_of, rank_key}
use Rattle.pairs.specs.Pairs.{Run, kid, opens, verdict}
use Rattle.listing.specs.Listing.{terminal}
use Rattle.rows.specs.declared.row.Row.{Row}
use Rattle.rows.specs.Rows.{no_row}
use Rattle.sweep.specs.declared.faults.Request.{Request}
use Rattle.sweep.specs.declared.faults.RunFault.{RunFault}
use Rattle.sweep.specs.declared.faults.RunFault.TheVariants.{Full}
use Rattle.sweep.specs.declared.requests.Child.{Child}
use Rattle.sweep.specs.declared.requests.Child.TheVariants as child

-- the request of arc b of a row, which leads to the pair p
abbrev pub request : ℕ → ℕ → Bool → Pair → Element PairKey Request
request n row b p = record { key = key_of n p; carried = record { row = row; high = b } }

-- what a pair is as a child: open, or closed with its answer
abbrev pub child_of : ℕ → Pair → Child
child_of o p = cond (opens o p) (child.Open p) (child.Closed (verdict o p))

-- the two children of a pair
pub record Kids (r : Run) (p : Pair) (low high : Child) : Type 0 where
  pub low_is : low ≡ child_of r.operator (kid r false p)
  pub high_is : high ≡ child_of r.operator (kid r true p)

-- what is put for arc b of a row: its request, if the child is open
abbrev pub put_for : ℕ → ℕ → Bool → Child → List (Element PairKey Request)
put_for n row b (child.Open p) = request n row b p ∷ []
put_for n row b (child.Closed v) = []

-- an arc is put, where it has to be, or there is no room for it
abbrev pub PutArc : ℕ → ℕ → ℕ → Bool → Child → List (Element PairKey Request) → List (Element PairKey Request) → Result (Unit {0}) RunFault → Type 0
PutArc room n row b c xs ys (Ok u) = (length ys ≤ room) × IsPermutation (put_for n row b c ++ xs) ys
PutArc room n row b c xs ys (Err f) = (p : Pair) × (c ≡ child.Open p) × (room ≡ length xs) × (f ≡ Full (record { element = request n row b p }))

-- both arcs of a row are put, low first, or one of them finds no room
pub record RefusedArc (room n row : ℕ) (low high : Child) (xs : List (Element PairKey Request)) (f : RunFault) : Type 0 where
  pub side : Bool
  pub pair : Pair
  pub wanted : cond side high low ≡ child.Open pair
  pub full : room ≡ length (cond side (put_for n row false low) [] ++ xs)
  pub is : f ≡ Full (record { element = request n row side pair })

abbrev pub PutArcs : ℕ → ℕ → ℕ → Child → Child → List (Element PairKey Request) → List (Element PairKey Request) → Result (Unit {0}) RunFault → Type 0
PutArcs room n row low high xs ys (Ok u) = (length ys ≤ room) × IsPermutation (put_for n row true high ++ (put_for n row false low ++ xs)) ys
PutArcs room n row low high xs ys (Err f) = RefusedArc room n row low high xs f

-- what an arc is until it is pointed at a row: a closed child's terminal, else False
abbrev pub draft : Child → Target
draft (child.Open p) = False
draft (child.Closed v) = terminal v

-- a row with one arc set
abbrev pub point : Target → Bool → Row → Row
point t true r = record { low = r.low; high = t; level = r.level; number = r.number; own = r.own; first = r.first; image = r.image }
point t false r = record { low = t; high = r.high; level = r.level; number = r.number; own = r.own; first = r.first; image = r.image }

-- the rows with the arcs of the elements set to the target
abbrev pub pointed : {K : Type 0} → Target → List (Element K Request) → List Row → List Row
pointed t [] rows = rows
pointed t (e ∷ es) rows = slice_set (pointed t es rows) e.carried.row (point t e.carried.high (slice_index_or (pointed t es rows) e.carried.row no_row))

-- all that tie with the key are gone, their arcs are set to the target, and the others wait on
pub record Pointed {K : Type 0} (rank : K → K → Ordering) (key : K) (t : Target) (xs ys : List (Element K Request)) (before after : List Row) : Type 0 where
  pub gone : List (Element K Request)
  pub ties : AllByRecursion (λ y. is_eq (rank y.key key) ≡ true) gone
  pub rest : IsPermutation xs (gone ++ ys)
  pub apart : AllByRecursion (λ y. is_eq (rank y.key key) ≡ false) ys
  pub rows : after ≡ pointed t gone before

-- the next pair is that of the least key: all arcs that wait for it are pointed at row k
abbrev pub NextPair : ℕ → List (Element PairKey Request) → List (Element PairKey Request) → List Row → List Row → Option Pair → Type 0
NextPair k xs ys before after None = (xs ≡ []) × (ys ≡ []) × (after ≡ before)
NextPair k xs ys before after (Some p) =
    (e : Element PairKey Request) × Least rank_key xs (Some e) × (p ≡ e.key.pair) × Pointed rank_key e.key (Node e.key.level k) xs ys before after
