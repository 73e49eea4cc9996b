-- A sample: "just one of the facts 0 and 1" made of the two facts, n = 3.
use Rattle.std.specs.Prelude.{◌≡◌, ℕ, true, false, List, [], ◌∷◌, Some, None, Option}
use Rattle.listing.specs.declared.Target.{Target}
use Rattle.listing.specs.declared.Target.TheVariants.{Node, False, True}
use Rattle.listing.specs.declared.Record.{Record}
use Rattle.pairs.specs.declared.Pair.{Pair}
use Rattle.pairs.specs.declared.Fixed.{Fixed}
use Rattle.pairs.specs.Pairs.{answer, Run, Side}
use Rattle.pairs.specs.Rows.{Rows, done, no_row, queue_full, Comes}
use Rattle.pairs.specs.Records.{records_of, root_of}

abbrev pub rec : ℕ → ℕ → Target → Target → Record
rec l k a b = record { level = l; number = k; low = a; high = b }

abbrev pub pair : Target → Target → Pair
pair t u = record { left = t; right = u }

-- the fact of a level, as a side
abbrev pub fact_side : ℕ → Option Fixed → Side
fact_side l f = record { records = rec l 0 False True ∷ []; root = Node l 0; fixed = f }

-- facts a and b of three under an operator, the right side perhaps with a fixed fact
abbrev pub of_facts : ℕ → ℕ → ℕ → Option Fixed → Run
of_facts a b o f = record { facts = 3; left = fact_side a None; right = fact_side b f; operator = o }

-- each weight of the operator is for its own two bits
pub record Weights : Type 0 where
  pub one : (answer 1 false false ≡ true) × (answer 14 false false ≡ false)
  pub two : (answer 2 false true ≡ true) × (answer 13 false true ≡ false)
  pub four : (answer 4 true false ≡ true) × (answer 11 true false ≡ false)
  pub eight : (answer 8 true true ≡ true) × (answer 7 true true ≡ false)

-- the rows of the samples
abbrev pub just_one_rows : List Pair
just_one_rows = pair (Node 0 0) (Node 1 0) ∷ pair False (Node 1 0) ∷ pair True (Node 1 0) ∷ []

abbrev pub both_rows : List Pair
both_rows = pair (Node 0 0) (Node 2 0) ∷ pair True (Node 2 0) ∷ []

abbrev pub turned_rows : List Pair
turned_rows = pair (Node 0 0) True ∷ []

-- Just one of the facts 0 and 1: its rows are ps. With queue capacity 1 and two rows the queue is full at row 0; with capacity 2 and
-- two rows there is no row 2; three rows pass, and are these records.
pub record JustOne (ps : List Pair) : Type 0 where
  pub weights : Weights
  pub rows : Rows (of_facts 0 1 6 None) ps
  pub records : records_of (of_facts 0 1 6 None) ps ≡ rec 0 0 (Node 1 0) (Node 1 1) ∷ rec 1 0 False True ∷ rec 1 1 True False ∷ []
  pub root : root_of (of_facts 0 1 6 None) ps ≡ Node 0 0
  pub tight : Comes (of_facts 0 1 6 None) ps 2 1 (queue_full 0)
  pub short : Comes (of_facts 0 1 6 None) ps 2 2 (no_row 2)
  pub passes : Comes (of_facts 0 1 6 None) ps 3 2 done

-- Both of the facts 0 and 2: its rows are ps.
pub record BothFacts (ps : List Pair) : Type 0 where
  pub rows : Rows (of_facts 0 2 8 None) ps
  pub records : records_of (of_facts 0 2 8 None) ps ≡ rec 0 0 False (Node 2 0) ∷ rec 2 0 False True ∷ []
  pub passes : Comes (of_facts 0 2 8 None) ps 2 1 done

-- Just one of the facts 0 and 1, with fact 1 fixed to 1: fact 0 turned.
abbrev pub fact_set : Option Fixed
fact_set = Some (record { level = 1; bit = true })

pub record Turned (ps : List Pair) : Type 0 where
  pub rows : Rows (of_facts 0 1 6 fact_set) ps
  pub records : records_of (of_facts 0 1 6 fact_set) ps ≡ rec 0 0 True False ∷ []
