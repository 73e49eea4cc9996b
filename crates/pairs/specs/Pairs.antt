-- The pairs of a product run: two listings under an operator, each side perhaps with one fixed fact.
use Rattle.std.specs.Prelude.{◌≡◌, ℕ, ◌/◌, ◌%◌, min, Bool, true, false, cond, not, ◌&&◌, ◌||◌, List, [], ◌∷◌, Some, None, Option, ◌==◌, nat_lt}
use Rattle.listing.specs.declared.Target.{Target}
use Rattle.listing.specs.declared.Target.TheVariants.{Node, False, True}
use Rattle.listing.specs.declared.Record.{Record}
use Rattle.listing.specs.Listing.{names, child, depth, Listing}
use Rattle.listing.specs.Tests.{before, same_target}
use Rattle.pairs.specs.declared.Pair.{Pair}
use Rattle.pairs.specs.declared.Fixed.{Fixed}

-- a listing by its root and records, and perhaps a fixed fact: a level, and what the fact there is set to
pub record Side : Type 0 where
  pub records : List Record
  pub root : Target
  pub fixed : Option Fixed

-- a run: the number of facts of both sides, the two sides, and an operator, 0 to 15
pub record Run : Type 0 where
  pub facts : ℕ
  pub left : Side
  pub right : Side
  pub operator : ℕ

-- both sides are listings by the rules over the same facts
pub record Sides (r : Run) : Type 0 where
  pub left : Listing r.facts r.left.root r.left.records
  pub right : Listing r.facts r.right.root r.right.records

-- the operator's answer of f and g: its bit of weight 1, 2, 4 or 8 for (0,0), (0,1), (1,0) or (1,1)
abbrev pub answer : ℕ → Bool → Bool → Bool
answer o false false = o % 2 == 1
answer o false true = o / 2 % 2 == 1
answer o true false = o / 4 % 2 == 1
answer o true true = o / 8 % 2 == 1

-- where a node leads at a bit: its low at 0, its high at 1
unfoldable pub leads : List Record → Bool → Target → Target
leads [] b t = t
leads (r ∷ rs) b t = cond (names t r) (child b r) (leads rs b t)

-- whether a target is a node on a level
abbrev pub on : ℕ → Target → Bool
on l (Node m k) = m == l
on l False = false
on l True = false

-- a node on the fixed level is replaced by its fixed child
unfoldable pub fixing : List Record → Option Fixed → Target → Target
fixing rs None t = t
fixing rs (Some f) t = cond (on f.level t) (leads rs f.bit t) t

abbrev pub settle : Side → Target → Target
settle d t = fixing d.records d.fixed t

-- a pair's level is the lesser of its two
unfoldable pub pair_level : ℕ → Pair → ℕ
pair_level n p = min (depth n p.left) (depth n p.right)

abbrev pub level : Run → Pair → ℕ
level r p = pair_level r.facts p

-- a side that is on level l moves to its child at b, the fixed fact heeded; any other side stays
unfoldable pub move : Side → ℕ → Bool → Target → Target
move d l b t = cond (on l t) (settle d (leads d.records b t)) t

-- a pair's child: both sides that are on its level move, to low at 0, to high at 1
unfoldable pub kid : Run → Bool → Pair → Pair
kid r b p = record { left = move r.left (level r p) b p.left; right = move r.right (level r p) b p.right }

-- the root pair
unfoldable pub start : Run → Pair
start r = record { left = settle r.left r.left.root; right = settle r.right r.right.root }

-- the terminal's bit, and b put for a node
abbrev pub put : Bool → Target → Bool
put b (Node l k) = b
put b False = false
put b True = true

-- A pair is closed, with answer v, when the operator gives v however terminals are put for the pair's nodes.
abbrev pub Closed : ℕ → Pair → Bool → Type 0
Closed o p v = (f g : Bool) → answer o (put f p.left) (put g p.right) ≡ v

-- a closed pair's answer
unfoldable pub verdict : ℕ → Pair → Bool
verdict o p = answer o (put false p.left) (put false p.right)

abbrev pub differ : Bool → Bool → Bool
differ true b = not b
differ false b = b

-- whether some way of putting terminals changes the answer
abbrev pub changes : ℕ → Pair → Bool
changes o p =
    differ (verdict o p) (answer o (put false p.left) (put true p.right)) ||
    (differ (verdict o p) (answer o (put true p.left) (put false p.right)) ||
    differ (verdict o p) (answer o (put true p.left) (put true p.right)))

-- whether a pair is open, that is, not closed
unfoldable pub opens : ℕ → Pair → Bool
opens o p = changes o p

abbrev pub Open : Run → Pair → Type 0
Open r p = opens r.operator p ≡ true

-- The order of pairs: by level, then left target, then right target.
unfoldable pub ahead : Run → Pair → Pair → Bool
ahead r p q =
    nat_lt (level r p) (level r q) ||
    (level r p == level r q && (before p.left q.left || (same_target p.left q.left && before p.right q.right)))

abbrev pub Ahead : Run → Pair → Pair → Type 0
Ahead r p q = ahead r p q ≡ true

-- `opens` tells open pairs from closed ones
pub record Told (o : ℕ) (p : Pair) : Type 0 where
  pub shut : opens o p ≡ false → Closed o p (verdict o p)
  pub ajar : opens o p ≡ true → (v : Bool) → Closed o p v → ⊥
