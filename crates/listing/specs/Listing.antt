-- Listings of levelled decision diagrams: their value, their rules, and what makes them normal.
use Rattle.std.specs.Prelude.{◌≡◌, ℕ, ◌+◌, ◌<◌, Bool, true, false, cond, ◌&&◌, ◌⊎◌, List, [], ◌∷◌, ◌==◌, ◌≢◌}
use Rattle.listing.specs.declared.Target.{Target}
use Rattle.listing.specs.declared.Target.TheVariants.{Node, False, True}
use Rattle.listing.specs.declared.Record.{Record}
use Rattle.listing.specs.Members.{In}
use Rattle.listing.specs.Settings.{fact, Setting}

-- A record describes one node: its level and number, and two targets, low and high.
-- A listing is n, a root target and a list of records, which stand at places from 0.

-- the node that a record describes
abbrev pub node : Record → Target
node r = Node r.level r.number

-- whether a target is a record's node
abbrev pub names : Target → Record → Bool
names (Node l k) r = l == r.level && k == r.number
names False r = false
names True r = false

-- a record's target where its fact is 0 (low) or 1 (high)
abbrev pub child : Bool → Record → Target
child b r = cond b r.high r.low

abbrev pub is_true : Target → Bool
is_true (Node l k) = false
is_true False = false
is_true True = true

-- the level that a target lies on over n facts: terminals lie on level n
abbrev pub depth : ℕ → Target → ℕ
depth n (Node l k) = l
depth n False = n
depth n True = n

-- the terminal of a bit
abbrev pub terminal : Bool → Target
terminal b = cond b True False

-- Where fact i is `f i`, follow the records from a target to a terminal, and tell whether that is True.
-- Targets stand later in a list than what leads to them, so one pass over the list finds them.
abbrev pub walk : List Record → (ℕ → Bool) → Target → Bool
walk [] f t = is_true t
walk (r ∷ rs) f t = cond (names t r) (walk rs f (child (f r.level) r)) (walk rs f t)

-- the value of a target at a setting; a listing's value is that of its root
abbrev pub value : List Record → List Bool → Target → Bool
value rs s t = walk rs (fact s) t

-- the target is a terminal or a node of the listing
abbrev pub Within : List Record → Target → Type 0
Within rs (Node l k) = (r : Record) × In r rs × (node r ≡ Node l k)
Within rs False = Unit {0}
Within rs True = Unit {0}

-- the target is a terminal or a node on a higher level than l
abbrev pub Above : ℕ → Target → Type 0
Above l (Node m k) = l < m
Above l False = Unit {0}
Above l True = Unit {0}

-- R1: with no record the root is a terminal, else it is the node at place 0
abbrev pub Rooted : Target → List Record → Type 0
Rooted t [] = (t ≡ False) ⊎ (t ≡ True)
Rooted t (r ∷ rs) = t ≡ node r

-- R2: every level is below n
abbrev pub Levelled : ℕ → List Record → Type 0
Levelled n rs = (r : Record) → In r rs → r.level < n

-- r has its predecessor's level and the next number, or a higher level and number 0
abbrev pub Next : Record → Record → Type 0
Next p r = ((r.level ≡ p.level) × (r.number ≡ p.number + 1)) ⊎ ((p.level < r.level) × (r.number ≡ 0))

abbrev pub Follows : Record → List Record → Type 0
Follows p [] = Unit {0}
Follows p (r ∷ rs) = Next p r × Follows r rs

-- R3: the first number is 0, and each later record is next to its predecessor
abbrev pub Numbered : List Record → Type 0
Numbered [] = Unit {0}
Numbered (r ∷ rs) = (r.number ≡ 0) × Follows r rs

-- R4: every target is a terminal, or a node of the listing on a higher level than its record
abbrev pub Targeted : List Record → Type 0
Targeted rs = (r : Record) → In r rs → (b : Bool) → Within rs (child b r) × Above r.level (child b r)

-- r is a target of p
abbrev pub Aims : Record → Record → Type 0
Aims p r = (p.low ≡ node r) ⊎ (p.high ≡ node r)

-- each record is a target of an earlier one, those before the first of them being `before`
abbrev pub Reached : List Record → List Record → Type 0
Reached before [] = Unit {0}
Reached before (r ∷ rs) = ((p : Record) × In p before × Aims p r) × Reached (r ∷ before) rs

-- R5: every record but the first is a target of an earlier record
abbrev pub Aimed : List Record → Type 0
Aimed [] = Unit {0}
Aimed (r ∷ rs) = Reached (r ∷ []) rs

-- a listing by the rules
pub record Listing (n : ℕ) (root : Target) (rs : List Record) : Type 0 where
  pub rooted : Rooted root rs
  pub levelled : Levelled n rs
  pub numbered : Numbered rs
  pub targeted : Targeted rs
  pub aimed : Aimed rs

-- the order of targets: nodes by level and then number, then False, then True
abbrev pub Before : Target → Target → Type 0
Before (Node a i) (Node b j) = (a < b) ⊎ ((a ≡ b) × (i < j))
Before (Node a i) False = Unit {0}
Before (Node a i) True = Unit {0}
Before False (Node b j) = ⊥
Before False False = ⊥
Before False True = Unit {0}
Before True (Node b j) = ⊥
Before True False = ⊥
Before True True = ⊥

-- q comes after p by low, then by high
abbrev pub Rises : Record → Record → Type 0
Rises p q = Before p.low q.low ⊎ ((p.low ≡ q.low) × Before p.high q.high)

-- the order of records: by node, then by low, then by high
abbrev pub RecordBefore : Record → Record → Type 0
RecordBefore p q = Before (node p) (node q) ⊎ ((node p ≡ node q) × Rises p q)

-- neighbours on one level rise
abbrev pub Rising : Record → List Record → Type 0
Rising p [] = Unit {0}
Rising p (r ∷ rs) = (p.level ≡ r.level → Rises p r) × Rising r rs

abbrev pub Sorted : List Record → Type 0
Sorted [] = Unit {0}
Sorted (r ∷ rs) = Rising r rs

-- each record tests its fact: its low and high differ
abbrev pub Tested : List Record → Type 0
Tested rs = (r : Record) → In r rs → r.low ≢ r.high

-- what makes a listing by the rules normal: low and high differ in every record, and on each level the records rise strictly by low, then high
pub record Normal (rs : List Record) : Type 0 where
  pub tested : Tested rs
  pub sorted : Sorted rs

-- t in xs and u in ys have the same value at all settings of n facts
abbrev pub Agree : ℕ → List Record → Target → List Record → Target → Type 0
Agree n xs t ys u = (s : List Bool) → Setting n s → value xs s t ≡ value ys s u
