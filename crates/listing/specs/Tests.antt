-- The rules and the normal form as tests that compute.
use Rattle.std.specs.Prelude.{ℕ, ◌+◌, Bool, true, false, not, ◌&&◌, ◌||◌, List, [], ◌∷◌, ◌==◌, nat_lt}
use Rattle.listing.specs.declared.Target.{Target}
use Rattle.listing.specs.declared.Target.TheVariants.{Node, False, True}
use Rattle.listing.specs.declared.Record.{Record}
use Rattle.listing.specs.Settings.{settings}
use Rattle.listing.specs.Listing.{node, names, value}

-- whether two targets are the same
abbrev pub same_target : Target → Target → Bool
same_target (Node a i) (Node b j) = a == b && i == j
same_target (Node a i) False = false
same_target (Node a i) True = false
same_target False (Node b j) = false
same_target False False = true
same_target False True = false
same_target True (Node b j) = false
same_target True False = false
same_target True True = true

-- whether a test holds of every record, and of some record
abbrev pub every : (Record → Bool) → List Record → Bool
every p [] = true
every p (r ∷ rs) = p r && every p rs

abbrev pub some : (Record → Bool) → List Record → Bool
some p [] = false
some p (r ∷ rs) = p r || some p rs

abbrev pub within : List Record → Target → Bool
within rs (Node l k) = some (names (Node l k)) rs
within rs False = true
within rs True = true

abbrev pub above : ℕ → Target → Bool
above l (Node m k) = nat_lt l m
above l False = true
above l True = true

-- R1
abbrev pub rooted : Target → List Record → Bool
rooted t [] = same_target t False || same_target t True
rooted t (r ∷ rs) = same_target t (node r)

-- R2
abbrev pub levelled : ℕ → List Record → Bool
levelled n rs = every (λ r. nat_lt r.level n) rs

abbrev pub next : Record → Record → Bool
next p r = (r.level == p.level && r.number == p.number + 1) || (nat_lt p.level r.level && r.number == 0)

abbrev pub follows : Record → List Record → Bool
follows p [] = true
follows p (r ∷ rs) = next p r && follows r rs

-- R3
abbrev pub numbered : List Record → Bool
numbered [] = true
numbered (r ∷ rs) = r.number == 0 && follows r rs

-- R4, of one target and of all
abbrev pub target : List Record → ℕ → Target → Bool
target rs l t = within rs t && above l t

abbrev pub targeted : List Record → Bool
targeted rs = every (λ r. target rs r.level r.low && target rs r.level r.high) rs

abbrev pub aims : Record → Record → Bool
aims p r = same_target p.low (node r) || same_target p.high (node r)

abbrev pub reached : List Record → List Record → Bool
reached before [] = true
reached before (r ∷ rs) = some (λ p. aims p r) before && reached (r ∷ before) rs

-- R5
abbrev pub aimed : List Record → Bool
aimed [] = true
aimed (r ∷ rs) = reached (r ∷ []) rs

-- whether n, a root and records are a listing by the rules
abbrev pub is_listing : ℕ → Target → List Record → Bool
is_listing n root rs = rooted root rs && (levelled n rs && (numbered rs && (targeted rs && aimed rs)))

abbrev pub before : Target → Target → Bool
before (Node a i) (Node b j) = nat_lt a b || (a == b && nat_lt i j)
before (Node a i) False = true
before (Node a i) True = true
before False (Node b j) = false
before False False = false
before False True = true
before True (Node b j) = false
before True False = false
before True True = false

abbrev pub rises : Record → Record → Bool
rises p q = before p.low q.low || (same_target p.low q.low && before p.high q.high)

abbrev pub rising : Record → List Record → Bool
rising p [] = true
rising p (r ∷ rs) = (not (p.level == r.level) || rises p r) && rising r rs

abbrev pub sorted : List Record → Bool
sorted [] = true
sorted (r ∷ rs) = rising r rs

abbrev pub tested : List Record → Bool
tested rs = every (λ r. not (same_target r.low r.high)) rs

-- whether records that keep the rules are normal
abbrev pub is_normal : List Record → Bool
is_normal rs = tested rs && sorted rs

abbrev pub same_bit : Bool → Bool → Bool
same_bit true b = b
same_bit false b = not b

-- whether t in xs and u in ys have the same value at each of some settings, and at all settings of n facts
abbrev pub agree_at : List (List Bool) → List Record → Target → List Record → Target → Bool
agree_at [] xs t ys u = true
agree_at (s ∷ ss) xs t ys u = same_bit (value xs s t) (value ys s u) && agree_at ss xs t ys u

abbrev pub agrees : ℕ → List Record → Target → List Record → Target → Bool
agrees n xs t ys u = agree_at (settings n) xs t ys u
