-- The order of targets as an answer of a comparison, and its laws, for keys and sorts. Assumes nothing.
use Rattle.std.specs.Prelude.{◌≡◌, ℕ, ◌<◌, ◌==◌, refl}
use Rattle.std.specs.declared.cmp.Ordering.TheVariants.{Less, Equal, Greater}
use Rattle.std.specs.declared.cmp.Ordering.{Ordering}
use Rattle.std.proofs.Common.{sym, ap₂, inl, inr, arith}
use Rattle.std.specs.Cmp.{IsTotalOrder, ranks, strict, both_tied, unsigned_ties}
use Rattle.std.specs.Ordering.{ordering_then, MatchOrdering, nat_cmp, eq_by_cmp}
use Rattle.listing.specs.declared.Target.{Target}
use Rattle.listing.specs.declared.Target.TheVariants.{Node, False, True}
use Rattle.listing.specs.Listing.{Before}
use Rattle.listing.specs.Tests.{same_target}

-- how two targets compare: nodes by level, then number; then False; then True
abbrev pub rank_target : Target → Target → Ordering
rank_target (Node a i) (Node b j) = ordering_then (nat_cmp a b) (nat_cmp i j)
rank_target (Node a i) False = Less
rank_target (Node a i) True = Less
rank_target False (Node b j) = Greater
rank_target False False = Equal
rank_target False True = Less
rank_target True (Node b j) = Greater
rank_target True False = Greater
rank_target True True = Equal

-- `Before` is strict
pub before_irr : (t : Target) → Before t t → ⊥
before_irr (Node a i) h = omega arith
before_irr False h = h
before_irr True h = h

lex_trans : (a i b j c k : ℕ) → Before (Node a i) (Node b j) → Before (Node b j) (Node c k) → Before (Node a i) (Node c k)
lex_trans a i b j c k (inl p) (inl q) = inl (omega arith)
lex_trans a i b j c k (inl p) (inr q) = inl (omega arith)
lex_trans a i b j c k (inr p) (inl q) = inl (omega arith)
lex_trans a i b j c k (inr p) (inr q) = inr (omega arith, omega arith)

pub before_trans : (t u v : Target) → Before t u → Before u v → Before t v
before_trans (Node a i) (Node b j) (Node c k) h g = lex_trans a i b j c k h g
before_trans (Node a i) (Node b j) False h g = tt
before_trans (Node a i) (Node b j) True h g = tt
before_trans (Node a i) False (Node c k) h g = absurd g
before_trans (Node a i) False False h g = absurd g
before_trans (Node a i) False True h g = tt
before_trans (Node a i) True (Node c k) h g = absurd g
before_trans (Node a i) True False h g = absurd g
before_trans (Node a i) True True h g = absurd g
before_trans False (Node b j) v h g = absurd h
before_trans False False v h g = absurd h
before_trans False True (Node c k) h g = absurd g
before_trans False True False h g = absurd g
before_trans False True True h g = absurd g
before_trans True (Node b j) v h g = absurd h
before_trans True False v h g = absurd h
before_trans True True v h g = absurd h

-- `rank_target` tells `Before`
lex : (a b i j : ℕ) (o p : Ordering) → MatchOrdering o (a < b) (a ≡ b) (b < a) → MatchOrdering p (i < j) (i ≡ j) (j < i) →
    MatchOrdering (ordering_then o p) (Before (Node a i) (Node b j)) (Node a i ≡ Node b j) (Before (Node b j) (Node a i))
lex a b i j Less p h k = inl h
lex a b i j Equal Less h k = inr (h, k)
lex a b i j Equal Equal h k = ap₂ Node h k
lex a b i j Equal Greater h k = inr (sym h, k)
lex a b i j Greater p h k = inl h

pub ranks_target : (t u : Target) → MatchOrdering (rank_target t u) (Before t u) (t ≡ u) (Before u t)
ranks_target (Node a i) (Node b j) = lex a b i j (nat_cmp a b) (nat_cmp i j) (ranks a b) (ranks i j)
ranks_target (Node a i) False = tt
ranks_target (Node a i) True = tt
ranks_target False (Node b j) = tt
ranks_target False False = refl
ranks_target False True = tt
ranks_target True (Node b j) = tt
ranks_target True False = tt
ranks_target True True = refl

-- so the order of targets is total and transitive
abbrev pub target_total : IsTotalOrder rank_target
target_total = strict Before before_irr before_trans rank_target ranks_target

-- and two of them tie where the test finds them the same
pub target_ties : (t u : Target) → same_target t u ≡ eq_by_cmp rank_target t u
target_ties (Node a i) (Node b j) = both_tied (a == b) (i == j) (nat_cmp a b) (nat_cmp i j) (unsigned_ties a b) (unsigned_ties i j)
target_ties (Node a i) False = refl
target_ties (Node a i) True = refl
target_ties False (Node b j) = refl
target_ties False False = refl
target_ties False True = refl
target_ties True (Node b j) = refl
target_ties True False = refl
target_ties True True = refl
