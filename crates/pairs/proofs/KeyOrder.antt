-- Keys are ordered as the pairs.
use Rattle.std.proofs.Common.{◌≡◌, ◌<◌, ◌&&◌, ◌⊎◌, Ordering, Less, Equal, Greater, sym, ap₂, ◌∙◌, inl, inr, ⊎_elim}
use Rattle.std.specs.Bool.{◌==◌}
use Rattle.std.specs.Cmp.{ranks, both_tied, unsigned_ties}
use Rattle.std.specs.Ordering.{ordering_then, eq_by_cmp, MatchOrdering, nat_cmp}
use Rattle.listing.specs.Listing.{Before}
use Rattle.listing.specs.Ranks.{rank_target, ranks_target, target_ties}
use Rattle.listing.specs.Tests.{same_target}
use Rattle.listing.proofs.Derived.{target_same, target_cmp}
use Rattle.pairs.specs.declared.Pair.{Pair}
use Rattle.pairs.specs.Pairs.{Run, level, Ahead}
use Rattle.pairs.specs.contracts.keys.PairKeyOrd.TheImpl as by_key
use Rattle.pairs.specs.contracts.keys.PairKeyPartialEq.TheImpl as same_key
use Rattle.pairs.specs.declared.keys.PairKey.{PairKey}
use Rattle.pairs.specs.Keys.{key_of, rank_key}
use Rattle.pairs.proofs.PairOrder.{Precedes, ahead_decides, pair_path}

then_ranked : (A B C A' B' C' : Type 0) (k m : Ordering) → MatchOrdering k A B C → MatchOrdering m A' B' C' → MatchOrdering (ordering_then k m) (A ⊎ (B × A')) (B × B') (C ⊎ (B × C'))
then_ranked A B C A' B' C' Less m h g = inl h
then_ranked A B C A' B' C' Equal Less h g = inr (h, g)
then_ranked A B C A' B' C' Equal Equal h g = (h, g)
then_ranked A B C A' B' C' Equal Greater h g = inr (h, g)
then_ranked A B C A' B' C' Greater m h g = inl h

ranked_map : (A B C A' B' C' : Type 0) (k : Ordering) → (A → A') → (B → B') → (C → C') → MatchOrdering k A B C → MatchOrdering k A' B' C'
ranked_map A B C A' B' C' Less f g e h = f h
ranked_map A B C A' B' C' Equal f g e h = g h
ranked_map A B C A' B' C' Greater f g e h = e h

-- the keys' order is the pairs'
pub meets : (r : Run) (p q : Pair) → MatchOrdering (rank_key (key_of r.facts p) (key_of r.facts q)) (Ahead r p q) (p ≡ q) (Ahead r q p)
meets r p q =
    ranked_map _ _ _ (Ahead r p q) (p ≡ q) (Ahead r q p) (rank_key (key_of r.facts p) (key_of r.facts q))
    (λ h. (ahead_decides r p q).1 h) (λ h. pair_path p q h.1.0 h.1.1) (λ h. (ahead_decides r q p).1 (back h))
    (then_ranked (level r p < level r q) (level r p ≡ level r q) (level r q < level r p) _ _ _ (nat_cmp (level r p) (level r q)) _ (ranks (level r p) (level r q))
    (then_ranked (Before p.left q.left) (p.left ≡ q.left) (Before q.left p.left) (Before p.right q.right) (p.right ≡ q.right) (Before q.right p.right) (rank_target p.left q.left) (rank_target p.right q.right) (ranks_target p.left q.left) (ranks_target p.right q.right)))
  where
    back : (level r q < level r p) ⊎ ((level r p ≡ level r q) × (Before q.left p.left ⊎ ((p.left ≡ q.left) × Before q.right p.right))) → Precedes r q p
    back (inl l) = inl l
    back (inr h) = inr (sym h.0, ⊎_elim (λ l. inl l) (λ l. inr (sym l.0, l.1)) h.1)

-- the derived comparison of keys is that order
pub key_cmp : (by_key.ghosts).cmp ≡ rank_key
key_cmp = λ i x y. ordering_then (nat_cmp x.level y.level) (ordering_then (target_cmp x.pair.left y.pair.left i) (target_cmp x.pair.right y.pair.right i))

-- and the derived equality holds where two keys tie in it
pub key_eq : (x y : PairKey) → (same_key.ghosts).eq x y ≡ eq_by_cmp rank_key x y
key_eq x y =
    ap₂ (λ a b. (x.level == y.level) && (a && b)) (target_same x.pair.left y.pair.left) (target_same x.pair.right y.pair.right) ∙
    both_tied (x.level == y.level) (same_target x.pair.left y.pair.left && same_target x.pair.right y.pair.right) (nat_cmp x.level y.level) (ordering_then (rank_target x.pair.left y.pair.left) (rank_target x.pair.right y.pair.right)) (unsigned_ties x.level y.level)
    (both_tied (same_target x.pair.left y.pair.left) (same_target x.pair.right y.pair.right) (rank_target x.pair.left y.pair.left) (rank_target x.pair.right y.pair.right) (target_ties x.pair.left y.pair.left) (target_ties x.pair.right y.pair.right))
