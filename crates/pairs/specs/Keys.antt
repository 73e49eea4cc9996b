-- The order of pair keys: by level, then left target, then right target. Assumes nothing.
use Rattle.std.specs.Prelude.{ℕ}
use Rattle.std.specs.declared.cmp.Ordering.{Ordering}
use Rattle.std.specs.Cmp.{IsTotalOrder, nat_cmp_total, then_total, on_total}
use Rattle.std.specs.Ordering.{ordering_then, nat_cmp}
use Rattle.listing.specs.Ranks.{rank_target, target_total}
use Rattle.pairs.specs.declared.Pair.{Pair}
use Rattle.pairs.specs.declared.keys.PairKey.{PairKey}
use Rattle.pairs.specs.Pairs.{pair_level}

-- the key of a pair over n facts
abbrev pub key_of : ℕ → Pair → PairKey
key_of n p = record { level = pair_level n p; pair = p }

-- how two keys compare
abbrev pub rank_key : PairKey → PairKey → Ordering
rank_key x y = ordering_then (nat_cmp x.level y.level) (ordering_then (rank_target x.pair.left y.pair.left) (rank_target x.pair.right y.pair.right))

-- that order is total and transitive
pub key_total : IsTotalOrder rank_key
key_total = then_total (on_total (λ (x : PairKey). x.level) nat_cmp_total) (then_total (on_total (λ (x : PairKey). x.pair.left) target_total) (on_total (λ (x : PairKey). x.pair.right) target_total))
