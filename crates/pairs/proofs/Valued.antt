-- The value of a pair at a choice on all levels.
use Rattle.std.proofs.Common.{Bool, cond, eqb, Some, None, Option}
use Rattle.listing.specs.Listing.{walk}
use Rattle.listing.proofs.Walk.{Choice}
use Rattle.pairs.specs.declared.Pair.{Pair}
use Rattle.pairs.specs.declared.Fixed.{Fixed}
use Rattle.pairs.specs.Pairs.{Run, answer}

-- a choice with the fixed fact set
unfoldable pub fix : Option Fixed → Choice → Choice
fix None s = s
fix (Some f) s = λ m. cond (eqb m f.level) f.bit (s m)

-- the operator's answer of the values of the pair's two targets
unfoldable pub value : Run → Choice → Pair → Bool
value r s p =
    answer r.operator (walk r.left.records (fix r.left.fixed s) p.left) (walk r.right.records (fix r.right.fixed s) p.right)
