-- A sort by the order of rows ascends.
use Rattle.std.proofs.Common.{◌≡◌, suc, ◌+◌, false, List, [], ◌∷◌, length, get_or, Ordering, Less, Equal, Greater, sym, ap, ◌∙◌, subst, inl, inr, true≢false, arith}
use Rattle.std.specs.Ordering.{is_lt, ordering_then, MatchOrdering}
use Rattle.std.specs.List.Sorted.{IsSortedWithin}
use Rattle.listing.specs.Listing.{Before}
use Rattle.rows.specs.declared.row.Row.{Row}
use Rattle.listing.specs.Ranks.{rank_target, ranks_target}
use Rattle.rows.specs.contracts.row.RowOrd.TheImpl as of_row
use Rattle.rows.proofs.Deriving.{ranked_row}
use Rattle.reduce.specs.Sorts.{Steps, Onwards, Ascending}

steps_by : (p r : Row) (o k : Ordering) → MatchOrdering o (Before r.low p.low) (r.low ≡ p.low) (Before p.low r.low) →
    MatchOrdering k (Before r.high p.high) (r.high ≡ p.high) (Before p.high r.high) → is_lt (ordering_then o k) ≡ false → Steps p r
steps_by p r Less k h g e = absurd (true≢false e)
steps_by p r Equal Less h g e = absurd (true≢false e)
steps_by p r Equal Equal h g e = inl (sym h, sym g)
steps_by p r Equal Greater h g e = inr (inr (sym h, g))
steps_by p r Greater k h g e = inr (inl h)

steps_from : (p r : Row) → is_lt ((of_row.ghosts).cmp r p) ≡ false → Steps p r
steps_from p r e = steps_by p r (rank_target r.low p.low) (rank_target r.high p.high) (ranks_target r.low p.low) (ranks_target r.high p.high) (ap is_lt (sym (ranked_row r p)) ∙ e)

onwards_from : (p : Row) (rs : List Row) → IsSortedWithin (λ x y. is_lt ((of_row.ghosts).cmp x y)) (p ∷ rs) 0 (suc (length rs)) → Onwards p rs
onwards_from p [] h = tt
onwards_from p (r ∷ rs) h = (
  steps_from p r (h 0 p (omega arith) (omega arith)),
  onwards_from r rs (λ k d a b. subst (λ n. is_lt ((of_row.ghosts).cmp (get_or (p ∷ r ∷ rs) n d) (get_or (r ∷ rs) k d)) ≡ false) (let z : suc k + 1 ≡ suc (k + 1) = omega arith in z) (h (suc k) d (omega arith) (omega arith))),
)

pub ascending_from : (rs : List Row) → IsSortedWithin (λ x y. is_lt ((of_row.ghosts).cmp x y)) rs 0 (length rs) → Ascending rs
ascending_from [] h = tt
ascending_from (r ∷ rs) h = onwards_from r rs h
