-- What the theorem needs of the given records: of a listing, and of rows that are named by their places.
use Rattle.std.proofs.Common.{ℕ, ◌+◌, ◌<◌, ◌≤◌, List, [], ◌∷◌, ap, inl, inr, ⊎_elim, arith}
use Rattle.std.proofs.lemmas.Bool.{cases_order}
use Rattle.listing.specs.declared.Target.{Target}
use Rattle.listing.specs.declared.Record.{Record}
use Rattle.listing.specs.Members.{In}
use Rattle.listing.specs.Listing.{Rooted, Aimed}
use Rattle.listing.proofs.Walk.{Ahead, Chain}
use Rattle.listing.proofs.Rules.{Ordered, chain_from}
use Rattle.reduce.specs.Reduction.{Placed, Onward, Monotone, Rowing}

pub record Inner (n : ℕ) (root : Target) (xs : List Record) : Type 0 where
  pub rooted : Rooted root xs
  pub levels : (r : Record) → In r xs → r.level < n
  pub chained : Chain xs
  pub aimed : Aimed xs

pub placed_le : (k : ℕ) (rs : List Record) → Placed k rs → (q : Record) → In q rs → k ≤ q.number
placed_le k [] h q m = absurd m
placed_le k (r ∷ rs) h q (inl e) = omega (arith, ap (λ (x : Record). x.number) e)
placed_le k (r ∷ rs) h q (inr m) = omega (arith, placed_le (k + 1) rs h.1 q m)

pub onward_all : (p : Record) (rs : List Record) → Onward p rs → (q : Record) → In q rs → p.level ≤ q.level
onward_all p [] h q m = absurd m
onward_all p (r ∷ rs) h q (inl e) = omega (arith, ap (λ (x : Record). x.level) e)
onward_all p (r ∷ rs) h q (inr m) = omega (arith, onward_all r rs h.1 q m)

pub onward_tail : (p : Record) (rs : List Record) → Onward p rs → Monotone rs
onward_tail p [] h = tt
onward_tail p (r ∷ rs) h = h.1

ahead_from : (p q : Record) → p.level ≤ q.level → p.number < q.number → Ahead p q
ahead_from p q a b = ⊎_elim (λ e. inr (e, b)) (λ h. ⊎_elim (λ k. inl k) (λ k. absurd (omega arith)) h) (cases_order p.level q.level)

pub ordered_rows : (k : ℕ) (rs : List Record) → Placed k rs → Monotone rs → Ordered rs
ordered_rows k [] h l = tt
ordered_rows k (r ∷ rs) h l = (
  λ q m. ahead_from r q (onward_all r rs l q m) (omega (arith, placed_le (k + 1) rs h.1 q m)),
  ordered_rows (k + 1) rs h.1 (onward_tail r rs l),
)

module _ (n : ℕ) (root : Target) (xs : List Record) (h : Rowing n root xs) where
  pub inner_rows : Inner n root xs
  inner_rows = record { rooted = h.rooted; levels = h.levelled; chained = chain_from xs (ordered_rows 0 xs h.placed h.monotone) h.targeted; aimed = h.aimed }
