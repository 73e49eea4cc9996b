-- What the derived comparisons of targets and records say.
use Rattle.std.proofs.Common.{◌≡◌, refl, ap, Decides, List, Bool}
use mathlib.Core.Path.{subst⁻¹}
use Rattle.std.proofs.lemmas.Bool.Decides.{Decides-eqb}
use Rattle.std.proofs.lemmas.Slice.Eq.{slice_eq-Decides}
use lib.Pointwise.{pointwise}
use Rattle.listing.specs.declared.Target.{Target}
use Rattle.listing.specs.declared.Target.TheVariants.{Node, False, True}
use Rattle.listing.specs.declared.Record.{Record}
use Rattle.listing.specs.contracts.TargetPartialEq.TheImpl as of_target
use Rattle.listing.specs.contracts.RecordPartialEq.TheImpl as of_record
use Rattle.listing.specs.contracts.TargetOrd.TheImpl as by_target
use Rattle.listing.specs.Ranks.{rank_target}
use Rattle.listing.specs.Tests as test
use Rattle.listing.proofs.Deciding.{both, instead, same_target}

-- the derived equality of targets is the test of specs/Tests
pub target_same : (t u : Target) → (of_target.ghosts).eq t u ≡ test.same_target t u
target_same (Node l k) (Node m j) = refl
target_same (Node l k) False = refl
target_same (Node l k) True = refl
target_same False (Node m j) = refl
target_same False False = refl
target_same False True = refl
target_same True (Node m j) = refl
target_same True False = refl
target_same True True = refl

target_eq : (t u : Target) → Decides ((of_target.ghosts).eq t u) (t ≡ u)
target_eq t u = subst⁻¹ (λ b. Decides b (t ≡ u)) (target_same t u) (same_target t u)

-- the derived equality of records decides whether they are the same
pub record_eq : (a b : Record) → Decides ((of_record.ghosts).eq a b) (a ≡ b)
record_eq a b =
    instead _ (both _ _ (Decides-eqb a.level b.level) (both _ _ (Decides-eqb a.number b.number) (both _ _ (target_eq a.low b.low) (target_eq a.high b.high))))
    (λ h i. record { level = h.0 i; number = h.1.0 i; low = h.1.1.0 i; high = h.1.1.1 i })
    (λ e. (ap (λ (r : Record). r.level) e, (ap (λ (r : Record). r.number) e, (ap (λ (r : Record). r.low) e, ap (λ (r : Record). r.high) e))))

-- so `==` of two lists of records does too
pub records_eq : (xs ys : List Record) (r : Bool) → r ≡ pointwise (of_record.ghosts).eq xs ys → Decides r (xs ≡ ys)
records_eq xs ys r e = slice_eq-Decides record_eq xs ys r e

-- the derived comparison of targets is their order
pub target_cmp : (t u : Target) → (by_target.ghosts).cmp t u ≡ rank_target t u
target_cmp (Node l k) (Node m j) = refl
target_cmp (Node l k) False = refl
target_cmp (Node l k) True = refl
target_cmp False (Node m j) = refl
target_cmp False False = refl
target_cmp False True = refl
target_cmp True (Node m j) = refl
target_cmp True False = refl
target_cmp True True = refl
