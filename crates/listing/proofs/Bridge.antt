-- From choices on all levels to settings of n facts: what holds of walks holds of values at the lists of n bits.
use Rattle.std.proofs.Common.{◌≡◌, ℕ, zero, suc, ◌<◌, Bool, cond, List, [], ◌∷◌, length, Decides, sym, refl, ap, ◌∙◌, ap₂, inl, inr, arith}
use Rattle.listing.specs.declared.Target.{Target}
use Rattle.listing.specs.declared.Record.{Record}
use Rattle.listing.specs.Settings.{fact}
use Rattle.listing.specs.Listing.{names, child, walk, value, Levelled, Agree}
use Rattle.listing.specs.Meaning.{ToldApart, Canonical, Least}
use Rattle.listing.proofs.Walk.{Choice, Same}
use Rattle.listing.proofs.Unique.{unlike}
use Rattle.listing.proofs.Rules.{chain, proper}
use Rattle.listing.proofs.Same.{same_roots, same_lists, shortest}

-- a walk hangs on the facts below n alone
pub near : (n : ℕ) (rs : List Record) → Levelled n rs → (s z : Choice) → ((i : ℕ) → i < n → s i ≡ z i) → (t : Target) → walk rs s t ≡ walk rs z t
near n [] h s z e t = refl
near n (r ∷ rs) h s z e t =
    ap₂ (λ x y. cond (names t r) x y)
    (near n rs (λ q m. h q (inr m)) s z e (child (s r.level) r) ∙ ap (λ b. walk rs z (child b r)) (e r.level (h r (inl refl))))
    (near n rs (λ q m. h q (inr m)) s z e t)

-- the first n facts of a choice
abbrev pub first : ℕ → Choice → List Bool
first zero s = []
first (suc n) s = s 0 ∷ first n (λ i. s (suc i))

pub length_first : (n : ℕ) (s : Choice) → length (first n s) ≡ n
length_first zero s = refl
length_first (suc n) s = ap suc (length_first n (λ i. s (suc i)))

pub fact_first : (n : ℕ) (s : Choice) (i : ℕ) → i < n → s i ≡ fact (first n s) i
fact_first zero s i h = absurd (omega arith)
fact_first (suc n) s zero h = refl
fact_first (suc n) s (suc i) h = fact_first n (λ k. s (suc k)) i (omega arith)

pub everywhere : (n : ℕ) (xs : List Record) (t : Target) (ys : List Record) (u : Target) → Levelled n xs → Levelled n ys → Agree n xs t ys u → Same xs t ys u
everywhere n xs t ys u hx hy h s =
    near n xs hx s (fact (first n s)) (fact_first n s) t ∙ h (first n s) (length_first n s) ∙
    sym (near n ys hy s (fact (first n s)) (fact_first n s) u)

pub told_apart : (t u : Target) (r : Bool) → Decides r (t ≡ u) → ToldApart t u r
told_apart t u r d n root rs ls nm ot ou = (
  (λ e s len. ap (value rs s) (d.0 e)),
  (λ h. d.1 (unlike rs (chain n root rs ls) (proper n root rs ls nm) t u ot ou (everywhere n rs t rs u ls.levelled ls.levelled h))),
)

pub canonical : (root : Target) (xs : List Record) (root' : Target) (ys : List Record) (r : Bool) → Decides r ((root ≡ root') × (xs ≡ ys)) → Canonical root xs root' ys r
canonical root xs root' ys r d n lx nx ly ny = (
  (λ e s len. ap₂ (λ rs t. value rs s t) (d.0 e).1 (d.0 e).0),
  (λ h.
      let w = everywhere n xs root ys root' lx.levelled ly.levelled h in
      d.1 (same_roots n root xs lx nx root' ys ly ny w, same_lists n root xs lx nx root' ys ly ny w)),
)

pub least : (root : Target) (xs : List Record) → Least root xs
least root xs n root' ys lx nx ly h = shortest n root xs lx nx root' ys ly (everywhere n xs root ys root' lx.levelled ly.levelled h)
