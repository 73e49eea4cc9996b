-- The order of pairs is strict and total.
use Rattle.std.proofs.Common.{◌≡◌, ℕ, ◌<◌, ◌≤◌, false, ◌⊎◌, Decides, sym, refl, ◌∙◌, subst, ap₂, inl, inr, ⊎_elim, arith}
use mathlib.Core.Path.{subst⁻¹}
use Rattle.std.proofs.lemmas.Bool.{cases_order, cases_Bool}
use Rattle.std.proofs.lemmas.Bool.Decides.{Decides-eqb, Decides-ltb, Decides-and, Decides-or}
use Rattle.listing.specs.declared.Target.{Target}
use Rattle.listing.specs.declared.Target.TheVariants.{Node, False, True}
use Rattle.pairs.specs.declared.Pair.{Pair}
use Rattle.listing.specs.Listing.{Before}
use Rattle.pairs.specs.Pairs.{Run, level, ahead, Ahead}
use Rattle.listing.specs.Ranks.{before_irr, before_trans}
use Rattle.listing.proofs.Deciding as decide

before_nodes : (a i b j : ℕ) → (a ≡ b) ⊎ ((a < b) ⊎ (b < a)) → (i ≡ j) ⊎ ((i < j) ⊎ (j < i)) → Before (Node a i) (Node b j) ⊎ ((Node a i ≡ Node b j) ⊎ Before (Node b j) (Node a i))
before_nodes a i b j (inl e) (inl f) = inr (inl (ap₂ Node e f))
before_nodes a i b j (inl e) (inr (inl f)) = inl (inr (e, f))
before_nodes a i b j (inl e) (inr (inr f)) = inr (inr (inr (sym e, f)))
before_nodes a i b j (inr (inl e)) f = inl (inl e)
before_nodes a i b j (inr (inr e)) f = inr (inr (inl e))

before_total : (t u : Target) → Before t u ⊎ ((t ≡ u) ⊎ Before u t)
before_total (Node a i) (Node b j) = before_nodes a i b j (cases_order a b) (cases_order i j)
before_total (Node a i) False = inl tt
before_total (Node a i) True = inl tt
before_total False (Node b j) = inr (inr tt)
before_total False False = inr (inl refl)
before_total False True = inl tt
before_total True (Node b j) = inr (inr tt)
before_total True False = inr (inr tt)
before_total True True = inr (inl refl)

-- by left target, then right
abbrev pub Sooner : Pair → Pair → Type 0
Sooner p q = Before p.left q.left ⊎ ((p.left ≡ q.left) × Before p.right q.right)

sooner_irr : (p : Pair) → Sooner p p → ⊥
sooner_irr p (inl h) = before_irr p.left h
sooner_irr p (inr h) = before_irr p.right h.1

sooner_trans : (p q s : Pair) → Sooner p q → Sooner q s → Sooner p s
sooner_trans p q s (inl h) (inl g) = inl (before_trans p.left q.left s.left h g)
sooner_trans p q s (inl h) (inr g) = inl (subst (λ t. Before p.left t) g.0 h)
sooner_trans p q s (inr h) (inl g) = inl (subst⁻¹ (λ t. Before t s.left) h.0 g)
sooner_trans p q s (inr h) (inr g) = inr (h.0 ∙ g.0, before_trans p.right q.right s.right h.1 g.1)

pub pair_path : (p q : Pair) → p.left ≡ q.left → p.right ≡ q.right → p ≡ q
pair_path p q e f = λ i. record { left = e i; right = f i }

sooner_total : (p q : Pair) → Sooner p q ⊎ ((p ≡ q) ⊎ Sooner q p)
sooner_total p q = by (before_total p.left q.left) (before_total p.right q.right)
  where
    by : Before p.left q.left ⊎ ((p.left ≡ q.left) ⊎ Before q.left p.left) → Before p.right q.right ⊎ ((p.right ≡ q.right) ⊎ Before q.right p.right) → Sooner p q ⊎ ((p ≡ q) ⊎ Sooner q p)
    by (inl h) g = inl (inl h)
    by (inr (inl e)) (inl g) = inl (inr (e, g))
    by (inr (inl e)) (inr (inl f)) = inr (inl (pair_path p q e f))
    by (inr (inl e)) (inr (inr g)) = inr (inr (inr (sym e, g)))
    by (inr (inr h)) g = inr (inr (inl h))

module _ (r : Run) where
  abbrev pub Precedes : Pair → Pair → Type 0
  Precedes p q = (level r p < level r q) ⊎ ((level r p ≡ level r q) × Sooner p q)

  pub ahead_decides : (p q : Pair) → Decides (ahead r p q) (Precedes p q)
  unfolding ahead
  ahead_decides p q =
      Decides-or _ _ (Decides-ltb (level r p) (level r q))
      (Decides-and _ _ (Decides-eqb (level r p) (level r q))
      (Decides-or _ _ (decide.before p.left q.left) (Decides-and _ _ (decide.same_target p.left q.left) (decide.before p.right q.right))))

  precedes_trans : (p q s : Pair) → Precedes p q → Precedes q s → Precedes p s
  precedes_trans p q s (inl h) (inl g) = inl (omega arith)
  precedes_trans p q s (inl h) (inr g) = inl (omega arith)
  precedes_trans p q s (inr h) (inl g) = inl (omega arith)
  precedes_trans p q s (inr h) (inr g) = inr (h.0 ∙ g.0, sooner_trans p q s h.1 g.1)

  pub irr : (p : Pair) → Ahead r p p → ⊥
  irr p h = ⊎_elim (λ k. omega arith) (λ k. sooner_irr p k.1) ((ahead_decides p p).0 h)

  pub trans : (p q s : Pair) → Ahead r p q → Ahead r q s → Ahead r p s
  trans p q s h g = (ahead_decides p s).1 (precedes_trans p q s ((ahead_decides p q).0 h) ((ahead_decides q s).0 g))

  pub total : (p q : Pair) → Ahead r p q ⊎ ((p ≡ q) ⊎ Ahead r q p)
  total p q = by (cases_order (level r p) (level r q)) (sooner_total p q)
    where
      by : (level r p ≡ level r q) ⊎ ((level r p < level r q) ⊎ (level r q < level r p)) → Sooner p q ⊎ ((p ≡ q) ⊎ Sooner q p) → Ahead r p q ⊎ ((p ≡ q) ⊎ Ahead r q p)
      by (inl e) (inl h) = inl ((ahead_decides p q).1 (inr (e, h)))
      by (inl e) (inr (inl h)) = inr (inl h)
      by (inl e) (inr (inr h)) = inr (inr ((ahead_decides q p).1 (inr (sym e, h))))
      by (inr (inl l)) h = inl ((ahead_decides p q).1 (inl l))
      by (inr (inr l)) h = inr (inr ((ahead_decides q p).1 (inl l)))

  pub ahead_level : (p q : Pair) → Ahead r p q → level r p ≤ level r q
  ahead_level p q h = ⊎_elim (λ k. omega arith) (λ k. omega arith) ((ahead_decides p q).0 h)

  pub level_ahead : (p q : Pair) → level r p < level r q → Ahead r p q
  level_ahead p q h = (ahead_decides p q).1 (inl h)

  -- what is not ahead of q
  pub not_ahead : (p q : Pair) → Ahead r q p → ahead r p q ≡ false
  not_ahead p q h = ⊎_elim (λ e. absurd (irr p (trans p q p e h))) (λ e. e) (cases_Bool (ahead r p q))

  pub not_self : (p : Pair) → ahead r p p ≡ false
  not_self p = ⊎_elim (λ e. absurd (irr p e)) (λ e. e) (cases_Bool (ahead r p p))
