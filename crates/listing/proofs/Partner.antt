-- Each node of a normal listing has its value at a node, on the same level, of any listing with the same value.
use Rattle.std.proofs.Common.{◌≡◌, ℕ, zero, suc, ◌<◌, Bool, true, false, ◌⊎◌, List, [], ◌∷◌, sym, refl, ap, ◌∙◌, subst, inl, inr, ⊎_elim, arith}
use Rattle.std.proofs.lemmas.Bool.{cases_order}
use Rattle.listing.specs.declared.Target.{Target}
use Rattle.listing.specs.declared.Target.TheVariants.{Node, False, True}
use Rattle.listing.specs.declared.Record.{Record}
use Rattle.listing.specs.Members.{In}
use Rattle.listing.specs.Listing.{node, child, walk, Within, Above, Listing, Normal}
use Rattle.listing.proofs.Walk.{Same, Chain, strip, within_node, child_within, walk_within, drop_fact, cofactors}
use Rattle.listing.proofs.Unique.{Proper, own_fact}
use Rattle.listing.proofs.Rules.{chain, proper, root_within, reached}

abbrev pub Partner : List Record → List Record → Record → Type 0
Partner xs ys r = (q : Record) × In q ys × (r.level ≡ q.level) × Same xs (node r) ys (node q)

module _ (xs : List Record) (cx : Chain xs) (px : Proper xs) (r : Record) (m : In r xs) where
  -- one record more in front
  more : (p : Record) (ys : List Record) → Chain (p ∷ ys) → Partner xs ys r → Partner xs (p ∷ ys) r
  more p ys cy w =
      (w.0, inr w.1, w.2, λ s. w.3 s ∙ sym (walk_within p ys cy.0 s (node w.0) (within_node ys w.0 w.1)))

  pub descend : (ys : List Record) → Chain ys → (u : Target) → Within ys u → Same xs (node r) ys u → Partner xs ys r
  descend [] cy (Node a i) o h = absurd o.1
  descend [] cy False o h = absurd (own_fact xs cx px [] tt r m False tt h)
  descend [] cy True o h = absurd (own_fact xs cx px [] tt r m True tt h)
  descend (p ∷ ys) cy u o h = by (descend ys cy.3) (strip p ys u o)
    where
      below : ((u : Target) → Within ys u → Same xs (node r) ys u → Partner xs ys r) → (v : Target) → Within ys v → Same xs (node r) (p ∷ ys) v → Partner xs (p ∷ ys) r
      below ih v k g = more p ys cy (ih v k (λ s. g s ∙ walk_within p ys cy.0 s v k))

      here : ((u : Target) → Within ys u → Same xs (node r) ys u → Partner xs ys r) → Same xs (node r) (p ∷ ys) (node p) → (r.level ≡ p.level) ⊎ ((r.level < p.level) ⊎ (p.level < r.level)) → Partner xs (p ∷ ys) r
      here ih g (inl e) = (p, inl refl, e, g)
      here ih g (inr (inl l)) = absurd (own_fact xs cx px (p ∷ ys) cy r m (node p) l g)
      here ih g (inr (inr l)) =
          below ih p.low (cy.1 false) (λ s. sym (drop_fact (p ∷ ys) cy xs cx p (inl refl) (node r) l (λ z. sym (g z)) false s))

      by : ((u : Target) → Within ys u → Same xs (node r) ys u → Partner xs ys r) → (u ≡ node p) ⊎ Within ys u → Partner xs (p ∷ ys) r
      by ih (inl e) = here ih (λ s. h s ∙ ap (walk (p ∷ ys) s) e) (cases_order r.level p.level)
      by ih (inr k) = below ih u k h

module _ (n : ℕ) (root : Target) (xs : List Record) (lx : Listing n root xs) (nx : Normal xs) (root' : Target) (ys : List Record) (ly : Listing n root' ys) (h : Same xs root ys root') where
  cx : Chain xs
  cx = chain n root xs lx

  px : Proper xs
  px = proper n root xs lx nx

  cy : Chain ys
  cy = chain n root' ys ly

  partners : (d : ℕ) (r : Record) → In r xs → r.level < d → Partner xs ys r
  partners zero r m l = absurd (omega arith)
  partners (suc d) r m l = by (partners d) (reached root xs lx.rooted lx.aimed r m)
    where
      from : ((p : Record) → In p xs → p.level < d → Partner xs ys p) → (p : Record) → In p xs → (b : Bool) → Above p.level (child b p) → child b p ≡ node r → Partner xs ys r
      from ih p k b a e =
          let a' : p.level < r.level = subst (λ t. Above p.level t) e a in
          let w = ih p k (omega arith) in
          descend xs cx px r m ys cy (child b w.0) (child_within ys cy w.0 w.1 b)
          (λ s. ap (walk xs s) (sym e) ∙ cofactors xs cx ys cy p k w.0 w.1 w.2 w.3 b s)

      by : ((p : Record) → In p xs → p.level < d → Partner xs ys p) → (root ≡ node r) ⊎ ((p : Record) × In p xs × ((p.low ≡ node r) ⊎ (p.high ≡ node r))) → Partner xs ys r
      by ih (inl e) = descend xs cx px r m ys cy root' (root_within root' ys ly.rooted) (λ s. ap (walk xs s) (sym e) ∙ h s)
      by ih (inr w) = ⊎_elim (λ e. from ih w.0 w.1 false (lx.targeted w.0 w.1 false).1 e) (λ e. from ih w.0 w.1 true (lx.targeted w.0 w.1 true).1 e) w.2

  pub partner : (r : Record) → In r xs → Partner xs ys r
  partner r m = partners n r m (lx.levelled r m)
