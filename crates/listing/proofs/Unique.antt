-- In a normal listing no two targets have one value.
use Rattle.std.proofs.Common.{◌≡◌, Bool, true, false, ◌⊎◌, List, [], ◌∷◌, sym, refl, ap, ◌∙◌, subst, inl, inr, ⊎_elim}
use mathlib.Core.Bool.{false≢true}
use Rattle.listing.specs.declared.Target.{Target}
use Rattle.listing.specs.declared.Target.TheVariants.{Node, False, True}
use Rattle.listing.specs.declared.Record.{Record}
use Rattle.listing.specs.Members.{In}
use Rattle.listing.specs.Listing.{node, child, walk, Within, Above, Rises}
use Rattle.listing.proofs.Order.{rises_irr}
use Rattle.listing.proofs.Walk.{Choice, Same, Earlier, Chain, strip, child_within, walk_within, drop_fact, cofactors}

-- what makes a listing normal, in the form that each end of it keeps
abbrev pub Proper : List Record → Type 0
Proper [] = Unit {0}
Proper (r ∷ rs) = (r.low ≡ r.high → ⊥) × ((q : Record) → In q rs → r.level ≡ q.level → Rises r q) × Proper rs

pub proper_test : (rs : List Record) → Proper rs → (r : Record) → In r rs → r.low ≡ r.high → ⊥
proper_test [] pr r m e = m
proper_test (q ∷ rs) pr r (inl f) e = pr.0 (rw f at e)
proper_test (q ∷ rs) pr r (inr m) e = proper_test rs pr.2 r m e

-- at any setting, a walk from a terminal ends in it
pub walk_false : (rs : List Record) (s : Choice) → walk rs s False ≡ false
walk_false [] s = refl
walk_false (r ∷ rs) s = walk_false rs s

pub walk_true : (rs : List Record) (s : Choice) → walk rs s True ≡ true
walk_true [] s = refl
walk_true (r ∷ rs) s = walk_true rs s

abbrev none : Choice
none = λ m. false

pub terminals : (xs ys : List Record) → Same xs False ys True → ⊥
terminals xs ys h = false≢true (sym (walk_false xs none) ∙ h none ∙ walk_true ys none)

-- the value over the records behind r is that with r
pub same_behind : (r : Record) (rs : List Record) → Earlier r rs → (t u : Target) → Within rs t → Within rs u → Same (r ∷ rs) t (r ∷ rs) u → Same rs t rs u
same_behind r rs early t u o w h s = sym (walk_within r rs early s t o) ∙ h s ∙ walk_within r rs early s u w

-- a target behind r is higher than r, or a node on r's level
place : (r : Record) (rs : List Record) → Earlier r rs → (u : Target) → Within rs u → Above r.level u ⊎ ((q : Record) × In q rs × (node q ≡ u) × (r.level ≡ q.level))
place r rs early (Node a i) o = ⊎_elim (λ h. inl (subst (λ t. Above r.level t) o.2 h)) (λ h. inr (o.0, o.1, o.2, h.0)) (early o.0 o.1)
place r rs early False o = inl tt
place r rs early True o = inl tt

abbrev Unlike : List Record → Type 0
Unlike rs = (t u : Target) → Within rs t → Within rs u → Same rs t rs u → t ≡ u

-- a record's node has the value of no target behind it
head_alone : (r : Record) (rs : List Record) → Chain (r ∷ rs) → Proper (r ∷ rs) → Unlike rs → (u : Target) → Within rs u → Same (r ∷ rs) (node r) (r ∷ rs) u → ⊥
head_alone r rs ch pr ih u o h = ⊎_elim high level (place r rs ch.0 u o)
  where
    all : List Record
    all = r ∷ rs

    here : In r (r ∷ rs)
    here = inl refl

    high : Above r.level u → ⊥
    high a =
        let d = drop_fact (r ∷ rs) ch (r ∷ rs) ch r (inl refl) u a h in
        pr.0 (ih r.low r.high (ch.1 false) (ch.1 true) (same_behind r rs ch.0 r.low r.high (ch.1 false) (ch.1 true) (λ s. d false s ∙ sym (d true s))))

    level : (q : Record) × In q rs × (node q ≡ u) × (r.level ≡ q.level) → ⊥
    level w =
        let q : Record = w.0 in
        let k : (b : Bool) → child b r ≡ child b q = λ b.
        ih (child b r) (child b q) (ch.1 b) (child_within rs ch.3 q w.1 b)
        (same_behind r rs ch.0 (child b r) (child b q) (ch.1 b) (child_within rs ch.3 q w.1 b)
        (cofactors (r ∷ rs) ch (r ∷ rs) ch r (inl refl) q (inr w.1) w.3 (λ s. h s ∙ ap (walk (r ∷ rs) s) (sym w.2)) b)) in
        rises_irr r q (k false) (k true) (pr.1 q w.1 w.3)

pub unlike : (rs : List Record) → Chain rs → Proper rs → (t u : Target) → Within rs t → Within rs u → Same rs t rs u → t ≡ u
unlike [] ch pr (Node a i) u o w h = absurd o.1
unlike [] ch pr False (Node b j) o w h = absurd w.1
unlike [] ch pr False False o w h = refl
unlike [] ch pr False True o w h = absurd (terminals [] [] h)
unlike [] ch pr True (Node b j) o w h = absurd w.1
unlike [] ch pr True False o w h = absurd (terminals [] [] (λ s. sym (h s)))
unlike [] ch pr True True o w h = refl
unlike (r ∷ rs) ch pr t u o w h = by (unlike rs ch.3 pr.2) (strip r rs t o) (strip r rs u w)
  where
    by : Unlike rs → (t ≡ node r) ⊎ Within rs t → (u ≡ node r) ⊎ Within rs u → t ≡ u
    by ih (inl e) (inl f) = e ∙ sym f
    by ih (inl e) (inr k) = absurd (head_alone r rs ch pr ih u k (λ s. ap (walk (r ∷ rs) s) (sym e) ∙ h s))
    by ih (inr k) (inl f) = absurd (head_alone r rs ch pr ih t k (λ s. ap (walk (r ∷ rs) s) (sym f) ∙ sym (h s)))
    by ih (inr k) (inr j) = ih t u k j (same_behind r rs ch.0 t u k j h)

-- no node has the value of something that does not see its fact
pub own_fact : (xs : List Record) → Chain xs → Proper xs → (ys : List Record) → Chain ys → (r : Record) → In r xs → (u : Target) → Above r.level u → Same xs (node r) ys u → ⊥
own_fact xs cx px ys cy r m u a h =
    let d = drop_fact xs cx ys cy r m u a h in
    proper_test xs px r m (unlike xs cx px r.low r.high (child_within xs cx r m false) (child_within xs cx r m true) (λ s. d false s ∙ sym (d true s)))
