-- Where the records of a level stand, and what a read of one tells.
use Rattle.std.proofs.Common.{◌≡◌, ℕ, zero, suc, ◌+◌, ◌-◌, ◌<◌, ◌≤◌, Bool, true, false, ◌⊎◌, List, [], ◌∷◌, length, drop, get_or, Some, None, Option, sym, refl, ap, ◌∙◌, subst, inl, inr, ⊎_elim, arith}
use mathlib.Core.Path.{subst⁻¹}
use Rattle.std.specs.List.{slice_get, AllWithin, HoldsAt}
use Rattle.std.specs.Option.{MatchOption}
use Rattle.std.proofs.lemmas.List.{get_or-drop, length-drop}
use Rattle.std.proofs.lemmas.Option.{slice_get_cases, get_or_from_slice_get, slice_get_within}
use Rattle.std.proofs.lemmas.Bool.{cases_eq, cases_lt, eqb-true, cond-true, cond-false}
use Rattle.listing.specs.declared.Target.{Target}
use Rattle.listing.specs.declared.Target.TheVariants.{Node, False, True}
use Rattle.listing.specs.declared.Record.{Record}
use Rattle.listing.specs.Listing.{child, Within, Follows, Numbered, Listing}
use Rattle.listing.proofs.Walk.{lev, num}
use Rattle.listing.proofs.Rules.{ordered, chain}
use Rattle.rows.proofs.Breaking.{in_nth, nth_same}
use Rattle.rows.proofs.Finding.{ahead_at}
use Rattle.pairs.specs.declared.Fixed.{Fixed}
use Rattle.pairs.specs.Pairs.{leads, on, fixing}
use Rattle.pairs.proofs.Sides.{leads_of}
use Rattle.sweep.specs.Reading.{Passed, Starts, StartsFor, Reached}

-- levels never fall
level_at : (rs : List Record) → Numbered rs → (i j : ℕ) (a b : Record) → i ≤ j → slice_get rs i ≡ Some a → slice_get rs j ≡ Some b → a.level ≤ b.level
level_at rs o i j a b h e f = ⊎_elim same later (cases_eq i j)
  where
    same : i ≡ j → a.level ≤ b.level
    same d =
        let q : a ≡ b = nth_same rs i a b (sym e) (subst⁻¹ (λ k. slice_get rs k ≡ Some b) d f) in
        omega (arith, ap (λ (r : Record). r.level) q)

    later : (i ≡ j → ⊥) → a.level ≤ b.level
    later d = ⊎_elim (λ k. omega arith) (λ k. omega (arith, k.0)) (ahead_at rs (ordered rs o) i j a b (omega arith) e f)

-- a place whose record is the first not below a level is where the level starts
pub starts_here : (rs : List Record) → Numbered rs → (l p : ℕ) (r : Record) → Passed rs l p → Some r ≡ slice_get rs p → l ≤ r.level → Starts rs l p
starts_here rs o l p r h e k = record { passed = h; reached = λ j x i f. let z = level_at rs o p j r x i (sym e) f in omega arith }

-- where there is no such record, the level starts behind the last
pub starts_end : (rs : List Record) (l p : ℕ) → Passed rs l p → length rs ≤ p → Starts rs l p
starts_end rs l p h k = record { passed = h; reached = λ j x i f. absurd (omega (arith, slice_get_within rs j x f)) }

-- a walk on from place f passes the places whose levels are lower
pub passed_found : (rs : List Record) (l f i : ℕ) → Passed rs l f → AllWithin (λ (r : Record). r.level < l) (drop f rs) 0 i → Passed rs l (f + i)
passed_found rs l f i h w k r b e = ⊎_elim (λ c. h k r c e) (λ c. subst (λ (x : Record). x.level < l) (same c) (w (k - f) r (omega arith) (omega arith))) (cases_lt k f)
  where
    same : f ≤ k → get_or (drop f rs) (k - f) r ≡ r
    same c = let j : f + (k - f) ≡ k = omega arith in get_or-drop f rs (k - f) r ∙ ap (λ m. get_or rs m r) j ∙ get_or_from_slice_get rs k r r e

-- the first place behind f whose level is not lower, counted from f, if there is one
abbrev pub Found : List Record → ℕ → ℕ → Option ℕ → Type 0
Found rs l f o =
    MatchOption o (AllWithin (λ (r : Record). r.level < l) (drop f rs) 0 (length (drop f rs)))
    (λ i. (i < length (drop f rs)) × HoldsAt (λ (r : Record). l ≤ r.level) (drop f rs) i × AllWithin (λ (r : Record). r.level < l) (drop f rs) 0 i)

-- the level starts there
pub starts_found : (rs : List Record) → Numbered rs → (l f i : ℕ) → Passed rs l f → Found rs l f (Some i) → Starts rs l (f + i)
starts_found rs o l f i h w = ⊎_elim here (λ c. absurd (omega (arith, c.0, length-drop f rs, w.0))) (slice_get_cases rs (f + i)).1
  where
    here : (x : Record) × (f + i < length rs) × (slice_get rs (f + i) ≡ Some x) × (get_or rs (f + i) x ≡ x) → Starts rs l (f + i)
    here x = starts_here rs o l (f + i) x.0 (passed_found rs l f i h w.2) (sym x.2) (subst (λ (r : Record). l ≤ r.level) (get_or-drop f rs i x.0 ∙ x.3) (w.1 x.0))

-- and behind the last where there is none
pub starts_nowhere : (rs : List Record) (l f : ℕ) → f ≤ length rs → Passed rs l f → Found rs l f None → Starts rs l (length rs)
starts_nowhere rs l f b h w =
    let j : f + length (drop f rs) ≡ length rs = omega (arith, length-drop f rs) in
    starts_end rs l (length rs) (subst (Passed rs l) j (passed_found rs l f (length (drop f rs)) h w)) (omega arith)

-- what is passed for a level is passed for a higher one
pub passed_up : (rs : List Record) (l m p : ℕ) → l ≤ m → Passed rs l p → Passed rs m p
passed_up rs l m p h k j x i f = let z = k j x i f in omega arith

pub passed_none : (rs : List Record) (l : ℕ) → Passed rs l 0
passed_none rs l j x i f = absurd (omega arith)

no_some : {X : Type 0} (x : X) → ◌≡◌ {A = Option X} None (Some x) → ⊥
no_some x e = let z : ◌≡◌ {A = ℕ} 0 1 = cc in omega arith

-- a node's record stands as many places behind its level's start as its number says
steps : (q : Record) (rs : List Record) → Follows q rs → (j : ℕ) (r : Record) → slice_get (q ∷ rs) j ≡ Some r → (l p : ℕ) → r.level ≡ l → Starts (q ∷ rs) l p →
    ((q.level ≡ l) × (r.number ≡ q.number + j)) ⊎ ((q.level < l) × (j ≡ p + r.number))
steps q rs f zero r e l p d s = let z : q ≡ r = cc in inl (ap (λ (x : Record). x.level) z ∙ d, omega (arith, ap (λ (x : Record). x.number) z))
steps q [] f (suc j) r e l p d s = absurd (no_some r e)
steps q (x ∷ rs) f (suc j) r e l zero d s = ⊎_elim level_on level_up (steps x rs f.1 j r e l zero d (record { passed = λ k y h g. absurd (omega arith); reached = λ k y h g. s.reached (suc k) y (omega arith) g }))
  where
    low : l ≤ q.level
    low = s.reached 0 q (omega arith) refl

    level_on : (x.level ≡ l) × (r.number ≡ x.number + j) → ((q.level ≡ l) × (r.number ≡ q.number + suc j)) ⊎ ((q.level < l) × (suc j ≡ 0 + r.number))
    level_on h = ⊎_elim (λ n. inl (omega (arith, h.0, n.0), omega (arith, h.1, n.1))) (λ n. absurd (omega (arith, h.0, n.0, low))) f.0

    level_up : (x.level < l) × (j ≡ 0 + r.number) → ((q.level ≡ l) × (r.number ≡ q.number + suc j)) ⊎ ((q.level < l) × (suc j ≡ 0 + r.number))
    level_up h = absurd (⊎_elim (λ n. omega (arith, h.0, n.0, low)) (λ n. omega (arith, h.0, n.0, low)) f.0)
steps q (x ∷ rs) f (suc j) r e l (suc p) d s = ⊎_elim level_on (λ h. inr (first, omega (arith, h.1))) (steps x rs f.1 j r e l p d (record { passed = λ k y h g. s.passed (suc k) y (omega arith) g; reached = λ k y h g. s.reached (suc k) y (omega arith) g }))
  where
    first : q.level < l
    first = s.passed 0 q (omega arith) refl

    none : x.level ≡ l → 0 < p → ⊥
    none h k = let z = s.passed 1 x (omega arith) refl in omega arith

    level_on : (x.level ≡ l) × (r.number ≡ x.number + j) → ((q.level ≡ l) × (r.number ≡ q.number + suc j)) ⊎ ((q.level < l) × (suc j ≡ suc p + r.number))
    level_on h = ⊎_elim (λ n. absurd (omega (arith, h.0, n.0, first))) (λ n. inr (first, let z = none h.0 in omega (arith, h.1, n.1, z))) f.0

number_at : (rs : List Record) → Numbered rs → (j : ℕ) (r : Record) → slice_get rs j ≡ Some r → (l p : ℕ) → r.level ≡ l → Starts rs l p → j ≡ p + r.number
number_at [] o j r e l p d s = absurd (no_some r e)
number_at (q ∷ rs) o j r e l p d s = ⊎_elim level_on (λ h. h.1) (steps q rs o.1 j r e l p d s)
  where
    none : q.level ≡ l → 0 < p → ⊥
    none h k = let z = s.passed 0 q k refl in omega arith

    level_on : (q.level ≡ l) × (r.number ≡ q.number + j) → j ≡ p + r.number
    level_on h = let z = none h.0 in omega (arith, h.1, o.0, z)

module _ (n : ℕ) (root : Target) (rs : List Record) (ls : Listing n root rs) (l k : ℕ) (w : Within rs (Node l k)) (p : ℕ) (s : Starts rs l p) where
  pub node_at : slice_get rs (p + k) ≡ Some w.0
  node_at =
      let i = in_nth w.0 rs w.1 in
      let d : w.0.level ≡ l = ap lev w.2 in
      let e : w.0.number ≡ k = ap num w.2 in
      subst (λ j. slice_get rs j ≡ Some w.0) (number_at rs ls.numbered i.0 w.0 i.1 l p d s ∙ ap (λ m. p + m) e) i.1

  pub node_bound : p + k < length rs
  node_bound = slice_get_within rs (p + k) w.0 node_at

  -- what is read there is the node's record
  pub lead_some : (b : Bool) (r : Record) → Some r ≡ slice_get rs (p + k) → child b r ≡ leads rs b (Node l k)
  lead_some b r e =
      let q : r ≡ w.0 = nth_same rs (p + k) r w.0 e node_at in
      ap (child b) q ∙ sym (leads_of rs (chain n root rs ls) b w.0 w.1) ∙ ap (leads rs b) w.2

  pub lead_none : None ≡ slice_get rs (p + k) → ⊥
  lead_none e = no_some w.0 (e ∙ node_at)

-- a terminal leads to itself
pub lead_false : (rs : List Record) (b : Bool) → False ≡ leads rs b False
unfolding leads
lead_false [] b = refl
lead_false (r ∷ rs) b = lead_false rs b

pub lead_true : (rs : List Record) (b : Bool) → True ≡ leads rs b True
unfolding leads
lead_true [] b = refl
lead_true (r ∷ rs) b = lead_true rs b

-- where a target is on a level, the level's start is the target's
pub starts_on : (rs : List Record) (l p : ℕ) (t : Target) → on l t ≡ true → Starts rs l p → StartsFor rs t p
starts_on rs l p (Node m k) e s = subst⁻¹ (λ x. Starts rs x p) (eqb-true m l e) s
starts_on rs l p False e s = tt
starts_on rs l p True e s = tt

-- the same of a target that is known to be a node
module _ (n : ℕ) (root : Target) (rs : List Record) (ls : Listing n root rs) (t : Target) (l k : ℕ) (e : t ≡ Node l k) (w : Within rs t) (p : ℕ) (s : StartsFor rs t p) where
  inside : Within rs (Node l k)
  inside = subst (Within rs) e w

  begins : Starts rs l p
  begins = subst (λ u. StartsFor rs u p) e s

  pub at_bound : p + k < length rs
  at_bound = node_bound n root rs ls l k inside p begins

  pub at_some : (b : Bool) (r : Record) → Some r ≡ slice_get rs (p + k) → child b r ≡ leads rs b t
  at_some b r f = lead_some n root rs ls l k inside p begins b r f ∙ ap (leads rs b) (sym e)

  pub at_none : None ≡ slice_get rs (p + k) → ⊥
  at_none f = lead_none n root rs ls l k inside p begins f

-- a target with a fixed fact heeded
pub fixed_on : (rs : List Record) (o : Option Fixed) (f : Fixed) (t : Target) → o ≡ Some f → true ≡ on f.level t → leads rs f.bit t ≡ fixing rs o t
unfolding fixing
fixed_on rs o f t e h = subst⁻¹ (λ x. leads rs f.bit t ≡ fixing rs x t) e (sym (cond-true _ _ _ (sym h)))

pub fixed_off : (rs : List Record) (o : Option Fixed) (f : Fixed) (t : Target) → o ≡ Some f → false ≡ on f.level t → t ≡ fixing rs o t
unfolding fixing
fixed_off rs o f t e h = subst⁻¹ (λ x. t ≡ fixing rs x t) e (sym (cond-false _ _ _ (sym h)))

pub fixed_none : (rs : List Record) (o : Option Fixed) (t : Target) → o ≡ None → t ≡ fixing rs o t
unfolding fixing
fixed_none rs o t e = subst⁻¹ (λ x. t ≡ fixing rs x t) e refl

-- a place that is reached for a level is reached for a higher one
pub reached_up : (rs : List Record) (l m p : ℕ) → l ≤ m → Reached rs l p → Reached rs m p
reached_up rs l m p h k = record { passed = passed_up rs l m p h k.passed; bound = k.bound }

pub reached_none : (rs : List Record) (l : ℕ) → Reached rs l 0
reached_none rs l = record { passed = passed_none rs l; bound = omega arith }
