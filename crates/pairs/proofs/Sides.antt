-- What a side's targets do: settled targets, children, levels, values.
use Rattle.std.proofs.Common.{◌≡◌, ℕ, ◌<◌, ◌≤◌, Bool, true, false, ◌⊎◌, List, [], ◌∷◌, Some, None, Option, sym, refl, ap, ◌∙◌, subst, subst₂, inl, inr, arith}
use mathlib.Core.Path.{subst⁻¹}
use Rattle.std.proofs.lemmas.Bool.{cases_Bool, false≢true, eqb-true, eqb-false, eq-eqb, ne_eqb, cond-true, cond-false, cond_both}
use Rattle.listing.specs.declared.Target.{Target}
use Rattle.listing.specs.declared.Target.TheVariants.{Node, False, True}
use Rattle.listing.specs.declared.Record.{Record}
use Rattle.pairs.specs.declared.Fixed.{Fixed}
use Rattle.listing.specs.Members.{In}
use Rattle.listing.specs.Listing.{node, child, walk, Within, Above, Listing, depth}
use Rattle.pairs.specs.Pairs.{Side, leads, on, fixing, settle, move, put}
use Rattle.pairs.proofs.Valued.{fix}
use Rattle.listing.proofs.Walk.{Choice, names_node, names_not, within_apart, within_node, Chain, child_within, child_above}
use Rattle.listing.proofs.Unique.{walk_false, walk_true}
use Rattle.listing.proofs.Laws.{walk_node}
use Rattle.listing.proofs.Rules.{chain, root_within}

on_node : (l : ℕ) (t : Target) → on l t ≡ true → (k : ℕ) × (t ≡ Node l k)
on_node l (Node a i) e = (i, ap (λ x. Node x i) (eqb-true a l e))
on_node l False e = absurd (false≢true e)
on_node l True e = absurd (false≢true e)

above_off : (l : ℕ) (t : Target) → Above l t → on l t ≡ false
above_off l (Node a i) h = ne_eqb a l (λ e. omega arith)
above_off l False h = refl
above_off l True h = refl

off_above : (n l : ℕ) (t : Target) → on l t ≡ false → l ≤ depth n t → l < n → l < depth n t
off_above n l (Node a i) e h k = let z = eqb-false a l e in omega arith
off_above n l False e h k = k
off_above n l True e h k = k

above_depth : (n l : ℕ) (t : Target) → Above l t → l < n → l < depth n t
above_depth n l (Node a i) h k = h
above_depth n l False h k = k
above_depth n l True h k = k

-- a node's leads, where the node is r's
pub leads_of : (rs : List Record) → Chain rs → (b : Bool) (r : Record) → In r rs → leads rs b (node r) ≡ child b r
unfolding leads
leads_of [] ch b r m = absurd m
leads_of (q ∷ rs) ch b r (inl e) = subst⁻¹ (λ (x : Record). leads (q ∷ rs) b (node x) ≡ child b x) e (cond-true _ _ _ (names_node q))
leads_of (q ∷ rs) ch b r (inr m) = cond-false _ _ _ (names_not (node r) q (within_apart q rs ch.0 (node r) (within_node rs r m))) ∙ leads_of rs ch.3 b r m

-- the target is not on the fixed level
abbrev pub Settled : Option Fixed → Target → Type 0
Settled None t = Unit {0}
Settled (Some f) t = on f.level t ≡ false

pub fix_off : (o : Option Fixed) (s : Choice) (l : ℕ) (t : Target) → Settled o t → on l t ≡ true → fix o s l ≡ s l
unfolding fix
fix_off None s l t h e = refl
fix_off (Some f) s l t h e = cond-false _ _ _ (ne_eqb l f.level (λ g. false≢true (sym h ∙ ap (λ x. on x t) (sym g) ∙ e)))

module _ (n : ℕ) (root : Target) (rs : List Record) (ls : Listing n root rs) where
  ch : Chain rs
  ch = chain n root rs ls

  -- what a node on level l has
  record Noded (l : ℕ) (t : Target) : Type 0 where
    over : (b : Bool) → Within rs (leads rs b t)
    above : (b : Bool) → Above l (leads rs b t)
    small : l < n
    walks : (s : Choice) → walk rs s t ≡ walk rs s (leads rs (s l) t)

  noded_at : (r : Record) → In r rs → Noded r.level (node r)
  noded_at r m =
      record {
        over = λ b. subst⁻¹ (Within rs) (leads_of rs ch b r m) (child_within rs ch r m b);
        above = λ b. subst⁻¹ (Above r.level) (leads_of rs ch b r m) (child_above rs ch r m b);
        small = ls.levelled r m;
        walks = λ s. walk_node rs ch s r m ∙ ap (walk rs s) (sym (leads_of rs ch (s r.level) r m));
      }

  noded : (l k : ℕ) → Within rs (Node l k) → Noded l (Node l k)
  noded l k o = subst₂ Noded (ap (depth n) o.2) o.2 (noded_at o.0 o.1)

  noded_on : (l : ℕ) (t : Target) → Within rs t → on l t ≡ true → Noded l t
  noded_on l t o e =
      let w = on_node l t e in
      subst⁻¹ (Noded l) w.1 (noded l w.0 (subst (Within rs) w.1 o))

  -- a node on a level leads to targets of the listing
  pub leads_within : (l : ℕ) (t : Target) → Within rs t → on l t ≡ true → (b : Bool) → Within rs (leads rs b t)
  leads_within l t o e b = (noded_on l t o e).over b

  pub depth_most : (t : Target) → Within rs t → depth n t ≤ n
  depth_most (Node l k) o = let h = (noded l k o).small in omega arith
  depth_most False o = omega arith
  depth_most True o = omega arith

  pub node_small : (l k : ℕ) → Within rs (Node l k) → l < n
  node_small l k o = (noded l k o).small

  -- what u has, put for t
  pub record Stands (f : Option Fixed) (t u : Target) : Type 0 where
    pub over : Within rs u
    pub settled : Settled f u
    pub walks : (s : Choice) → walk rs (fix f s) u ≡ walk rs (fix f s) t
    pub deeper : depth n t ≤ depth n u

  on_depth : (l : ℕ) (t : Target) → on l t ≡ true → depth n t ≡ l
  on_depth l (Node a i) e = eqb-true a l e
  on_depth l False e = absurd (false≢true e)
  on_depth l True e = absurd (false≢true e)

  fix_on : (f : Fixed) (s : Choice) → fix (Some f) s f.level ≡ f.bit
  unfolding fix
  fix_on f s = cond-true _ _ _ (eq-eqb f.level f.level refl)

  stands : (f : Option Fixed) (t : Target) → Within rs t → Stands f t (fixing rs f t)
  unfolding fixing
  stands None t o = record { over = o; settled = tt; walks = λ s. refl; deeper = omega arith }
  stands (Some f) t o = cond_both (on f.level t) (leads rs f.bit t) t (Stands (Some f) t) yes_on (λ e. record { over = o; settled = e; walks = λ s. refl; deeper = omega arith })
    where
      yes_on : on f.level t ≡ true → Stands (Some f) t (leads rs f.bit t)
      yes_on e =
          let w = noded_on f.level t o e in
          record {
            over = w.over f.bit;
            settled = above_off f.level _ (w.above f.bit);
            walks = λ s. sym (w.walks (fix (Some f) s) ∙ ap (λ b. walk rs (fix (Some f) s) (leads rs b t)) (fix_on f s));
            deeper = omega (arith, above_depth n f.level _ (w.above f.bit) w.small, on_depth f.level t e);
          }

module _ (n : ℕ) (d : Side) (ls : Listing n d.root d.records) where
  -- a target that pairs hold: of the listing, and settled
  abbrev pub Good : Target → Type 0
  Good t = Within d.records t × Settled d.fixed t

  pub good_root : Good (settle d d.root)
  good_root =
      let w = stands n d.root d.records ls d.fixed d.root (root_within d.root d.records ls.rooted) in
      (w.over, w.settled)

  pub root_walk : (s : Choice) → walk d.records (fix d.fixed s) (settle d d.root) ≡ walk d.records (fix d.fixed s) d.root
  root_walk s = (stands n d.root d.records ls d.fixed d.root (root_within d.root d.records ls.rooted)).walks s

  pub good_depth : (t : Target) → Good t → depth n t ≤ n
  good_depth t g = depth_most n d.root d.records ls t g.0

  -- what a move on level l gives
  pub record Moved (l : ℕ) (t : Target) (to : Bool → Target) : Type 0 where
    pub good : (b : Bool) → Good (to b)
    pub deeper : l ≤ depth n t → l < n → (b : Bool) → l < depth n (to b)
    pub walks : (s : Choice) → walk d.records (fix d.fixed s) t ≡ walk d.records (fix d.fixed s) (to (s l))

  pub moved : (l : ℕ) (t : Target) → Good t → Moved l t (λ b. move d l b t)
  unfolding move
  moved l t g = by (cases_Bool (on l t))
    where
      by : (on l t ≡ true) ⊎ (on l t ≡ false) → Moved l t (λ b. move d l b t)
      by (inl e) =
          let w = noded_on n d.root d.records ls l t g.0 e in
          let st = λ (b : Bool). stands n d.root d.records ls d.fixed (leads d.records b t) (w.over b) in
          let q : (b : Bool) → move d l b t ≡ settle d (leads d.records b t) = λ b. cond-true _ _ _ e in
          record {
            good = λ b. subst⁻¹ Good (q b) ((st b).over, (st b).settled);
            deeper = λ h k b. rw (q b) (let j = above_depth n l _ (w.above b) k in omega (arith, (st b).deeper));
            walks = λ s.
                w.walks (fix d.fixed s) ∙
                ap (λ b. walk d.records (fix d.fixed s) (leads d.records b t)) (fix_off d.fixed s l t g.1 e) ∙
                sym ((st (s l)).walks s) ∙
                ap (walk d.records (fix d.fixed s)) (sym (q (s l)));
          }
      by (inr e) =
          let q : (b : Bool) → move d l b t ≡ t = λ b. cond-false _ _ _ e in
          record {
            good = λ b. subst⁻¹ Good (q b) g;
            deeper = λ h k b. rw (q b) (off_above n l t e h k);
            walks = λ s. ap (walk d.records (fix d.fixed s)) (sym (q (s l)));
          }

  -- a walk gives what may be put
  pub walk_put : (s : Choice) (t : Target) → put (walk d.records s t) t ≡ walk d.records s t
  walk_put s (Node l k) = refl
  walk_put s False = sym (walk_false d.records s)
  walk_put s True = sym (walk_true d.records s)
