-- What reduces the records is the normal listing with their value.
use Rattle.std.proofs.Common.{◌≡◌, ℕ, zero, suc, ◌<◌, Bool, true, false, ◌⊎◌, List, [], ◌∷◌, sym, refl, ap, ◌∙◌, subst, inl, inr, ⊎_elim, arith}
use mathlib.Core.Path.{subst⁻¹}
use Rattle.listing.specs.declared.Target.{Target}
use Rattle.listing.specs.declared.Target.TheVariants.{Node, False, True}
use Rattle.listing.specs.declared.Record.{Record}
use Rattle.listing.specs.Members.{In}
use Rattle.listing.specs.Listing.{node, walk, Within, Above, Rooted, Reached, Aimed, Aims, child, Targeted}
use Rattle.listing.proofs.Walk.{Choice, Earlier, Chain, strip, within_node, child_within, child_above, above_more, walk_hit, walk_within, node_level, node_number}
use Rattle.listing.proofs.Unique.{walk_false, walk_true}
use Rattle.listing.proofs.Laws.{walk_node}
use Rattle.listing.proofs.Rules.{Ordered, ordered, chain_from, reached, root_within}
use Rattle.reduce.specs.Reduction.{Copies, Replaced, Replaces, Reduces}
use Rattle.listing.specs.Settings.{fact}
use Rattle.reduce.specs.Contract.{Normalizes}
use Rattle.reduce.proofs.Inner.{Inner}

copies_child : (im : Target → Target) (r c : Record) → Copies im r c → (b : Bool) → child b c ≡ im (child b r)
copies_child im r c h true = h.high
copies_child im r c h false = h.low

both_kids : (im : Target → Target) (r : Record) → im r.low ≡ im r.high → (b : Bool) → im r.low ≡ im (child b r)
both_kids im r e true = e
both_kids im r e false = refl

-- what is the root or a target
abbrev Hit : Target → List Record → Target → Type 0
Hit root ys t = (t ≡ root) ⊎ ((p : Record) × In p ys × ((p.low ≡ t) ⊎ (p.high ≡ t)))

-- a list whose records are each the root or aimed at is aimed at in order
module _ (root : Target) (ys : List Record) (cy : (p : Record) → In p ys → (b : Bool) → Above p.level (child b p)) (hit : (c : Record) → In c ys → Hit root ys (node c)) where
  lower : (p c : Record) → In p ys → ((p.low ≡ node c) ⊎ (p.high ≡ node c)) → p.level < c.level
  lower p c m (inl e) = subst (λ t. Above p.level t) e (cy p m false)
  lower p c m (inr e) = subst (λ t. Above p.level t) e (cy p m true)

  aimed_from : (before rs : List Record) → ((p : Record) → In p ys → In p before ⊎ In p rs) → ((p : Record) → In p rs → In p ys) → ((p : Record) → In p rs → node p ≡ root → ⊥) → Ordered rs → Reached before rs
  aimed_from before [] f g h o = tt
  aimed_from before (r ∷ rs) f g h o = (
    ⊎_elim (λ e. absurd (h r (inl refl) e))
        (λ w. (
          w.0,
          ⊎_elim (λ k. k)
              (λ k. ⊎_elim (λ e. absurd (omega (arith, lower w.0 r w.1 w.2, ap (λ (x : Record). x.level) e)))
              (λ j. absurd (omega (arith, lower w.0 r w.1 w.2, o.0 w.0 j))) k)
              (f w.0 w.1),
          w.2,
        ))
        (hit r (g r (inl refl))),
    aimed_from (r ∷ before) rs
        (λ p m. ⊎_elim (λ k. inl (inr k)) (λ k. ⊎_elim (λ e. inl (inl e)) (λ j. inr j) k) (f p m))
        (λ p m. g p (inr m)) (λ p m. h p (inr m)) o.1,
  )

head_rooted : (root : Target) (q : Record) (ys : List Record) → Earlier q ys →
    (cy : (p : Record) → In p (q ∷ ys) → (b : Bool) → Above p.level (child b p)) (hit : (c : Record) → In c (q ∷ ys) → Hit root (q ∷ ys) (node c)) → root ≡ node q
head_rooted root q ys early cy hit =
    ⊎_elim (λ e. sym e)
    (λ w. absurd (⊎_elim (λ e. omega (arith, lower root (q ∷ ys) cy hit w.0 q w.1 w.2, ap (λ (x : Record). x.level) e))
    (λ j. omega (arith, lower root (q ∷ ys) cy hit w.0 q w.1 w.2, early w.0 j)) w.1))
    (hit q (inl refl))

pub rooted_aimed : (root : Target) (ys : List Record) → Ordered ys → Within ys root →
    (cy : (p : Record) → In p ys → (b : Bool) → Above p.level (child b p)) (hit : (c : Record) → In c ys → Hit root ys (node c)) → Rooted root ys × Aimed ys
rooted_aimed (Node a i) [] o w cy hit = absurd w.1
rooted_aimed False [] o w cy hit = (inl refl, tt)
rooted_aimed True [] o w cy hit = (inr refl, tt)
rooted_aimed root (q ∷ ys) o w cy hit =
    let e = head_rooted root q ys o.0 cy hit in (
      e,
      aimed_from root (q ∷ ys) cy hit (q ∷ []) ys (λ p m. ⊎_elim (λ d. inl (inl d)) (λ j. inr j) m) (λ p m. inr m)
          (λ p m d. omega (arith, o.0 p m, node_level p q (d ∙ e), node_number p q (d ∙ e))) o.1,
    )

module _ (ys : List Record) (im : Target → Target) (im_false : im False ≡ False) (im_true : im True ≡ True) where
  image_over : (xs : List Record) → Chain xs → ((r : Record) → In r xs → Replaced im ys r) → (t : Target) → Within xs t → Within ys (im t)
  image_over [] ch h (Node a i) o = absurd o.1
  image_over [] ch h False o = subst⁻¹ (Within ys) im_false tt
  image_over [] ch h True o = subst⁻¹ (Within ys) im_true tt
  image_over (r ∷ xs) ch h t o = by (image_over xs ch.3 (λ q m. h q (inr m))) (strip r xs t o)
    where
      here : ((u : Target) → Within xs u → Within ys (im u)) → Replaced im ys r → Within ys (im (node r))
      here ih (inl e) = subst⁻¹ (Within ys) e.1 (ih r.low (ch.1 false))
      here ih (inr w) = subst⁻¹ (Within ys) w.2 (within_node ys w.0 w.1)

      by : ((u : Target) → Within xs u → Within ys (im u)) → (t ≡ node r) ⊎ Within xs t → Within ys (im t)
      by ih (inl e) = subst⁻¹ (λ u. Within ys (im u)) e (here ih (h r (inl refl)))
      by ih (inr k) = ih t k

  image_above : (xs : List Record) → Chain xs → ((r : Record) → In r xs → Replaced im ys r) → (l : ℕ) (t : Target) → Within xs t → Above l t → Above l (im t)
  image_above [] ch h l (Node a i) o a' = absurd o.1
  image_above [] ch h l False o a' = subst⁻¹ (Above l) im_false tt
  image_above [] ch h l True o a' = subst⁻¹ (Above l) im_true tt
  image_above (r ∷ xs) ch h l t o a = by (image_above xs ch.3 (λ q m. h q (inr m)) l) (strip r xs t o)
    where
      here : ((u : Target) → Within xs u → Above l u → Above l (im u)) → l < r.level → Replaced im ys r → Above l (im (node r))
      here ih g (inl e) = subst⁻¹ (Above l) e.1 (ih r.low (ch.1 false) (above_more l r.level r.low (omega arith) (ch.2 false)))
      here ih g (inr w) = subst⁻¹ (Above l) w.2 (omega (arith, w.3.level))

      by : ((u : Target) → Within xs u → Above l u → Above l (im u)) → (t ≡ node r) ⊎ Within xs t → Above l (im t)
      by ih (inl e) = subst⁻¹ (λ u. Above l (im u)) e (here ih (subst (Above l) e a) (h r (inl refl)))
      by ih (inr k) = ih t k a

  pub image_same : Chain ys → (xs : List Record) → Chain xs → ((r : Record) → In r xs → Replaced im ys r) → (t : Target) → Within xs t → (s : Choice) → walk ys s (im t) ≡ walk xs s t
  image_same cy [] ch h (Node a i) o s = absurd o.1
  image_same cy [] ch h False o s = ap (walk ys s) im_false ∙ walk_false ys s
  image_same cy [] ch h True o s = ap (walk ys s) im_true ∙ walk_true ys s
  image_same cy (r ∷ xs) ch h t o s = by (λ u k. image_same cy xs ch.3 (λ q m. h q (inr m)) u k s) (strip r xs t o)
    where
      b : Bool
      b = s r.level

      here : ((u : Target) → Within xs u → walk ys s (im u) ≡ walk xs s u) → Replaced im ys r → walk ys s (im (node r)) ≡ walk xs s (child (s r.level) r)
      here ih (inl e) = ap (walk ys s) (e.1 ∙ both_kids im r e.0 (s r.level)) ∙ ih (child (s r.level) r) (ch.1 (s r.level))
      here ih (inr w) =
          ap (walk ys s) w.2 ∙ walk_node ys cy s w.0 w.1 ∙
          ap (λ l. walk ys s (child (s l) w.0)) w.3.level ∙
          ap (walk ys s) (copies_child im r w.0 w.3 (s r.level)) ∙
          ih (child (s r.level) r) (ch.1 (s r.level))

      by : ((u : Target) → Within xs u → walk ys s (im u) ≡ walk xs s u) → (t ≡ node r) ⊎ Within xs t → walk ys s (im t) ≡ walk (r ∷ xs) s t
      by ih (inl e) = ap (λ u. walk ys s (im u)) e ∙ here ih (h r (inl refl)) ∙ sym (walk_hit r xs s) ∙ ap (walk (r ∷ xs) s) (sym e)
      by ih (inr k) = ih t k ∙ sym (walk_within r xs ch.0 s t k)

module _ (n : ℕ) (root : Target) (xs : List Record) (ix : Inner n root xs) (ys : List Record) (im : Target → Target) (red : Reduces xs ys im) where
  over : (t : Target) → Within xs t → Within ys (im t)
  over = image_over ys im red.at_false red.at_true xs ix.chained red.all_replaced

  targets_from : (c : Record) → Replaces im xs c → (b : Bool) → Within ys (child b c) × Above c.level (child b c)
  targets_from c w b =
      let e = copies_child im w.0 c w.3 b in (
        subst⁻¹ (Within ys) e (over (child b w.0) (child_within xs ix.chained w.0 w.1 b)),
        subst⁻¹ (λ l. Above l (child b c)) w.3.level
            (subst⁻¹ (Above w.0.level) e
            (image_above ys im red.at_false red.at_true xs ix.chained red.all_replaced w.0.level (child b w.0) (child_within xs ix.chained w.0 w.1 b) (child_above xs ix.chained w.0 w.1 b))),
      )

  new_targets : Targeted ys
  new_targets c m = targets_from c (red.all_replace c m)

  new_chain : Chain ys
  new_chain = chain_from ys (ordered ys red.numbered) new_targets

  -- the image of each record's node is the new root, or a terminal, or a target
  reach : (d : ℕ) (r : Record) → In r xs → r.level < d → Hit (im root) ys (im (node r))
  reach zero r m l = absurd (omega arith)
  reach (suc d) r m l = by (reach d) (reached root xs ix.rooted ix.aimed r m)
    where
      from : (p : Record) → Hit (im root) ys (im (node p)) → Replaced im ys p → (b : Bool) → child b p ≡ node r → Hit (im root) ys (im (node r))
      from p k (inl e) b f = subst (Hit (im root) ys) (e.1 ∙ both_kids im p e.0 b ∙ ap im f) k
      from p k (inr w) true f = inr (w.0, w.1, inr (copies_child im p w.0 w.3 true ∙ ap im f))
      from p k (inr w) false f = inr (w.0, w.1, inl (copies_child im p w.0 w.3 false ∙ ap im f))

      step : ((p : Record) → In p xs → p.level < d → Hit (im root) ys (im (node p))) → (p : Record) → In p xs → (b : Bool) → child b p ≡ node r → Hit (im root) ys (im (node r))
      step ih p k b f =
          let a : p.level < r.level = subst (λ t. Above p.level t) f (child_above xs ix.chained p k b) in
          from p (ih p k (omega arith)) (red.all_replaced p k) b f

      by : ((p : Record) → In p xs → p.level < d → Hit (im root) ys (im (node p))) → (root ≡ node r) ⊎ ((p : Record) × In p xs × Aims p r) → Hit (im root) ys (im (node r))
      by ih (inl e) = inl (ap im (sym e))
      by ih (inr w) = ⊎_elim (λ f. step ih w.0 w.1 false f) (λ f. step ih w.0 w.1 true f) w.2

  hit : (c : Record) → In c ys → Hit (im root) ys (node c)
  hit c m = let w = red.all_replace c m in subst (Hit (im root) ys) w.2 (reach n w.0 w.1 (ix.levels w.0 w.1))

  ra : Rooted (im root) ys × Aimed ys
  ra = rooted_aimed (im root) ys (ordered ys red.numbered) (over root (root_within root xs ix.rooted)) (λ p m b. (new_targets p m b).1) hit

  pub normalizes : Normalizes n root xs (im root) ys
  normalizes =
      record {
        listing = record {
          rooted = ra.0;
          levelled = λ c m. let w = red.all_replace c m in omega (arith, w.3.level, ix.levels w.0 w.1);
          numbered = red.numbered;
          targeted = new_targets;
          aimed = ra.1;
        };
        normal = record { tested = λ c m. (red.all_replace c m).4; sorted = red.sorted };
        same = λ s len. image_same ys im red.at_false red.at_true new_chain xs ix.chained red.all_replaced root (root_within root xs ix.rooted) (fact s);
      }
