-- One more level in front of what is reduced.
use Rattle.std.proofs.Common.{◌≡◌, ℕ, ◌+◌, ◌<◌, true, false, ◌⊎◌, List, [], ◌∷◌, ◌++◌, sym, refl, ap, ◌∙◌, subst, inl, inr, ⊎_elim, arith}
use Rattle.listing.specs.declared.Target.{Target}
use Rattle.listing.specs.declared.Target.TheVariants.{False, True}
use Rattle.listing.specs.declared.Record.{Record}
use Rattle.listing.specs.Members.{In}
use Rattle.listing.specs.Listing.{node, Within, Numbered, Follows, Rises, Rising, Sorted}
use Rattle.listing.proofs.Walk.{Chain, within_node, child_within}
use Rattle.reduce.specs.Reduction.{Copies, Replaced, Replaces, Reduces}

pub in_left : (xs ys : List Record) (r : Record) → In r xs → In r (xs ++ ys)
in_left [] ys r m = absurd m
in_left (x ∷ xs) ys r (inl e) = inl e
in_left (x ∷ xs) ys r (inr m) = inr (in_left xs ys r m)

pub in_right : (xs ys : List Record) (r : Record) → In r ys → In r (xs ++ ys)
in_right [] ys r m = m
in_right (x ∷ xs) ys r m = inr (in_right xs ys r m)

pub in_split : (xs ys : List Record) (r : Record) → In r (xs ++ ys) → In r xs ⊎ In r ys
in_split [] ys r m = inr m
in_split (x ∷ xs) ys r (inl e) = inl (inl e)
in_split (x ∷ xs) ys r (inr m) = ⊎_elim (λ k. inl (inr k)) (λ k. inr k) (in_split xs ys r m)

-- the records of one level, numbered from k on
abbrev pub Block : ℕ → ℕ → List Record → Type 0
Block l k [] = Unit {0}
Block l k (c ∷ cs) = (c.level ≡ l) × (c.number ≡ k) × Block l (k + 1) cs

-- each rises above those before it
abbrev pub Climbs : List Record → Type 0
Climbs [] = Unit {0}
Climbs (c ∷ cs) = ((d : Record) → In d cs → Rises c d) × Climbs cs

pub block_level : (l k : ℕ) (cs : List Record) → Block l k cs → (c : Record) → In c cs → c.level ≡ l
block_level l k [] b c m = absurd m
block_level l k (d ∷ cs) b c (inl e) = ap (λ (x : Record). x.level) e ∙ b.0
block_level l k (d ∷ cs) b c (inr m) = block_level l (k + 1) cs b.2 c m

follows_high : (p : Record) (ys : List Record) → Numbered ys → ((q : Record) → In q ys → p.level < q.level) → Follows p ys
follows_high p [] n h = tt
follows_high p (y ∷ ys) n h = (inr (h y (inl refl), n.0), n.1)

follows_block : (l : ℕ) (p : Record) (cs ys : List Record) → p.level ≡ l → Block l (p.number + 1) cs → Numbered ys → ((q : Record) → In q ys → l < q.level) → Follows p (cs ++ ys)
follows_block l p [] ys e b n h = follows_high p ys n (λ q m. omega (arith, h q m))
follows_block l p (c ∷ cs) ys e b n h =
    (inl (b.0 ∙ sym e, b.1), follows_block l c cs ys b.0 (subst (λ k. Block l (k + 1) cs) (sym b.1) b.2) n h)

numbered_block : (l : ℕ) (cs ys : List Record) → Block l 0 cs → Numbered ys → ((q : Record) → In q ys → l < q.level) → Numbered (cs ++ ys)
numbered_block l [] ys b n h = n
numbered_block l (c ∷ cs) ys b n h = (b.1, follows_block l c cs ys b.0 (subst (λ k. Block l (k + 1) cs) (sym b.1) b.2) n h)

rising_high : (p : Record) (ys : List Record) → Sorted ys → ((q : Record) → In q ys → p.level < q.level) → Rising p ys
rising_high p [] s h = tt
rising_high p (y ∷ ys) s h = ((λ e. absurd (omega (arith, h y (inl refl)))), s)

rising_block : (l : ℕ) (p : Record) (cs ys : List Record) → p.level ≡ l → Climbs (p ∷ cs) → Sorted ys → (k : ℕ) → Block l k cs → ((q : Record) → In q ys → l < q.level) → Rising p (cs ++ ys)
rising_block l p [] ys e c s k b h = rising_high p ys s (λ q m. omega (arith, h q m))
rising_block l p (d ∷ cs) ys e c s k b h = ((λ f. c.0 d (inl refl)), rising_block l d cs ys b.0 c.1 s (k + 1) b.2 h)

sorted_block : (l k : ℕ) (cs ys : List Record) → Climbs cs → Sorted ys → Block l k cs → ((q : Record) → In q ys → l < q.level) → Sorted (cs ++ ys)
sorted_block l k [] ys c s b h = s
sorted_block l k (d ∷ cs) ys c s b h = rising_block l d cs ys b.0 c s (k + 1) b.2 h

module _ (xs ys : List Record) (cx : Chain xs) (im im' : Target → Target) (same : (t : Target) → Within xs t → im' t ≡ im t) where
  copies_kept : (r c : Record) → In r xs → Copies im r c → Copies im' r c
  copies_kept r c m h =
      record { level = h.level; low = h.low ∙ sym (same r.low (child_within xs cx r m false)); high = h.high ∙ sym (same r.high (child_within xs cx r m true)) }

  replaced_kept : (cs : List Record) (r : Record) → In r xs → Replaced im ys r → Replaced im' (cs ++ ys) r
  replaced_kept cs r m (inl e) =
      let lo = same r.low (child_within xs cx r m false) in
      let hi = same r.high (child_within xs cx r m true) in
      inl (lo ∙ e.0 ∙ sym hi, same (node r) (within_node xs r m) ∙ e.1 ∙ sym lo)
  replaced_kept cs r m (inr w) =
      inr (w.0, in_right cs ys w.0 w.1, same (node r) (within_node xs r m) ∙ w.2, copies_kept r w.0 m w.3)

  replaces_kept : (bs : List Record) (c : Record) → Replaces im xs c → Replaces im' (bs ++ xs) c
  replaces_kept bs c w = (w.0, in_right bs xs w.0 w.1, same (node w.0) (within_node xs w.0 w.1) ∙ w.2, copies_kept w.0 c w.1 w.3, w.4)

  widen_replaced : (cs : List Record) (r : Record) → Replaced im' cs r → Replaced im' (cs ++ ys) r
  widen_replaced cs r (inl e) = inl e
  widen_replaced cs r (inr w) = inr (w.0, in_left cs ys w.0 w.1, w.2, w.3)

  pub extend : Reduces xs ys im → (l : ℕ) → ((r : Record) → In r xs → l < r.level) → im' False ≡ False → im' True ≡ True →
      (bs cs : List Record) → Block l 0 cs → Climbs cs → ((r : Record) → In r bs → Replaced im' cs r) → ((c : Record) → In c cs → Replaces im' bs c) →
      Reduces (bs ++ xs) (cs ++ ys) im'
  extend red l high f t bs cs b c old new =
      let up : (q : Record) → In q ys → l < q.level = λ q m. let w = red.all_replace q m in omega (arith, high w.0 w.1, w.3.level) in
      record {
        at_false = f;
        at_true = t;
        numbered = numbered_block l cs ys b red.numbered up;
        sorted = sorted_block l 0 cs ys c red.sorted b up;
        all_replaced = λ r m. ⊎_elim (λ k. widen_replaced cs r (old r k)) (λ k. replaced_kept cs r k (red.all_replaced r k)) (in_split bs xs r m);
        all_replace = λ q m.
            ⊎_elim (λ k. let w = new q k in (w.0, in_left bs xs w.0 w.1, w.2, w.3, w.4)) (λ k. replaces_kept bs q (red.all_replace q k)) (in_split cs ys q m);
      }
