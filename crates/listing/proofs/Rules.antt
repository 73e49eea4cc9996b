-- What the rules of a listing give.
use Rattle.std.proofs.Common.{◌≡◌, ℕ, suc, ◌<◌, ◌≤◌, ◌⊎◌, List, [], ◌∷◌, sym, refl, ap, ◌∙◌, subst, inl, inr, ⊎_elim, arith}
use mathlib.Core.Path.{subst⁻¹}
use Rattle.listing.specs.declared.Target.{Target}
use Rattle.listing.specs.declared.Record.{Record}
use Rattle.listing.specs.Members.{In}
use Rattle.listing.specs.Listing.{node, child, Within, Above, Follows, Next, Numbered, Targeted, Rises, Rising, Sorted, Aims, Reached, Aimed, Listing, Normal, Rooted}
use Rattle.listing.proofs.Order.{rises_trans}
use Rattle.listing.proofs.Walk.{Ahead, Earlier, Chain, strip, within_node}
use Rattle.listing.proofs.Unique.{Proper}

pub ahead_trans : (p q r : Record) → Ahead p q → Ahead q r → Ahead p r
ahead_trans p q r (inl h) (inl k) = inl (omega arith)
ahead_trans p q r (inl h) (inr k) = inl (omega arith)
ahead_trans p q r (inr h) (inl k) = inl (omega arith)
ahead_trans p q r (inr h) (inr k) = inr (omega arith, omega arith)

abbrev pub Ordered : List Record → Type 0
Ordered [] = Unit {0}
Ordered (r ∷ rs) = Earlier r rs × Ordered rs

step_ahead : (p r : Record) → Next p r → Ahead p r
step_ahead p r (inl h) = inr (omega arith, omega arith)
step_ahead p r (inr h) = inl h.0

follows_earlier : (p : Record) (rs : List Record) → Follows p rs → Earlier p rs
follows_earlier p [] f q m = absurd m
follows_earlier p (r ∷ rs) f q (inl e) = subst⁻¹ (λ (x : Record). Ahead p x) e (step_ahead p r f.0)
follows_earlier p (r ∷ rs) f q (inr m) = ahead_trans p r q (step_ahead p r f.0) (follows_earlier r rs f.1 q m)

follows_ordered : (p : Record) (rs : List Record) → Follows p rs → Ordered (p ∷ rs)
follows_ordered p [] f = (follows_earlier p [] f, tt)
follows_ordered p (r ∷ rs) f = (follows_earlier p (r ∷ rs) f, follows_ordered r rs f.1)

pub ordered : (rs : List Record) → Numbered rs → Ordered rs
ordered [] h = tt
ordered (r ∷ rs) h = follows_ordered r rs h.1

-- a number that is not 0 has the number below it before it, on its level
abbrev Prior : List Record → Record → ℕ → Type 0
Prior rs r k = (p : Record) × In p rs × (p.level ≡ r.level) × (p.number ≡ k)

follows_prior : (p : Record) (rs : List Record) → Follows p rs → (r : Record) → In r rs → (k : ℕ) → r.number ≡ suc k → Prior (p ∷ rs) r k
follows_prior p [] f r m k e = absurd m
follows_prior p (q ∷ rs) f r (inl d) k e = by f.0
  where
    by : Next p q → Prior (p ∷ q ∷ rs) r k
    by (inl h) = (p, inl refl, sym h.0 ∙ ap (λ (x : Record). x.level) (sym d), omega (arith, h.1, ap (λ (x : Record). x.number) d))
    by (inr h) = absurd (omega (arith, h.1, ap (λ (x : Record). x.number) d))
follows_prior p (q ∷ rs) f r (inr m) k e =
    let w = follows_prior q rs f.1 r m k e in
    (w.0, inr w.1, w.2, w.3)

pub prior : (rs : List Record) → Numbered rs → (r : Record) → In r rs → (k : ℕ) → r.number ≡ suc k → (p : Record) × In p rs × (p.level ≡ r.level) × (p.number ≡ k)
prior [] h r m k e = absurd m
prior (q ∷ rs) h r (inl d) k e = absurd (omega (arith, h.0, ap (λ (x : Record). x.number) d))
prior (q ∷ rs) h r (inr m) k e = follows_prior q rs h.1 r m k e

-- the listing's targets are over its ends
trim : (x : Record) (rs : List Record) (l : ℕ) → x.level ≤ l → (t : Target) → Above l t → Within (x ∷ rs) t → Within rs t
trim x rs l h t a o = ⊎_elim (λ e. absurd (let k : l < x.level = subst (λ u. Above l u) e a in omega arith)) (λ w. w) (strip x rs t o)

ahead_level : (p q : Record) → Ahead p q → p.level ≤ q.level
ahead_level p q h = omega arith

pub chain_from : (rs : List Record) → Ordered rs → Targeted rs → Chain rs
chain_from [] o h = tt
chain_from (x ∷ rs) o h = (
  o.0,
  λ b. trim x rs x.level (omega arith) (child b x) (h x (inl refl) b).1 (h x (inl refl) b).0,
  λ b. (h x (inl refl) b).1,
  chain_from rs o.1 (λ r m b. (trim x rs r.level (ahead_level x r (o.0 r m)) (child b r) (h r (inr m) b).1 (h r (inr m) b).0, (h r (inr m) b).1)),
)

rising_all : (p : Record) (rs : List Record) → Ordered (p ∷ rs) → Rising p rs → (r : Record) → In r rs → p.level ≡ r.level → Rises p r
rising_all p [] o h r m e = absurd m
rising_all p (q ∷ rs) o h r (inl d) e = subst⁻¹ (λ (x : Record). Rises p x) d (h.0 (e ∙ ap (λ (x : Record). x.level) d))
rising_all p (q ∷ rs) o h r (inr m) e =
    let a : p.level ≤ q.level = ahead_level p q (o.0 q (inl refl)) in
    let b : q.level ≤ r.level = ahead_level q r (o.1.0 r m) in
    rises_trans p q r (h.0 (omega arith)) (rising_all q rs o.1 h.1 r m (omega arith))

rising_tail : (p : Record) (rs : List Record) → Rising p rs → Sorted rs
rising_tail p [] h = tt
rising_tail p (r ∷ rs) h = h.1

proper_from : (rs : List Record) → Ordered rs → ((r : Record) → In r rs → r.low ≡ r.high → ⊥) → Sorted rs → Proper rs
proper_from [] o h s = tt
proper_from (r ∷ rs) o h s = (h r (inl refl), rising_all r rs o s, proper_from rs o.1 (λ q m. h q (inr m)) (rising_tail r rs s))

module _ (n : ℕ) (root : Target) (rs : List Record) (ls : Listing n root rs) where
  pub chain : Chain rs
  chain = chain_from rs (ordered rs ls.numbered) ls.targeted

  pub proper : Normal rs → Proper rs
  proper nm = proper_from rs (ordered rs ls.numbered) nm.tested nm.sorted

pub root_within : (root : Target) (rs : List Record) → Rooted root rs → Within rs root
root_within root [] (inl e) = subst⁻¹ (Within []) e tt
root_within root [] (inr e) = subst⁻¹ (Within []) e tt
root_within root (r ∷ rs) e = subst⁻¹ (Within (r ∷ rs)) e (within_node (r ∷ rs) r (inl refl))

reached_in : (before rs all : List Record) → ((p : Record) → In p before → In p all) → ((p : Record) → In p rs → In p all) → Reached before rs → (r : Record) → In r rs → (p : Record) × In p all × Aims p r
reached_in before [] all f g h r m = absurd m
reached_in before (q ∷ rs) all f g h r (inl e) = (h.0.0, f h.0.0 h.0.1, subst⁻¹ (λ (x : Record). Aims h.0.0 x) e h.0.2)
reached_in before (q ∷ rs) all f g h r (inr m) =
    reached_in (q ∷ before) rs all (λ p k. ⊎_elim (λ e. g p (inl e)) (λ j. f p j) k) (λ p k. g p (inr k)) h.1 r m

-- each record is the root, or a target of a record
pub reached : (root : Target) (rs : List Record) → Rooted root rs → Aimed rs → (r : Record) → In r rs → (root ≡ node r) ⊎ ((p : Record) × In p rs × Aims p r)
reached root [] e h r m = absurd m
reached root (q ∷ rs) e h r (inl d) = inl (e ∙ ap node (sym d))
reached root (q ∷ rs) e h r (inr m) = inr (reached_in (q ∷ []) rs (q ∷ rs) (λ p k. ⊎_elim (λ d. inl d) (λ j. absurd j) k) (λ p k. inr k) h r m)
