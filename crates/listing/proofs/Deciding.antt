-- The tests of specs/Tests decide the rules and the normal form.
use Rattle.std.proofs.Common.{◌≡◌, ℕ, ◌+◌, ◌<◌, Bool, true, false, not, ◌&&◌, ◌||◌, eqb, ltb, ◌⊎◌, List, [], ◌∷◌, Decides, sym, refl, ap, ◌∙◌, subst, ap₂, inl, inr, ⊎_elim, arith}
use mathlib.Core.Path.{subst⁻¹}
use Rattle.std.proofs.lemmas.Bool.{and_parts, and_from, or_cases, or_left, or_right, not-true, not_from_false, cases_Bool, eqb-true, eq-eqb, ltb-true, lt-ltb}
use Rattle.listing.specs.declared.Target.{Target}
use Rattle.listing.specs.declared.Target.TheVariants.{Node, False, True}
use Rattle.listing.specs.declared.Record.{Record}
use Rattle.listing.specs.Members.{In}
use Rattle.listing.specs.Listing.{node, names, child, Within, Above, Rooted, Levelled, Next, Follows, Numbered, Targeted, Aims, Reached, Aimed, Listing, Before, Rises, Rising, Sorted, Tested, Normal, value, Agree}
use Rattle.listing.specs.Settings.{settings}
use Rattle.listing.specs.Meaning.{Decided}
use Rattle.listing.specs.Tests as test
use Rattle.listing.proofs.Counting.{counted}
use Rattle.listing.proofs.Walk.{lev, num, names_node, names_eq}

module _ {P Q : Type 0} (a b : Bool) (p : Decides a P) (q : Decides b Q) where
  pub both : Decides (a && b) (P × Q)
  both = ((λ e. let w = and_parts a b e in (p.0 w.0, q.0 w.1)), (λ h. and_from a b (p.1 h.0) (q.1 h.1)))

  pub either : Decides (a || b) (P ⊎ Q)
  either = ((λ e. ⊎_elim (λ h. inl (p.0 h)) (λ h. inr (q.0 h)) (or_cases a b e)), (λ h. ⊎_elim (λ x. or_left a b (p.1 x)) (λ y. or_right a b (q.1 y)) h))

pub never : {P : Type 0} (a : Bool) → Decides a P → Decides (not a) (P → ⊥)
never a p = (
  (λ e h. let z : true ≡ false = sym (p.1 h) ∙ not-true a e in clash z),
  (λ h. not_from_false a (⊎_elim (λ e. absurd (h (p.0 e))) (λ e. e) (cases_Bool a))),
)
  where
    clash : true ≡ false → ⊥
    clash e = let z : ◌≡◌ {A = ℕ} 0 1 = cc in omega arith

pub whenever : {P Q : Type 0} (a b : Bool) → Decides a P → Decides b Q → Decides (not a || b) (P → Q)
whenever a b p q = (
  (λ e h. ⊎_elim (λ n. absurd ((never a p).0 n h)) (λ y. q.0 y) (or_cases (not a) b e)),
  (λ f. ⊎_elim (λ e. or_right (not a) b (q.1 (f (p.0 e)))) (λ e. or_left (not a) b (not_from_false a e)) (cases_Bool a)),
)

-- a test decides whatever is equivalent to what it decides
pub instead : {P Q : Type 0} (a : Bool) → Decides a P → (P → Q) → (Q → P) → Decides a Q
instead a p f g = ((λ e. f (p.0 e)), (λ h. p.1 (g h)))

pub equal_numbers : (m n : ℕ) → Decides (eqb m n) (m ≡ n)
equal_numbers m n = (eqb-true m n, eq-eqb m n)

pub less : (m n : ℕ) → Decides (ltb m n) (m < n)
less m n = (ltb-true m n, lt-ltb m n)

always : Decides true (Unit {0})
always = ((λ e. tt), (λ h. refl))

nothing : Decides false ⊥
nothing = ((λ e. let z : ◌≡◌ {A = ℕ} 0 1 = cc in omega arith), (λ h. absurd h))

-- two targets of different kinds
abbrev Apart : Target → Target → Type 0
Apart t u = t ≡ u → ⊥

unlike : (t u : Target) → Apart t u → Decides false (t ≡ u)
unlike t u h = ((λ e. let z : ◌≡◌ {A = ℕ} 0 1 = cc in absurd (omega arith)), (λ e. absurd (h e)))

pub same_target : (t u : Target) → Decides (test.same_target t u) (t ≡ u)
same_target (Node l k) (Node m j) =
    instead (eqb l m && eqb k j) (both (eqb l m) (eqb k j) (equal_numbers l m) (equal_numbers k j)) (λ p. ap₂ Node p.0 p.1) (λ e. (ap lev e, ap num e))
same_target (Node l k) False = unlike (Node l k) False (λ e. let z : ◌≡◌ {A = ℕ} 0 1 = cc in omega arith)
same_target (Node l k) True = unlike (Node l k) True (λ e. let z : ◌≡◌ {A = ℕ} 0 1 = cc in omega arith)
same_target False (Node m j) = unlike False (Node m j) (λ e. let z : ◌≡◌ {A = ℕ} 0 1 = cc in omega arith)
same_target False False = ((λ e. refl), (λ e. refl))
same_target False True = unlike False True (λ e. let z : ◌≡◌ {A = ℕ} 0 1 = cc in omega arith)
same_target True (Node m j) = unlike True (Node m j) (λ e. let z : ◌≡◌ {A = ℕ} 0 1 = cc in omega arith)
same_target True False = unlike True False (λ e. let z : ◌≡◌ {A = ℕ} 0 1 = cc in omega arith)
same_target True True = ((λ e. refl), (λ e. refl))

module _ (p : Record → Bool) (P : Record → Type 0) (d : (r : Record) → Decides (p r) (P r)) where
  pub every : (rs : List Record) → Decides (test.every p rs) ((r : Record) → In r rs → P r)
  every [] = ((λ e r m. absurd m), (λ h. refl))
  every (q ∷ rs) =
      instead (p q && test.every p rs) (both (p q) (test.every p rs) (d q) (every rs))
      (λ h r m. ⊎_elim (λ e. subst⁻¹ P e h.0) (h.1 r) m)
      (λ f. (f q (inl refl), (λ r m. f r (inr m))))

  pub some : (rs : List Record) → Decides (test.some p rs) ((r : Record) × In r rs × P r)
  some [] = ((λ e. let z : ◌≡◌ {A = ℕ} 0 1 = cc in absurd (omega arith)), (λ w. absurd w.1))
  some (q ∷ rs) =
      instead (p q || test.some p rs) (either (p q) (test.some p rs) (d q) (some rs))
      (λ c. ⊎_elim (λ h. (q, inl refl, h)) (λ w. (w.0, inr w.1, w.2)) c)
      (λ w. ⊎_elim (λ e. inl (subst P e w.2)) (λ m. inr (w.0, m, w.2)) w.1)

named : (t : Target) (r : Record) → Decides (names t r) (node r ≡ t)
named t r = ((λ e. sym (names_eq t r e)), (λ e. subst (λ u. names u r ≡ true) e (names_node r)))

pub within : (rs : List Record) (t : Target) → Decides (test.within rs t) (Within rs t)
within rs (Node l k) = some (names (Node l k)) (λ r. node r ≡ Node l k) (named (Node l k)) rs
within rs False = always
within rs True = always

above : (l : ℕ) (t : Target) → Decides (test.above l t) (Above l t)
above l (Node m k) = less l m
above l False = always
above l True = always

rooted : (t : Target) (rs : List Record) → Decides (test.rooted t rs) (Rooted t rs)
rooted t [] = either (test.same_target t False) (test.same_target t True) (same_target t False) (same_target t True)
rooted t (r ∷ rs) = same_target t (node r)

levelled : (n : ℕ) (rs : List Record) → Decides (test.levelled n rs) (Levelled n rs)
levelled n rs = every (λ r. ltb r.level n) (λ r. r.level < n) (λ r. less r.level n) rs

pub next : (p r : Record) → Decides (test.next p r) (Next p r)
next p r =
    either (eqb r.level p.level && eqb r.number (p.number + 1)) (ltb p.level r.level && eqb r.number 0)
    (both (eqb r.level p.level) (eqb r.number (p.number + 1)) (equal_numbers r.level p.level) (equal_numbers r.number (p.number + 1)))
    (both (ltb p.level r.level) (eqb r.number 0) (less p.level r.level) (equal_numbers r.number 0))

follows : (p : Record) (rs : List Record) → Decides (test.follows p rs) (Follows p rs)
follows p [] = always
follows p (r ∷ rs) = both (test.next p r) (test.follows r rs) (next p r) (follows r rs)

numbered : (rs : List Record) → Decides (test.numbered rs) (Numbered rs)
numbered [] = always
numbered (r ∷ rs) = both (eqb r.number 0) (test.follows r rs) (equal_numbers r.number 0) (follows r rs)

pub target : (rs : List Record) (l : ℕ) (t : Target) → Decides (test.target rs l t) (Within rs t × Above l t)
target rs l t = both (test.within rs t) (test.above l t) (within rs t) (above l t)

targets : (rs : List Record) (r : Record) → Decides (test.target rs r.level r.low && test.target rs r.level r.high) ((b : Bool) → Within rs (child b r) × Above r.level (child b r))
targets rs r =
    instead (test.target rs r.level r.low && test.target rs r.level r.high)
    (both (test.target rs r.level r.low) (test.target rs r.level r.high) (target rs r.level r.low) (target rs r.level r.high))
    (λ h b. pick h b) (λ f. (f false, f true))
  where
    pick : (Within rs r.low × Above r.level r.low) × (Within rs r.high × Above r.level r.high) → (b : Bool) → Within rs (child b r) × Above r.level (child b r)
    pick h true = h.1
    pick h false = h.0

targeted : (rs : List Record) → Decides (test.targeted rs) (Targeted rs)
targeted rs =
    every (λ r. test.target rs r.level r.low && test.target rs r.level r.high) (λ r. (b : Bool) → Within rs (child b r) × Above r.level (child b r)) (targets rs) rs

pub aims : (p r : Record) → Decides (test.aims p r) (Aims p r)
aims p r = either (test.same_target p.low (node r)) (test.same_target p.high (node r)) (same_target p.low (node r)) (same_target p.high (node r))

reached : (before rs : List Record) → Decides (test.reached before rs) (Reached before rs)
reached before [] = always
reached before (r ∷ rs) = both (test.some (λ p. test.aims p r) before) (test.reached (r ∷ before) rs) (some (λ p. test.aims p r) (λ p. Aims p r) (λ p. aims p r) before) (reached (r ∷ before) rs)

aimed : (rs : List Record) → Decides (test.aimed rs) (Aimed rs)
aimed [] = always
aimed (r ∷ rs) = reached (r ∷ []) rs

pub before : (t u : Target) → Decides (test.before t u) (Before t u)
before (Node a i) (Node b j) = either (ltb a b) (eqb a b && ltb i j) (less a b) (both (eqb a b) (ltb i j) (equal_numbers a b) (less i j))
before (Node a i) False = always
before (Node a i) True = always
before False (Node b j) = nothing
before False False = nothing
before False True = always
before True (Node b j) = nothing
before True False = nothing
before True True = nothing

rises : (p q : Record) → Decides (test.rises p q) (Rises p q)
rises p q =
    either (test.before p.low q.low) (test.same_target p.low q.low && test.before p.high q.high) (before p.low q.low)
    (both (test.same_target p.low q.low) (test.before p.high q.high) (same_target p.low q.low) (before p.high q.high))

rising : (p : Record) (rs : List Record) → Decides (test.rising p rs) (Rising p rs)
rising p [] = always
rising p (r ∷ rs) =
    both (not (eqb p.level r.level) || test.rises p r) (test.rising r rs)
    (whenever (eqb p.level r.level) (test.rises p r) (equal_numbers p.level r.level) (rises p r)) (rising r rs)

pub sorted : (rs : List Record) → Decides (test.sorted rs) (Sorted rs)
sorted [] = always
sorted (r ∷ rs) = rising r rs

pub tested : (rs : List Record) → Decides (test.tested rs) (Tested rs)
tested rs = every (λ r. not (test.same_target r.low r.high)) (λ r. r.low ≡ r.high → ⊥) (λ r. never (test.same_target r.low r.high) (same_target r.low r.high)) rs

pub is_listing : (n : ℕ) (root : Target) (rs : List Record) → Decides (test.is_listing n root rs) (Listing n root rs)
is_listing n root rs =
    instead (test.is_listing n root rs)
    (both (test.rooted root rs) (test.levelled n rs && (test.numbered rs && (test.targeted rs && test.aimed rs))) (rooted root rs)
    (both (test.levelled n rs) (test.numbered rs && (test.targeted rs && test.aimed rs)) (levelled n rs)
    (both (test.numbered rs) (test.targeted rs && test.aimed rs) (numbered rs)
    (both (test.targeted rs) (test.aimed rs) (targeted rs) (aimed rs)))))
    (λ p. record { rooted = p.0; levelled = p.1.0; numbered = p.1.1.0; targeted = p.1.1.1.0; aimed = p.1.1.1.1 })
    (λ l. (l.rooted, (l.levelled, (l.numbered, (l.targeted, l.aimed)))))

pub is_normal : (rs : List Record) → Decides (test.is_normal rs) (Normal rs)
is_normal rs =
    instead (test.is_normal rs) (both (test.tested rs) (test.sorted rs) (tested rs) (sorted rs))
    (λ p. record { tested = p.0; sorted = p.1 }) (λ l. (l.tested, l.sorted))

same_bit : (a b : Bool) → Decides (test.same_bit a b) (a ≡ b)
same_bit true b = (sym, sym)
same_bit false b = ((λ e. sym (not-true b e)), (λ e. not_from_false b (sym e)))

agree_at : (ss : List (List Bool)) (xs : List Record) (t : Target) (ys : List Record) (u : Target) → Decides (test.agree_at ss xs t ys u) ((s : List Bool) → In s ss → value xs s t ≡ value ys s u)
agree_at [] xs t ys u = ((λ e s m. absurd m), (λ h. refl))
agree_at (s ∷ ss) xs t ys u =
    instead (test.same_bit (value xs s t) (value ys s u) && test.agree_at ss xs t ys u)
    (both (test.same_bit (value xs s t) (value ys s u)) (test.agree_at ss xs t ys u) (same_bit (value xs s t) (value ys s u)) (agree_at ss xs t ys u))
    (λ h z m. ⊎_elim (λ e. subst⁻¹ (λ (v : List Bool). value xs v t ≡ value ys v u) e h.0) (h.1 z) m)
    (λ f. (f s (inl refl), (λ z m. f z (inr m))))

pub agrees : (n : ℕ) (xs : List Record) (t : Target) (ys : List Record) (u : Target) → Decides (test.agrees n xs t ys u) (Agree n xs t ys u)
agrees n xs t ys u =
    instead (test.agrees n xs t ys u) (agree_at (settings n) xs t ys u) (λ h s len. h s ((counted n).every s len)) (λ h s m. h s ((counted n).only s m))

pub decided : (root : Target) (rs : List Record) (n : ℕ) → Decided n root rs
decided root rs n = record { listing = is_listing n root rs; normal = is_normal rs }
