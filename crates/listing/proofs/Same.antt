-- Two normal listings with one value are equal; a normal one is no longer than any other.
use Rattle.std.proofs.Common.{◌≡◌, ℕ, zero, suc, ◌+◌, ◌<◌, ◌≤◌, Bool, true, false, List, [], ◌∷◌, length, sym, refl, ap, ◌∙◌, subst, inl, inr, arith}
use mathlib.Core.Path.{subst⁻¹}
use Rattle.listing.specs.declared.Target.{Target}
use Rattle.listing.specs.declared.Target.TheVariants.{Node, False, True}
use Rattle.listing.specs.declared.Record.{Record}
use Rattle.listing.specs.Members.{In}
use Rattle.listing.specs.Listing.{node, child, walk, Within, Above, Rises, Numbered, Listing, Normal}
use Rattle.listing.proofs.Order.{rises_irr, rises_trans, rises_move}
use Rattle.listing.proofs.Walk.{Same, Chain, within_node, child_within, child_above, cofactors, node_level, node_number}
use Rattle.listing.proofs.Unique.{Proper, unlike, own_fact, terminals}
use Rattle.listing.proofs.Rules.{Ordered, ordered, prior, chain, proper, root_within}
use Rattle.listing.proofs.Lists.{same_members, Apart, no_longer}
use Rattle.listing.proofs.Partner.{Partner, partner}

-- on one level, numbers and targets rise together
number_rises : (rs : List Record) → Ordered rs → Proper rs → (p q : Record) → In p rs → In q rs → p.level ≡ q.level → p.number < q.number → Rises p q
number_rises [] o pr p q k m e h = absurd k
number_rises (x ∷ rs) o pr p q (inl f) (inl g) e h = absurd (omega (arith, ap (λ (y : Record). y.number) (f ∙ sym g)))
number_rises (x ∷ rs) o pr p q (inl f) (inr m) e h = subst⁻¹ (λ (y : Record). Rises y q) f (pr.1 q m (ap (λ (y : Record). y.level) (sym f) ∙ e))
number_rises (x ∷ rs) o pr p q (inr k) (inl g) e h = absurd (omega (arith, o.0 p k, ap (λ (y : Record). y.number) g, ap (λ (y : Record). y.level) g))
number_rises (x ∷ rs) o pr p q (inr k) (inr m) e h = number_rises rs o.1 pr.2 p q k m e h

rises_number : (rs : List Record) → Ordered rs → Proper rs → (p q : Record) → In p rs → In q rs → p.level ≡ q.level → Rises p q → p.number < q.number
rises_number [] o pr p q k m e h = absurd k
rises_number (x ∷ rs) o pr p q (inl f) (inl g) e h = absurd (rises_irr p q (ap (λ (y : Record). y.low) (f ∙ sym g)) (ap (λ (y : Record). y.high) (f ∙ sym g)) h)
rises_number (x ∷ rs) o pr p q (inl f) (inr m) e h = omega (arith, o.0 q m, ap (λ (y : Record). y.number) f, ap (λ (y : Record). y.level) f)
rises_number (x ∷ rs) o pr p q (inr k) (inl g) e h =
    absurd (rises_irr x x refl refl (rises_trans x p x (pr.1 p k (ap (λ (y : Record). y.level) (sym g) ∙ sym e)) (subst (λ (y : Record). Rises p y) g h)))
rises_number (x ∷ rs) o pr p q (inr k) (inr m) e h = rises_number rs o.1 pr.2 p q k m e h

-- where partners on a level have equal targets, a partner's number is no lower
abbrev Kids : List Record → List Record → ℕ → Type 0
Kids xs ys l = (r q : Record) → In r xs → In q ys → r.level ≡ l → Same xs (node r) ys (node q) → (b : Bool) → child b r ≡ child b q

module _ (xs ys : List Record) (nx : Numbered xs) (px : Proper xs) (ny : Numbered ys) (py : Proper ys) (ps : (r : Record) → In r xs → Partner xs ys r) (l : ℕ) (kids : Kids xs ys l) where
  number_le : (k : ℕ) (r q : Record) → In r xs → In q ys → r.level ≡ l → q.level ≡ l → Same xs (node r) ys (node q) → r.number ≡ k → k ≤ q.number
  number_le zero r q m j e f h z = omega arith
  number_le (suc k) r q m j e f h z =
      let p = prior xs nx r m k z in
      let w = ps p.0 p.1 in
      let ih = number_le k p.0 w.0 p.1 w.1 (p.2 ∙ e) (sym w.2 ∙ p.2 ∙ e) w.3 p.3 in
      let kp = kids p.0 w.0 p.1 w.1 (p.2 ∙ e) w.3 in
      let kr = kids r q m j e h in
      let up = number_rises xs (ordered xs nx) px p.0 r p.1 m p.2 (omega (arith, p.3)) in
      let lt = rises_number ys (ordered ys ny) py w.0 q w.1 j (sym w.2 ∙ p.2 ∙ e ∙ sym f) (rises_move p.0 r w.0 q (kp false) (kp true) (kr false) (kr true) up) in
      omega arith

module _ (n : ℕ) (root : Target) (xs : List Record) (lx : Listing n root xs) (nx : Normal xs) (root' : Target) (ys : List Record) (ly : Listing n root' ys) (ny : Normal ys) (h : Same xs root ys root') where
  cx : Chain xs
  cx = chain n root xs lx

  px : Proper xs
  px = proper n root xs lx nx

  cy : Chain ys
  cy = chain n root' ys ly

  py : Proper ys
  py = proper n root' ys ly ny

  forth : (r : Record) → In r xs → Partner xs ys r
  forth = partner n root xs lx nx root' ys ly h

  back : (q : Record) → In q ys → Partner ys xs q
  back = partner n root' ys ly ny root xs lx (λ s. sym (h s))

  -- nodes with one value on level l or higher are equal
  abbrev Equal : ℕ → Type 0
  Equal l = (r q : Record) → In r xs → In q ys → l ≤ r.level → Same xs (node r) ys (node q) → node r ≡ node q

  equal_targets : (l : ℕ) → Equal (suc l) → (t u : Target) → Within xs t → Above l t → Within ys u → Same xs t ys u → t ≡ u
  equal_targets l ih (Node a i) (Node b j) o k w g =
      let e : l < o.0.level = subst⁻¹ (λ t. Above l t) o.2 k in
      sym o.2 ∙ ih o.0 w.0 o.1 w.1 e (λ s. ap (walk xs s) o.2 ∙ g s ∙ ap (walk ys s) (sym w.2)) ∙ w.2
  equal_targets l ih (Node a i) False o k w g = absurd (own_fact xs cx px ys cy o.0 o.1 False tt (λ s. ap (walk xs s) o.2 ∙ g s))
  equal_targets l ih (Node a i) True o k w g = absurd (own_fact xs cx px ys cy o.0 o.1 True tt (λ s. ap (walk xs s) o.2 ∙ g s))
  equal_targets l ih False (Node b j) o k w g = absurd (own_fact ys cy py xs cx w.0 w.1 False tt (λ s. ap (walk ys s) w.2 ∙ sym (g s)))
  equal_targets l ih False False o k w g = refl
  equal_targets l ih False True o k w g = absurd (terminals xs ys g)
  equal_targets l ih True (Node b j) o k w g = absurd (own_fact ys cy py xs cx w.0 w.1 True tt (λ s. ap (walk ys s) w.2 ∙ sym (g s)))
  equal_targets l ih True False o k w g = absurd (terminals ys xs (λ s. sym (g s)))
  equal_targets l ih True True o k w g = refl

  equal_levels : (r q : Record) → In r xs → In q ys → Same xs (node r) ys (node q) → r.level ≡ q.level
  equal_levels r q m k g =
      let a : r.level < q.level → ⊥ = λ l. own_fact xs cx px ys cy r m (node q) l g in
      let b : q.level < r.level → ⊥ = λ l. own_fact ys cy py xs cx q k (node r) l (λ s. sym (g s)) in
      omega arith

  kids_at : (l : ℕ) → Equal (suc l) → Kids xs ys l
  kids_at l ih r q m k e g b =
      equal_targets l ih (child b r) (child b q) (child_within xs cx r m b) (subst (λ x. Above x (child b r)) e (child_above xs cx r m b)) (child_within ys cy q k b)
      (cofactors xs cx ys cy r m q k (equal_levels r q m k g) g b)

  kids_back : (l : ℕ) → Equal (suc l) → Kids ys xs l
  kids_back l ih q r k m e g b =
      let f : r.level ≡ l = equal_levels r q m k (λ s. sym (g s)) ∙ e in
      sym (kids_at l ih r q m k f (λ s. sym (g s)) b)

  equal_here : (l : ℕ) → Equal (suc l) → (r q : Record) → In r xs → In q ys → r.level ≡ l → Same xs (node r) ys (node q) → node r ≡ node q
  equal_here l ih r q m k e g =
      let f = equal_levels r q m k g in
      let a = number_le xs ys lx.numbered px ly.numbered py forth l (kids_at l ih) r.number r q m k e (sym f ∙ e) g refl in
      let b = number_le ys xs ly.numbered py lx.numbered px back l (kids_back l ih) q.number q r k m (sym f ∙ e) e (λ s. sym (g s)) refl in
      let z : r.number ≡ q.number = omega arith in
      λ i. Node (f i) (z i)

  equal : (d l : ℕ) → n ≤ l + d → Equal l
  equal zero l b r q m k e g = absurd (omega (arith, lx.levelled r m))
  equal (suc d) l b r q m k e g =
      equal_here r.level (equal d (suc r.level) (omega arith)) r q m k refl g

  all_equal : (l : ℕ) → Equal l
  all_equal l = equal n l (omega arith)

  -- partners are the same record
  same_record : (r q : Record) → In r xs → In q ys → Same xs (node r) ys (node q) → r ≡ q
  same_record r q m k g =
      let e = all_equal 0 r q m k (omega arith) g in
      let b = kids_at r.level (all_equal (suc r.level)) r q m k refl g in
      λ i. record { level = node_level r q e i; number = node_number r q e i; low = b false i; high = b true i }

  forth_in : (r : Record) → In r xs → In r ys
  forth_in r m = let w = forth r m in subst⁻¹ (λ (x : Record). In x ys) (same_record r w.0 m w.1 w.3) w.1

  back_in : (q : Record) → In q ys → In q xs
  back_in q k = let w = back q k in subst (λ (x : Record). In x xs) (same_record w.0 q w.1 k (λ s. sym (w.3 s))) w.1

  pub same_lists : xs ≡ ys
  same_lists = same_members xs ys (ordered xs lx.numbered) (ordered ys ly.numbered) forth_in back_in

  pub same_roots : root ≡ root'
  same_roots =
      unlike ys cy py root root' (subst (λ v. Within v root) same_lists (root_within root xs lx.rooted)) (root_within root' ys ly.rooted)
      (λ s. ap (λ v. walk v s root) (sym same_lists) ∙ h s)

module _ (n : ℕ) (root : Target) (xs : List Record) (lx : Listing n root xs) (nx : Normal xs) (root' : Target) (ys : List Record) (ly : Listing n root' ys) (h : Same xs root ys root') where
  abbrev Image : Record → Record → Type 0
  Image r q = Same xs (node r) ys (node q)

  apart : (rs : List Record) → Ordered rs → ((r : Record) → In r rs → In r xs) → Apart Image rs
  apart [] o f = tt
  apart (r ∷ rs) o f = (
    (λ p m q a b.
        let e = unlike xs (chain n root xs lx) (proper n root xs lx nx) (node r) (node p) (within_node xs r (f r (inl refl))) (within_node xs p (f p (inr m))) (λ s. a s ∙ sym (b s)) in
        omega (arith, o.0 p m, node_level r p e, node_number r p e)),
    apart rs o.1 (λ p m. f p (inr m)),
  )

  pub shortest : length xs ≤ length ys
  shortest =
      no_longer Image xs ys (apart xs (ordered xs lx.numbered) (λ r m. m))
      (λ r m. let w = partner n root xs lx nx root' ys ly h r m in (w.0, w.1, w.3))
