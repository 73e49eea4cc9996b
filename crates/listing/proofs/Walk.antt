-- How a value depends on the facts.
use Rattle.std.proofs.Common.{◌≡◌, ℕ, ◌+◌, ◌<◌, ◌≤◌, Bool, true, false, cond, eqb, ◌⊎◌, List, [], ◌∷◌, length, get_or, drop, sym, refl, ap, ◌∙◌, subst, ap₂, inl, inr, ⊎_elim, arith}
use mathlib.Core.Path.{subst⁻¹}
use Rattle.std.proofs.lemmas.List.{at_drop_more}
use Rattle.std.proofs.lemmas.Bool.{eq-eqb, ne_eqb, eqb-true, and_parts, and_from, cases_Bool, cond-true, cond-false}
use Rattle.listing.specs.declared.Target.{Target}
use Rattle.listing.specs.declared.Target.TheVariants.{Node, False, True}
use Rattle.listing.specs.declared.Record.{Record}
use Rattle.listing.specs.Members.{In}
use Rattle.listing.specs.Listing.{node, names, child, walk, Within, Above}

-- what each fact is, on every level: the proofs walk by these, and the statements by lists of n bits
abbrev pub Choice : Type 0
Choice = ℕ → Bool

-- t in xs has with each choice the value of u in ys
abbrev pub Same : List Record → Target → List Record → Target → Type 0
Same xs t ys u = (s : Choice) → walk xs s t ≡ walk ys s u

-- a node's level and number
abbrev pub lev : Target → ℕ
lev (Node l k) = l
lev False = 0
lev True = 0

abbrev pub num : Target → ℕ
num (Node l k) = k
num False = 0
num True = 0

pub node_level : (r q : Record) → node r ≡ node q → r.level ≡ q.level
node_level r q e = ap lev e

pub node_number : (r q : Record) → node r ≡ node q → r.number ≡ q.number
node_number r q e = ap num e

-- r stands before q
abbrev pub Ahead : Record → Record → Type 0
Ahead r q = (r.level < q.level) ⊎ ((r.level ≡ q.level) × (r.number < q.number))

abbrev pub Earlier : Record → List Record → Type 0
Earlier r rs = (q : Record) → In q rs → Ahead r q

-- what a listing's rules give, in the form that each end of a listing keeps
abbrev pub Chain : List Record → Type 0
Chain [] = Unit {0}
Chain (r ∷ rs) = Earlier r rs × ((b : Bool) → Within rs (child b r)) × ((b : Bool) → Above r.level (child b r)) × Chain rs

pub above_more : (l m : ℕ) (t : Target) → l ≤ m → Above m t → Above l t
above_more l m (Node a i) h k = omega arith
above_more l m False h k = tt
above_more l m True h k = tt

pub within_cons : (q : Record) (rs : List Record) (t : Target) → Within rs t → Within (q ∷ rs) t
within_cons q rs (Node a i) o = (o.0, inr o.1, o.2)
within_cons q rs False o = tt
within_cons q rs True o = tt

pub within_node : (rs : List Record) (r : Record) → In r rs → Within rs (node r)
within_node rs r m = (r, m, refl)

pub strip : (q : Record) (rs : List Record) (t : Target) → Within (q ∷ rs) t → (t ≡ node q) ⊎ Within rs t
strip q rs (Node a i) o = ⊎_elim (λ e. inl (sym o.2 ∙ ap node e)) (λ m. inr (o.0, m, o.2)) o.1
strip q rs False o = inr tt
strip q rs True o = inr tt

-- a target over the records behind r is not r's node
pub within_apart : (r : Record) (rs : List Record) → Earlier r rs → (t : Target) → Within rs t → t ≡ node r → ⊥
within_apart r rs early (Node a i) o e = ⊎_elim (λ h. omega (arith, node_level o.0 r (o.2 ∙ e))) (λ h. omega (arith, node_number o.0 r (o.2 ∙ e))) (early o.0 o.1)
within_apart r rs early False o e = let z : ◌≡◌ {A = ℕ} 0 1 = cc in omega arith
within_apart r rs early True o e = let z : ◌≡◌ {A = ℕ} 0 1 = cc in omega arith

pub names_node : (r : Record) → names (node r) r ≡ true
names_node r = and_from _ _ (eq-eqb r.level r.level refl) (eq-eqb r.number r.number refl)

pub names_eq : (t : Target) (r : Record) → names t r ≡ true → t ≡ node r
names_eq (Node a i) r e =
    let p = and_parts (eqb a r.level) (eqb i r.number) e in
    ap₂ Node (eqb-true _ _ p.0) (eqb-true _ _ p.1)
names_eq False r e = cc
names_eq True r e = cc

pub names_not : (t : Target) (r : Record) → (t ≡ node r → ⊥) → names t r ≡ false
names_not t r h = ⊎_elim (λ e. absurd (h (names_eq t r e))) (λ e. e) (cases_Bool (names t r))

pub walk_hit : (r : Record) (rs : List Record) (s : Choice) → walk (r ∷ rs) s (node r) ≡ walk rs s (child (s r.level) r)
walk_hit r rs s = cond-true _ _ _ (names_node r)

pub walk_miss : (r : Record) (rs : List Record) (s : Choice) (t : Target) → (t ≡ node r → ⊥) → walk (r ∷ rs) s t ≡ walk rs s t
walk_miss r rs s t h = cond-false _ _ _ (names_not t r h)

pub walk_within : (r : Record) (rs : List Record) → Earlier r rs → (s : Choice) (t : Target) → Within rs t → walk (r ∷ rs) s t ≡ walk rs s t
walk_within r rs early s t o = walk_miss r rs s t (within_apart r rs early t o)

-- a value hangs on the facts of its own level and higher
pub agree : (rs : List Record) → Chain rs → (l : ℕ) (s z : Choice) → ((m : ℕ) → l < m → s m ≡ z m) → (t : Target) → Above l t → walk rs s t ≡ walk rs z t
agree [] ch l s z same t a = refl
agree (r ∷ rs) ch l s z same t a = step (λ u b. agree rs ch.3 l s z same u b) (cases_Bool (names t r))
  where
    step : ((u : Target) → Above l u → walk rs s u ≡ walk rs z u) → (names t r ≡ true) ⊎ (names t r ≡ false) → walk (r ∷ rs) s t ≡ walk (r ∷ rs) z t
    step ih (inl e) =
        let h : l < r.level = subst (λ u. Above l u) (names_eq t r e) a in
        cond-true _ _ _ e ∙ ih (child (s r.level) r) (above_more l r.level _ (omega arith) (ch.2 (s r.level))) ∙ ap (λ b. walk rs z (child b r)) (same r.level h) ∙ sym (cond-true _ _ _ e)
    step ih (inr e) = cond-false _ _ _ e ∙ ih t a ∙ sym (cond-false _ _ _ e)

-- the setting with one fact put
abbrev pub put : Choice → ℕ → Bool → Choice
put s l b = λ m. cond (eqb m l) b (s m)

put_same : (s : Choice) (l : ℕ) (b : Bool) → put s l b l ≡ b
put_same s l b = cond-true _ _ _ (eq-eqb l l refl)

put_other : (s : Choice) (l : ℕ) (b : Bool) (m : ℕ) → l < m → put s l b m ≡ s m
put_other s l b m h = cond-false _ _ _ (ne_eqb m l (λ e. omega arith))

pub child_within : (rs : List Record) → Chain rs → (r : Record) → In r rs → (b : Bool) → Within rs (child b r)
child_within [] ch r m b = absurd m
child_within (q ∷ rs) ch r (inl e) b = within_cons q rs (child b r) (rw (← e) at (ch.1 b))
child_within (q ∷ rs) ch r (inr m) b = within_cons q rs (child b r) (child_within rs ch.3 r m b)

pub child_above : (rs : List Record) → Chain rs → (r : Record) → In r rs → (b : Bool) → Above r.level (child b r)
child_above [] ch r m b = absurd m
child_above (q ∷ rs) ch r (inl e) b = rw (← e) at (ch.2 b)
child_above (q ∷ rs) ch r (inr m) b = child_above rs ch.3 r m b

head_cofactor : (r : Record) (rs : List Record) → Chain (r ∷ rs) → (s : Choice) (b : Bool) → walk (r ∷ rs) (put s r.level b) (node r) ≡ walk (r ∷ rs) s (child b r)
head_cofactor r rs ch s b =
    walk_hit r rs (put s r.level b) ∙
    ap (λ v. walk rs (put s r.level b) (child v r)) (put_same s r.level b) ∙
    agree rs ch.3 r.level (put s r.level b) s (put_other s r.level b) (child b r) (ch.2 b) ∙
    sym (walk_within r rs ch.0 s (child b r) (ch.1 b))

-- with its own fact put, a node has the value of its target
pub cofactor : (rs : List Record) → Chain rs → (r : Record) → In r rs → (s : Choice) (b : Bool) → walk rs (put s r.level b) (node r) ≡ walk rs s (child b r)
cofactor [] ch r m s b = absurd m
cofactor (q ∷ rs) ch r (inl e) s b = subst⁻¹ (λ (x : Record). walk (q ∷ rs) (put s x.level b) (node x) ≡ walk (q ∷ rs) s (child b x)) e (head_cofactor q rs ch s b)
cofactor (q ∷ rs) ch r (inr m) s b =
    walk_within q rs ch.0 (put s r.level b) (node r) (within_node rs r m) ∙
    cofactor rs ch.3 r m s b ∙
    sym (walk_within q rs ch.0 s (child b r) (child_within rs ch.3 r m b))

module _ (xs : List Record) (cx : Chain xs) (ys : List Record) (cy : Chain ys) (r : Record) (m : In r xs) where
  -- a node with the value of something that does not see its fact has the value of each of its targets
  pub drop_fact : (u : Target) → Above r.level u → Same xs (node r) ys u → (b : Bool) → Same xs (child b r) ys u
  drop_fact u a h b s =
      sym (cofactor xs cx r m s b) ∙ h (put s r.level b) ∙ agree ys cy r.level (put s r.level b) s (put_other s r.level b) u a

  -- nodes on one level with one value have targets with one value
  pub cofactors : (q : Record) → In q ys → r.level ≡ q.level → Same xs (node r) ys (node q) → (b : Bool) → Same xs (child b r) ys (child b q)
  cofactors q k e h b s =
      sym (cofactor xs cx r m s b) ∙ h (put s r.level b) ∙ ap (λ l. walk ys (put s l b) (node q)) e ∙ cofactor ys cy q k s b

push : (rs : List Record) (s : Choice) (b : Bool) (x y : Target) → walk rs s (cond b x y) ≡ cond b (walk rs s x) (walk rs s y)
push rs s true x y = refl
push rs s false x y = refl

-- one step of a walk, at the record at place i
pub step_walk : (rs : List Record) (s : Choice) (t t' : Target) (i : ℕ) (d : Record) → i < length rs →
    t' ≡ cond (names t (get_or rs i d)) (child (s (get_or rs i d).level) (get_or rs i d)) t →
    walk (drop (i + 1) rs) s t' ≡ walk (drop i rs) s t
step_walk rs s t t' i d h e =
    ap (walk (drop (i + 1) rs) s) e ∙ push (drop (i + 1) rs) s (names t (get_or rs i d)) (child (s (get_or rs i d).level) (get_or rs i d)) t ∙
    sym (at_drop_more (λ xs. walk xs s t) rs i d h)
