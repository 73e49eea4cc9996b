-- One level settled: its rows mapped, sorted, numbered, and their outcomes written back.
use Rattle.std.proofs.Common.{◌≡◌, ℕ, suc, ◌+◌, ◌-◌, ◌<◌, ◌≤◌, Bool, true, false, cond, ◌≢◌, ◌⊎◌, List, [], ◌∷◌, ◌++◌, map, length, get_or, take, drop, sym, refl, ap, ◌∙◌, subst, ap₂, inl, inr, ⊎_elim, arith, length-append, length-set, get_or-set_other, get_or-set_same, take_at, drop_at}
use mathlib.Core.Path.{subst⁻¹}
use lib.Seq.{map-set_same, take-set-le}
use Rattle.std.specs.List.Sorted.{IsPermutation}
use Rattle.std.specs.List.{ContainsAt, AllByRecursion}
use Rattle.std.proofs.lemmas.List.{get_or-append_right, drop-map}
use Rattle.std.proofs.ByRecursion.{all-has, has_shuffled}
use Rattle.std.proofs.lemmas.List.Sorted.{IsPermutation-sym, length_permutation}
use Rattle.std.proofs.lemmas.Bool.{cases_order, cases_Bool, cond-true, cond-false}
use Rattle.listing.specs.declared.Target.{Target}
use Rattle.listing.specs.declared.Target.TheVariants.{Node, False, True}
use Rattle.listing.specs.declared.Record.{Record}
use Rattle.listing.specs.Members.{In}
use Rattle.listing.specs.Listing.{node, Within}
use Rattle.listing.proofs.Walk.{Chain}
use Rattle.rows.specs.declared.row.Row.{Row}
use Rattle.reduce.specs.Reduction.{Copies, Replaced, Replaces, Reduces, Placed}
use Rattle.listing.specs.Tests.{same_target}
use Rattle.rows.specs.Rows.{zero_row, no_row, entry_of, given}
use Rattle.reduce.specs.Passes.{kept, image_of, move_row, move_rows, fresh, mark, number_rows, outcome, imaged, put_image, write_back}
use Rattle.reduce.specs.Sorts.{Alike, Ascending}
use Rattle.reduce.proofs.Inner.{placed_le}
use Rattle.reduce.proofs.Extend.{Block, block_level, extend}
use Rattle.reduce.proofs.Rowed.{On, same_target_eq, same_target_ne, kept_block, kept_climbs, kept_of, one_number, kept_from, marked_back, marked_forth}

-- membership by place, and by cases
on_has : (x : Row) (xs : List Row) → On x xs → ContainsAt xs x
on_has x [] m = absurd m
on_has x (y ∷ xs) (inl e) = (0, omega arith, λ d. sym e)
on_has x (y ∷ xs) (inr m) = let w = on_has x xs m in (suc w.0, omega (arith, w.1), w.2)

all_on : (xs ys : List Row) → ((x : Row) → On x xs → On x ys) → AllByRecursion (λ x. On x ys) xs
all_on [] ys f = tt
all_on (x ∷ xs) ys f = (f x (inl refl), all_on xs ys (λ y m. f y (inr m)))

has_on : (x : Row) (xs : List Row) → ContainsAt xs x → On x xs
has_on x xs h = all-has (λ y. On y xs) xs x (all_on xs xs (λ y m. m)) h

shuffled_on : (xs ys : List Row) (x : Row) → IsPermutation xs ys → On x xs → On x ys
shuffled_on xs ys x h m = has_on x ys (has_shuffled xs ys x h (on_has x xs m))

-- s is the row of x, moved
pub record Sent (im : Target → Target) (x : Record) (s : Row) : Type 0 where
  pub own : s.own ≡ x.number
  pub low : s.low ≡ im x.low
  pub high : s.high ≡ im x.high
  pub level : s.level ≡ x.level

sent_back : (im : Target → Target) (k : ℕ) (rs : List Row) (s : Row) → On s (move_rows im k rs) → (x : Record) × In x (given k rs) × Sent im x s
sent_back im k [] s m = absurd m
sent_back im k (r ∷ rs) s (inl e) = (
  record { level = r.level; number = k; low = r.low; high = r.high },
  inl refl,
  record { own = ap (λ (y : Row). y.own) e; low = ap (λ (y : Row). y.low) e; high = ap (λ (y : Row). y.high) e; level = ap (λ (y : Row). y.level) e },
)
sent_back im k (r ∷ rs) s (inr m) = let w = sent_back im (k + 1) rs s m in (w.0, inr w.1, w.2)

sent_forth : (im : Target → Target) (k : ℕ) (rs : List Row) (x : Record) → In x (given k rs) → (s : Row) × On s (move_rows im k rs) × Sent im x s
sent_forth im k [] x m = absurd m
sent_forth im k (r ∷ rs) x (inl e) = (
  move_row im k r,
  inl refl,
  record { own = sym (ap (λ (y : Record). y.number) e); low = sym (ap (λ (y : Record). im y.low) e); high = sym (ap (λ (y : Record). im y.high) e); level = sym (ap (λ (y : Record). y.level) e) },
)
sent_forth im k (r ∷ rs) x (inr m) = let w = sent_forth im (k + 1) rs x m in (w.0, inr w.1, w.2)

pub given_placed : (k : ℕ) (rs : List Row) → Placed k (given k rs)
given_placed k [] = tt
given_placed k (r ∷ rs) = (refl, given_placed (k + 1) rs)

placed_one : (k : ℕ) (xs : List Record) → Placed k xs → (x y : Record) → In x xs → In y xs → x.number ≡ y.number → x ≡ y
placed_one k [] h x y m n e = absurd m
placed_one k (z ∷ xs) h x y (inl a) (inl b) e = a ∙ sym b
placed_one k (z ∷ xs) h x y (inl a) (inr n) e = absurd (omega (arith, ap (λ (q : Record). q.number) a, h.0, placed_le (k + 1) xs h.1 y n))
placed_one k (z ∷ xs) h x y (inr m) (inl b) e = absurd (omega (arith, ap (λ (q : Record). q.number) b, h.0, placed_le (k + 1) xs h.1 x m))
placed_one k (z ∷ xs) h x y (inr m) (inr n) e = placed_one (k + 1) xs h.1 x y m n e

pub given_below : (k : ℕ) (rs : List Row) (x : Record) → In x (given k rs) → x.number < k + length rs
given_below k [] x m = absurd m
given_below k (r ∷ rs) x (inl e) = omega (arith, ap (λ (y : Record). y.number) e)
given_below k (r ∷ rs) x (inr m) = omega (arith, given_below (k + 1) rs x m)

-- what is written back
abbrev pub look : List Row → ℕ → Target
look rows p = (get_or rows p no_row).image

put_same : (rows : List Row) (p : ℕ) (t : Target) → p < length rows → look (put_image rows p t) p ≡ t
put_same rows p t h = ap (λ (r : Row). r.image) (get_or-set_same rows p (imaged (get_or rows p no_row) t) no_row h)

put_other : (rows : List Row) (p q : ℕ) (t : Target) → q ≢ p → look (put_image rows p t) q ≡ look rows q
put_other rows p q t h = ap (λ (r : Row). r.image) (get_or-set_other rows p q (imaged (get_or rows p no_row) t) no_row h)

same_or_not : (a b : ℕ) → (a ≡ b) ⊎ (a ≢ b)
same_or_not a b = ⊎_elim (λ e. inl e) (λ h. inr (⊎_elim (λ k e. omega arith) (λ k e. omega arith) h)) (cases_order a b)

write_look : (rows ts : List Row) (p : ℕ) (v : Target) → p < length rows → ((t : Row) → On t ts → t.own ≡ p → outcome t ≡ v) →
    ((t : Row) × On t ts × (t.own ≡ p)) ⊎ (look rows p ≡ v) → look (write_back rows ts) p ≡ v
write_look rows [] p v h f (inl w) = absurd w.1
write_look rows [] p v h f (inr e) = e
write_look rows (t ∷ ts) p v h f w =
    write_look (put_image rows t.own (outcome t)) ts p v (omega (arith, length-set rows t.own (imaged (get_or rows t.own no_row) (outcome t)))) (λ u m. f u (inr m))
    (⊎_elim (λ e. inr (subst (λ q. look (put_image rows q (outcome t)) p ≡ v) (sym e) (put_same rows p (outcome t) h ∙ f t (inl refl) e))) other (same_or_not t.own p))
  where
    other : t.own ≢ p → ((u : Row) × On u ts × (u.own ≡ p)) ⊎ (look (put_image rows t.own (outcome t)) p ≡ v)
    other n =
        ⊎_elim (λ (w : (u : Row) × On u (t ∷ ts) × (u.own ≡ p)). ⊎_elim (λ e. absurd (n (sym (ap (λ (y : Row). y.own) e) ∙ w.2))) (λ m. inl (w.0, m, w.2)) w.1)
        (λ e. inr (put_other rows t.own p (outcome t) (λ g. n (sym g)) ∙ e)) w

write_apart : (rows ts : List Row) (p : ℕ) → ((t : Row) → On t ts → t.own ≢ p) → look (write_back rows ts) p ≡ look rows p
write_apart rows [] p f = refl
write_apart rows (t ∷ ts) p f =
    write_apart (put_image rows t.own (outcome t)) ts p (λ u m. f u (inr m)) ∙ put_other rows t.own p (outcome t) (λ g. f t (inl refl) (sym g))

write_front : (rows ts : List Row) (n : ℕ) → ((t : Row) → On t ts → n ≤ t.own) → take n (write_back rows ts) ≡ take n rows
write_front rows [] n f = refl
write_front rows (t ∷ ts) n f =
    write_front (put_image rows t.own (outcome t)) ts n (λ u m. f u (inr m)) ∙ take-set-le n rows t.own (imaged (get_or rows t.own no_row) (outcome t)) (f t (inl refl))

-- a row without its image
abbrev bare : Row → Row
bare r = imaged r False

write_bare : (rows ts : List Row) → map bare (write_back rows ts) ≡ map bare rows
write_bare rows [] = refl
write_bare rows (t ∷ ts) =
    write_bare (put_image rows t.own (outcome t)) ts ∙ map-set_same bare rows t.own (imaged (get_or rows t.own no_row) (outcome t)) no_row refl

kept_bare : (rs : List Row) → kept (map bare rs) ≡ kept rs
kept_bare [] = refl
kept_bare (r ∷ rs) = ap (λ (v : List Record). cond r.first (entry_of r ∷ v) v) (kept_bare rs)

kept_write : (rows ts : List Row) (n : ℕ) → kept (drop n (write_back rows ts)) ≡ kept (drop n rows)
kept_write rows ts n =
    sym (kept_bare (drop n (write_back rows ts))) ∙ ap kept (sym (drop-map bare n (write_back rows ts)) ∙ ap (drop n) (write_bare rows ts) ∙ drop-map bare n rows) ∙ kept_bare (drop n rows)

kept_append : (xs ys : List Row) → kept (xs ++ ys) ≡ kept xs ++ kept ys
kept_append [] ys = refl
kept_append (x ∷ xs) ys = by x.first (kept_append xs ys)
  where
    by : (b : Bool) → kept (xs ++ ys) ≡ kept xs ++ kept ys → cond b (entry_of x ∷ kept (xs ++ ys)) (kept (xs ++ ys)) ≡ cond b (entry_of x ∷ kept xs) (kept xs) ++ kept ys
    by true e = ap (λ (v : List Record). entry_of x ∷ v) e
    by false e = e

pub given_append : (k n : ℕ) (xs ys : List Row) → k + length xs ≡ n → given k (xs ++ ys) ≡ given k xs ++ given n ys
given_append k n [] ys e = ap (λ m. given m ys) (let z : k ≡ n = omega arith in z)
given_append k n (x ∷ xs) ys e = ap (λ (v : List Record). record { level = x.level; number = k; low = x.low; high = x.high } ∷ v) (given_append (k + 1) n xs ys (omega arith))

pub number_length : (p : Row) (j k : ℕ) (rs : List Row) → length (number_rows p j k rs) ≡ length rs
number_length p j k [] = refl
number_length p j k (r ∷ rs) = by (fresh p r) (number_length r k (k + 1) rs) (number_length r j k rs)
  where
    by : (b : Bool) → length (number_rows r k (k + 1) rs) ≡ length rs → length (number_rows r j k rs) ≡ length rs → length (cond b (mark r true k ∷ number_rows r k (k + 1) rs) (mark r false j ∷ number_rows r j k rs)) ≡ suc (length rs)
    by true e f = ap suc e
    by false e f = ap suc f

pub move_length : (im : Target → Target) (k : ℕ) (rs : List Row) → length (move_rows im k rs) ≡ length rs
move_length im k [] = refl
move_length im k (r ∷ rs) = ap suc (move_length im (k + 1) rs)

pub own_below : (a : ℕ) (im : Target → Target) (B S : List Row) → IsPermutation (move_rows im a B) S → (t : Row) → On t (number_rows zero_row 0 0 S) → t.own < a + length B
own_below a im B S sh t m =
    let v = marked_back zero_row 0 0 S t m in
    let w = sent_back im a B v.0 (shuffled_on S (move_rows im a B) v.0 (IsPermutation-sym (move_rows im a B) S sh) v.1) in
    omega (arith, v.2.own, w.2.own, given_below a B w.0 w.1)

-- ---- a level's rows

module _ (l a : ℕ) (im im' : Target → Target) (B S : List Row) (sh : IsPermutation (move_rows im a B) S) (up : Ascending S) (lev : (x : Record) → In x (given a B) → x.level ≡ l) where
  abbrev N : List Row
  N = number_rows zero_row 0 0 S

  sorted_back : (s : Row) → On s S → (x : Record) × In x (given a B) × Sent im x s
  sorted_back s m = sent_back im a B s (shuffled_on S (move_rows im a B) s (IsPermutation-sym (move_rows im a B) S sh) m)

  pub numbered_back : (t : Row) → On t N → (x : Record) × In x (given a B) × Sent im x t
  numbered_back t m =
      let v = marked_back zero_row 0 0 S t m in
      let w = sorted_back v.0 v.1 in (
        w.0,
        w.1,
        record { own = v.2.own ∙ w.2.own; low = v.2.low ∙ w.2.low; high = v.2.high ∙ w.2.high; level = v.2.level ∙ w.2.level },
      )

  numbered_forth : (x : Record) → In x (given a B) → (t : Row) × On t N × Sent im x t
  numbered_forth x m =
      let u = sent_forth im a B x m in
      let v = marked_forth zero_row 0 0 S u.0 (shuffled_on (move_rows im a B) S u.0 sh u.1) in (
        v.0,
        v.1,
        record { own = v.2.own ∙ u.2.own; low = v.2.low ∙ u.2.low; high = v.2.high ∙ u.2.high; level = v.2.level ∙ u.2.level },
      )

  level_of : (t : Row) → On t N → t.level ≡ l
  level_of t m = let w = numbered_back t m in w.2.level ∙ lev w.0 w.1

  -- rows that stood at one place have one outcome
  one_outcome : (t u : Row) → On t N → On u N → t.own ≡ u.own → outcome t ≡ outcome u
  one_outcome t u m n e = by (cases_Bool (same_target t.low t.high))
    where
      v : (x : Record) × In x (given a B) × Sent im x t
      v = numbered_back t m

      w : (x : Record) × In x (given a B) × Sent im x u
      w = numbered_back u n

      x_same : v.0 ≡ w.0
      x_same = placed_one a (given a B) (given_placed a B) v.0 w.0 v.1 w.1 (sym v.2.own ∙ e ∙ w.2.own)

      alike : Alike t u
      alike = (v.2.low ∙ ap (λ (x : Record). im x.low) x_same ∙ sym w.2.low, v.2.high ∙ ap (λ (x : Record). im x.high) x_same ∙ sym w.2.high)

      also : same_target t.low t.high ≡ same_target u.low u.high
      also = ap₂ same_target alike.0 alike.1

      by : (same_target t.low t.high ≡ true) ⊎ (same_target t.low t.high ≡ false) → outcome t ≡ outcome u
      by (inl f) = cond-true _ _ _ f ∙ alike.0 ∙ sym (cond-true _ _ _ (sym also ∙ f))
      by (inr f) =
          cond-false _ _ _ f ∙
          ap₂ Node (level_of t m ∙ sym (level_of u n)) (one_number S up t u m n (same_target_ne t.low t.high f) alike) ∙
          sym (cond-false _ _ _ (sym also ∙ f))

  module _ (wrote : (t : Row) → On t N → im' (Node l t.own) ≡ outcome t) (low : (x : Record) → In x (given a B) → im' x.low ≡ im x.low) (high : (x : Record) → In x (given a B) → im' x.high ≡ im x.high) where
    image_is : (x : Record) → In x (given a B) → (t : Row) → On t N → Sent im x t → im' (node x) ≡ outcome t
    image_is x m t n h = ap im' (ap₂ Node (lev x m) (sym h.own)) ∙ wrote t n

    copies : (x : Record) → In x (given a B) → (t : Row) → On t N → Sent im x t → (c : Record) → In c (kept N) → c.low ≡ t.low → c.high ≡ t.high → Copies im' x c
    copies x m t n h c k e f =
        record {
          level = block_level l 0 (kept N) (kept_block l zero_row 0 0 S (λ s o. let w = sorted_back s o in w.2.level ∙ lev w.0 w.1)) c k ∙ sym (lev x m);
          low = e ∙ h.low ∙ sym (low x m);
          high = f ∙ h.high ∙ sym (high x m);
        }

    level_block : Block l 0 (kept N)
    level_block = kept_block l zero_row 0 0 S (λ s o. let w = sorted_back s o in w.2.level ∙ lev w.0 w.1)

    level_replaced : (x : Record) → In x (given a B) → Replaced im' (kept N) x
    level_replaced x m = by (cases_Bool (same_target t.low t.high))
      where
        w : (t : Row) × On t N × Sent im x t
        w = numbered_forth x m

        t : Row
        t = w.0

        by : (same_target w.0.low w.0.high ≡ true) ⊎ (same_target w.0.low w.0.high ≡ false) → Replaced im' (kept N) x
        by (inl f) =
            inl (
              low x m ∙ sym w.2.low ∙ same_target_eq w.0.low w.0.high f ∙ w.2.high ∙ sym (high x m),
              image_is x m w.0 w.1 w.2 ∙ cond-true _ _ _ f ∙ w.2.low ∙ sym (low x m),
            )
        by (inr f) =
            let k = kept_of S w.0 w.1 (same_target_ne w.0.low w.0.high f) in
            inr (
              k.0,
              k.1,
              image_is x m w.0 w.1 w.2 ∙ cond-false _ _ _ f ∙
                  ap₂ Node (level_of w.0 w.1 ∙ sym (block_level l 0 (kept N) level_block k.0 k.1)) (sym k.4),
              copies x m w.0 w.1 w.2 k.0 k.1 k.2 k.3,
            )

    level_replaces : (c : Record) → In c (kept N) → Replaces im' (given a B) c
    level_replaces c k =
        let w = kept_from zero_row 0 0 S c k in
        let v = numbered_back w.0 w.1 in
        let ne : same_target w.0.low w.0.high ≡ false = ⊎_elim (λ f. absurd (w.3 (same_target_eq w.0.low w.0.high f))) (λ f. f) (cases_Bool (same_target w.0.low w.0.high)) in (
          v.0,
          v.1,
          image_is v.0 v.1 w.0 w.1 v.2 ∙ cond-false _ _ _ ne ∙ ap node (sym w.2),
          copies v.0 v.1 w.0 w.1 v.2 c k (ap (λ (y : Record). y.low) w.2) (ap (λ (y : Record). y.high) w.2),
          λ e. w.3 (sym (ap (λ (y : Record). y.low) w.2) ∙ e ∙ ap (λ (y : Record). y.high) w.2),
        )

-- ---- the step: R is F ++ (B ++ D), and the rows at entry were F ++ (B ++ D0)

over_number : (b : ℕ) (D0 : List Row) (m k : ℕ) → Within (given b D0) (Node m k) → b ≤ k
over_number b D0 m k o = omega (arith, placed_le b (given b D0) (given_placed b D0) o.0 o.1, ap number_of o.2)
  where
    number_of : Target → ℕ
    number_of (Node x y) = y
    number_of False = 0
    number_of True = 0

module _ (l a b : ℕ) (F B D D0 S : List Row) (la : length F ≡ a) (lb : a + length B ≡ b) (im : Target → Target) (im_is : im ≡ image_of (F ++ (B ++ D)))
    (sh : IsPermutation (move_rows im a B) S) (up : Ascending S) (lev : (x : Record) → In x (given a B) → x.level ≡ l)
    (cx : Chain (given b D0)) (high : (x : Record) → In x (given b D0) → l < x.level)
    (lows : (x : Record) → In x (given a B) → Within (given b D0) x.low) (highs : (x : Record) → In x (given a B) → Within (given b D0) x.high) where
  abbrev M : List Row
  M = number_rows zero_row 0 0 S

  abbrev Q : List Row
  Q = F ++ (M ++ D)

  abbrev Q' : List Row
  Q' = write_back Q M

  length_M : length M ≡ length B
  length_M = number_length zero_row 0 0 S ∙ length_permutation (move_rows im a B) S sh ∙ move_length im a B

  own_from : (t : Row) → On t M → (a ≤ t.own) × (t.own < b)
  own_from t m =
      let w = numbered_back l a im im B S sh up lev t m in
      (omega (arith, w.2.own, placed_le a (given a B) (given_placed a B) w.0 w.1), omega (arith, w.2.own, given_below a B w.0 w.1))

  beyond : (T U : List Row) (p : ℕ) → length T ≡ length U → a + length T ≤ p → get_or (F ++ (T ++ D)) p no_row ≡ get_or (F ++ (U ++ D)) p no_row
  beyond T U p e h =
      get_or-append_right F (T ++ D) a p no_row la (omega arith) ∙
      get_or-append_right T D (length T) (p - a) no_row refl (omega arith) ∙
      ap (λ n. get_or D (p - a - n) no_row) e ∙
      sym (get_or-append_right U D (length U) (p - a) no_row refl (omega arith)) ∙
      sym (get_or-append_right F (U ++ D) a p no_row la (omega arith))

  same_at : (p : ℕ) → b ≤ p → look Q' p ≡ look (F ++ (B ++ D)) p
  same_at p h =
      write_apart Q M p (λ t m e. omega (arith, (own_from t m).1)) ∙ ap (λ (r : Row). r.image) (beyond M B p length_M (omega (arith, length_M)))

  same : (t : Target) → Within (given b D0) t → image_of Q' t ≡ im t
  same (Node m k) o = same_at k (over_number b D0 m k o) ∙ ap (λ (f : Target → Target). f (Node m k)) (sym im_is)
  same False o = ap (λ (f : Target → Target). f False) (sym im_is)
  same True o = ap (λ (f : Target → Target). f True) (sym im_is)

  wrote : (t : Row) → On t M → image_of Q' (Node l t.own) ≡ outcome t
  wrote t m =
      write_look Q M t.own (outcome t)
      (omega (arith, (own_from t m).1, length-append F (M ++ D), length-append M D, length_M))
      (λ u n e. one_outcome l a im im B S sh up lev u t n m e) (inl (t, m, refl))

  kept_is : kept (drop a Q') ≡ kept M ++ kept D
  kept_is = kept_write Q M a ∙ ap kept (drop_at F (M ++ D) a la) ∙ kept_append M D

  pub front_is : take a Q' ≡ F
  front_is = write_front Q M a (λ t m. (own_from t m).0) ∙ take_at F (M ++ D) a la

  pub settled : Reduces (given b D0) (kept D) im → Reduces (given a (B ++ D0)) (kept (drop a Q')) (image_of Q')
  settled red =
      subst⁻¹ (λ (v : List Record). Reduces v (kept (drop a Q')) (image_of Q')) (given_append a b B D0 lb)
      (subst⁻¹ (λ (v : List Record). Reduces (given a B ++ given b D0) v (image_of Q')) kept_is
      (extend (given b D0) (kept D) cx im (image_of Q') same red l high refl refl (given a B) (kept M)
      (level_block l a im (image_of Q') B S sh up lev wrote (λ x m. same x.low (lows x m)) (λ x m. same x.high (highs x m)))
      (kept_climbs S up)
      (level_replaced l a im (image_of Q') B S sh up lev wrote (λ x m. same x.low (lows x m)) (λ x m. same x.high (highs x m)))
      (level_replaces l a im (image_of Q') B S sh up lev wrote (λ x m. same x.low (lows x m)) (λ x m. same x.high (highs x m)))))
