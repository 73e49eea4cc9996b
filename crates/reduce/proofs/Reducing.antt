-- The levels, one after another.
use Rattle.std.proofs.Common.{◌≡◌, ℕ, zero, suc, ◌+◌, ◌-◌, ◌<◌, ◌≤◌, true, false, List, [], ◌∷◌, ◌++◌, length, get_or, take, drop, sym, refl, ap, ◌∙◌, subst, ap₂, inl, inr, ⊎_elim, append_assoc, arith, length-drop, take-append-drop, length-take, get_or-take}
use mathlib.Core.Path.{subst⁻¹}
use Rattle.std.specs.List.Sorted.{IsPermutation}
use Rattle.std.proofs.lemmas.List.{take-take, drop-drop}
use Rattle.std.proofs.lemmas.Slice.{between_is}
use Rattle.std.proofs.lemmas.List.Edits.{get_or-between}
use Rattle.listing.specs.declared.Target.{Target}
use Rattle.listing.specs.declared.Target.TheVariants.{Node, False, True}
use Rattle.listing.specs.declared.Record.{Record}
use Rattle.listing.specs.Members.{In}
use Rattle.listing.specs.Listing.{Within, Above}
use Rattle.listing.proofs.Walk.{Chain}
use Rattle.rows.specs.declared.row.Row.{Row}
use Rattle.reduce.specs.Reduction.{Reduces, Rowing, Placed, Monotone}
use Rattle.reduce.specs.Contract.{Normalizes}
use Rattle.rows.specs.Rows.{zero_row, no_row, given, Inside, AllInside}
use Rattle.reduce.specs.Passes.{kept, image_of, move_rows, number_rows, write_back}
use Rattle.reduce.specs.Settles.{part, Settled}
use Rattle.reduce.specs.Levels.{Starts}
use Rattle.reduce.proofs.Inner.{inner_rows, placed_le, onward_all, onward_tail}
use Rattle.reduce.proofs.Extend.{in_left, in_right, in_split}
use Rattle.reduce.proofs.Meets.{normalizes}
use Rattle.reduce.proofs.Level.{given_append, given_below, settled, front_is}

pub record Reducing (R : List Row) (b : ℕ) (xs : List Row) : Type 0 where
  pub front : take b xs ≡ take b R
  pub reduced : Reduces (given b (drop b R)) (kept (drop b xs)) (image_of xs)
  pub cut : (x y : Record) → In x (given 0 (take b R)) → In y (given b (drop b R)) → x.level < y.level

-- ---- the records of rows

given_level : (k : ℕ) (rs : List Row) (x : Record) → In x (given k rs) → (i : ℕ) × (i < length rs) × (x.number ≡ k + i) × (x.level ≡ (get_or rs i no_row).level)
given_level k [] x m = absurd m
given_level k (r ∷ rs) x (inl e) = (0, omega arith, omega (arith, ap (λ (y : Record). y.number) e), ap (λ (y : Record). y.level) e)
given_level k (r ∷ rs) x (inr m) = let w = given_level (k + 1) rs x m in (suc w.0, omega (arith, w.1), omega (arith, w.2), w.3)

given_in : (k : ℕ) (rs : List Row) (i : ℕ) → i < length rs → (x : Record) × In x (given k rs) × (x.number ≡ k + i) × (x.level ≡ (get_or rs i no_row).level)
given_in k [] i h = absurd (omega arith)
given_in k (r ∷ rs) zero h = (record { level = r.level; number = k; low = r.low; high = r.high }, inl refl, omega arith, refl)
given_in k (r ∷ rs) (suc i) h = let w = given_in (k + 1) rs i (omega arith) in (w.0, inr w.1, omega (arith, w.2), w.3)

mono : (k : ℕ) (xs : List Record) → Placed k xs → Monotone xs → (u v : Record) → In u xs → In v xs → u.number ≤ v.number → u.level ≤ v.level
mono k [] p l u v m n h = absurd m
mono k (x ∷ xs) p l u v (inl e) (inl f) h = omega (arith, ap (λ (y : Record). y.level) (e ∙ sym f))
mono k (x ∷ xs) p l u v (inl e) (inr n) h = omega (arith, ap (λ (y : Record). y.level) e, onward_all x xs l v n)
mono k (x ∷ xs) p l u v (inr m) (inl f) h = absurd (omega (arith, ap (λ (y : Record). y.number) f, p.0, placed_le (k + 1) xs p.1 u m))
mono k (x ∷ xs) p l u v (inr m) (inr n) h = mono (k + 1) xs p.1 (onward_tail x xs l) u v m n h

chain_tail : (us vs : List Record) → Chain (us ++ vs) → Chain vs
chain_tail [] vs c = c
chain_tail (u ∷ us) vs c = chain_tail us vs c.3

-- a target above level l is over the records that follow those up to l
trim_all : (us vs : List Record) (l : ℕ) → ((u : Record) → In u us → u.level ≤ l) → (t : Target) → Within (us ++ vs) t → Above l t → Within vs t
trim_all us vs l h (Node m k) o a =
    (o.0, ⊎_elim (λ n. absurd (let z : l < o.0.level = subst⁻¹ (λ t. Above l t) o.2 a in omega (arith, h o.0 n))) (λ n. n) (in_split us vs o.0 o.1), o.2)
trim_all us vs l h False o a = tt
trim_all us vs l h True o a = tt

all_inside : (n k : ℕ) (rs : List Row) → ((x : Record) → In x (given k rs) → Inside n x.low × Inside n x.high) → AllInside n rs
all_inside n k [] h = tt
all_inside n k (r ∷ rs) h = (h (record { level = r.level; number = k; low = r.low; high = r.high }) (inl refl), all_inside n (k + 1) rs (λ x m. h x (inr m)))

over_inside : (R : List Row) (t : Target) → Within (given 0 R) t → Inside (length R) t
over_inside R (Node m k) o = omega (arith, given_below 0 R o.0 o.1, ap num o.2)
  where
    num : Target → ℕ
    num (Node x y) = y
    num False = 0
    num True = 0
over_inside R False o = tt
over_inside R True o = tt

-- ---- parts of rows

pub take_part : (R : List Row) (a b : ℕ) → a ≤ b → take b R ≡ take a R ++ part a b R
take_part R a b h = sym (take-append-drop a (take b R)) ∙ ap₂ (λ (u v : List Row). u ++ v) (take-take a b R h) (sym (between_is R a b))

drop_part : (R : List Row) (a b : ℕ) → a ≤ b → drop a R ≡ part a b R ++ drop b R
drop_part R a b h =
    sym (take-append-drop (b - a) (drop a R)) ∙ ap (λ (v : List Row). part a b R ++ v) (drop-drop (b - a) a R ∙ ap (λ n. drop n R) (let z : a + (b - a) ≡ b = omega arith in z))

module _ (R xs : List Row) (n : ℕ) (root : Target) (g : Rowing n root (given 0 R)) (len : length xs ≡ length R) (a b : ℕ) (bn : b ≤ length R) (inv : Reducing R b xs) (st : Starts xs a b) where
  ab : a ≤ b
  ab = let z = st.below in omega arith

  same_at : (i : ℕ) → i < b → get_or xs i no_row ≡ get_or R i no_row
  same_at i h = sym (get_or-take b xs i no_row h) ∙ ap (λ (v : List Row). get_or v i no_row) inv.front ∙ get_or-take b R i no_row h

  part_same : part a b xs ≡ part a b R
  part_same = between_is xs a b ∙ ap (drop a) inv.front ∙ sym (between_is R a b)

  front_same : take a xs ≡ take a R
  front_same = sym (take-take a b xs ab) ∙ ap (take a) inv.front ∙ take-take a b R ab

  xs_is : xs ≡ take a R ++ (part a b R ++ drop b xs)
  xs_is =
      sym (take-append-drop b xs) ∙ ap (λ (v : List Row). v ++ drop b xs) (inv.front ∙ take_part R a b ab) ∙ append_assoc (take a R) (part a b R) (drop b xs)

  whole : given 0 R ≡ given 0 (take b R) ++ given b (drop b R)
  whole = ap (given 0) (sym (take-append-drop b R)) ∙ given_append 0 b (take b R) (drop b R) (simp length-take (omega arith))

  front_in : (x : Record) → In x (given 0 (take b R)) → In x (given 0 R)
  front_in x m = subst⁻¹ (λ (v : List Record). In x v) whole (in_left (given 0 (take b R)) (given b (drop b R)) x m)

  split_front : given 0 (take b R) ≡ given 0 (take a R) ++ given a (part a b R)
  split_front = ap (given 0) (take_part R a b ab) ∙ given_append 0 a (take a R) (part a b R) (let z = st.below in simp length-take (omega arith))

  block_in : (x : Record) → In x (given a (part a b R)) → In x (given 0 (take b R))
  block_in x m = subst⁻¹ (λ (v : List Record). In x v) split_front (in_right (given 0 (take a R)) (given a (part a b R)) x m)

  early_in : (x : Record) → In x (given 0 (take a R)) → In x (given 0 (take b R))
  early_in x m = subst⁻¹ (λ (v : List Record). In x v) split_front (in_left (given 0 (take a R)) (given a (part a b R)) x m)

  abbrev lv : ℕ
  lv = (get_or xs (b - 1) no_row).level

  lev : (x : Record) → In x (given a (part a b R)) → x.level ≡ lv
  lev x m =
      let w = given_level a (part a b R) x m in
      let l : w.0 < b - a = omega (arith, w.1, length-take (b - a) (drop a R)) in
      w.3 ∙ ap (λ (r : Row). r.level) (get_or-between R a b w.0 no_row (omega arith) ∙ sym (same_at (a + w.0) (omega arith))) ∙ st.one (a + w.0) (omega arith) (omega arith)

  -- the last row of the level
  last : (x : Record) × In x (given 0 (take b R)) × (x.number ≡ b - 1) × (x.level ≡ lv)
  last =
      let z = st.below in
      let w = given_in 0 (take b R) (b - 1) (simp length-take (omega arith)) in
      (w.0, w.1, omega (arith, w.2), w.3 ∙ ap (λ (r : Row). r.level) (get_or-take b R (b - 1) no_row (omega arith) ∙ sym (same_at (b - 1) (omega arith))))

  number_below : (x : Record) → In x (given 0 (take b R)) → x.number < b
  number_below x m = omega (arith, given_below 0 (take b R) x m, length-take b R)

  up_to : (x : Record) → In x (given 0 (take b R)) → x.level ≤ lv
  up_to x m =
      let w = last in
      let k = mono 0 (given 0 R) g.placed g.monotone x w.0 (front_in x m) (front_in w.0 w.1) (omega (arith, number_below x m, w.2)) in
      omega (arith, k, w.3)

  high : (x : Record) → In x (given b (drop b R)) → lv < x.level
  high x m = let w = last in omega (arith, inv.cut w.0 x w.1 m, w.3)

  cx : Chain (given b (drop b R))
  cx = chain_tail (given 0 (take b R)) (given b (drop b R)) (subst (λ (v : List Record). Chain v) whole (inner_rows n root (given 0 R) g).chained)

  onto : (t : Target) → Within (given 0 R) t → Above lv t → Within (given b (drop b R)) t
  onto t o k = trim_all (given 0 (take b R)) (given b (drop b R)) lv up_to t (subst (λ (v : List Record). Within v t) whole o) k

  lows : (x : Record) → In x (given a (part a b R)) → Within (given b (drop b R)) x.low
  lows x m = let w = g.targeted x (front_in x (block_in x m)) false in onto x.low w.0 (subst (λ l. Above l x.low) (lev x m) w.1)

  highs : (x : Record) → In x (given a (part a b R)) → Within (given b (drop b R)) x.high
  highs x m = let w = g.targeted x (front_in x (block_in x m)) true in onto x.high w.0 (subst (λ l. Above l x.high) (lev x m) w.1)

  pub reducing_inside : AllInside (length xs) (part a b xs)
  reducing_inside =
      subst⁻¹ (λ k. AllInside k (part a b xs)) len
      (subst⁻¹ (λ (v : List Row). AllInside (length R) v) part_same
      (all_inside (length R) a (part a b R)
      (λ x m.
      (over_inside R x.low (g.targeted x (front_in x (block_in x m)) false).0, over_inside R x.high (g.targeted x (front_in x (block_in x m)) true).0))))

  -- the record before the level is on a lower one, and so is every record that is no later than it
  below_last : (x q : Record) → In x (given 0 (take a R)) → In q (given 0 (take b R)) → x.number ≤ q.number → q.level ≡ (get_or xs (a - 1) no_row).level → 0 < a → x.level < lv
  below_last x q m j i e z =
      let k = mono 0 (given 0 R) g.placed g.monotone x q (front_in x (early_in x m)) (front_in q j) i in
      let f : q.level ≡ lv → ⊥ = λ d. st.other z (sym e ∙ d) in
      omega (arith, k, f, up_to q j)

  below_level : (x : Record) → In x (given 0 (take a R)) → x.level < lv
  below_level x m =
      let i : x.number < a = omega (arith, given_below 0 (take a R) x m, length-take a R) in
      let z = st.below in
      let w = given_in 0 (take b R) (a - 1) (simp length-take (omega arith)) in
      below_last x w.0 m w.1 (omega (arith, i, w.2)) (last_level w.0 w.3) (omega arith)
    where
      last_level : (q : Record) → q.level ≡ (get_or (take b R) (a - 1) no_row).level → q.level ≡ (get_or xs (a - 1) no_row).level
      last_level q e =
          let z = st.below in
          e ∙ ap (λ (r : Row). r.level) (get_or-take b R (a - 1) no_row (omega arith) ∙ sym (same_at (a - 1) (omega arith)))

  pub reducing_again : (after : List Row) → Settled a b xs after → Reducing R a after
  reducing_again after h =
      let sh : IsPermutation (move_rows (image_of xs) a (part a b R)) h.sorted = subst (λ (v : List Row). IsPermutation (move_rows (image_of xs) a v) h.sorted) part_same h.shuffled in
      let la : length (take a R) ≡ a = let z = st.below in simp length-take (omega arith) in
      let lb : a + length (part a b R) ≡ b = let z = st.below in simp (length-take, length-drop) (omega arith) in
      let e : after ≡ write_back (take a R ++ (number_rows zero_row 0 0 h.sorted ++ drop b xs)) (number_rows zero_row 0 0 h.sorted) =
      h.is ∙ ap (λ (v : List Row). write_back (v ++ (number_rows zero_row 0 0 h.sorted ++ drop b xs)) (number_rows zero_row 0 0 h.sorted)) front_same in
      record {
        front = ap (take a) e ∙ front_is lv a b (take a R) (part a b R) (drop b xs) (drop b R) h.sorted la lb (image_of xs) (ap image_of xs_is) sh h.ascends lev cx high lows highs;
        reduced =
            subst⁻¹ (λ (v : List Row). Reduces (given a v) (kept (drop a after)) (image_of after)) (drop_part R a b ab)
            (subst⁻¹ (λ (v : List Row). Reduces (given a (part a b R ++ drop b R)) (kept (drop a v)) (image_of v)) e
            (settled lv a b (take a R) (part a b R) (drop b xs) (drop b R) h.sorted la lb (image_of xs) (ap image_of xs_is) sh h.ascends lev cx high lows highs inv.reduced));
        cut = λ x y m k.
            ⊎_elim (λ j. let p = below_level x m in omega (arith, p, lev y j)) (λ j. inv.cut x y (early_in x m) j)
            (in_split (given a (part a b R)) (given b (drop b R)) y
            (subst (λ (v : List Record). In y v) (ap (given a) (drop_part R a b ab) ∙ given_append a b (part a b R) (drop b R) lb) k));
      }

none : (im : Target → Target) → im False ≡ False → im True ≡ True → Reduces [] [] im
none im f t = record { at_false = f; at_true = t; numbered = tt; sorted = tt; all_replaced = λ r m. absurd m; all_replace = λ c m. absurd m }

root_image : (R xs : List Row) (root : Target) (n : ℕ) → 0 < length R → Rowing n root (given 0 R) → image_of xs root ≡ (get_or xs 0 no_row).image
root_image [] xs root n h g = absurd (omega arith)
root_image (r ∷ R) xs root n h g = ap (image_of xs) g.rooted

pub reducing_all : (R xs : List Row) → 0 < length R → Reducing R 0 xs → (n : ℕ) (root : Target) → Rowing n root (given 0 R) → Normalizes n root (given 0 R) (get_or xs 0 no_row).image (kept xs)
reducing_all R xs h inv n root g =
    subst (λ t. Normalizes n root (given 0 R) t (kept xs)) (root_image R xs root n h g)
    (normalizes n root (given 0 R) (inner_rows n root (given 0 R) g) (kept xs) (image_of xs) inv.reduced)
