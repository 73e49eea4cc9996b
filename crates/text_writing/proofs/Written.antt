-- What a step of the writers does to the specification.
use Rattle.std.proofs.Common.{◌≡◌, ℕ, zero, suc, ◌+◌, ◌-◌, ◌*◌, ◌/◌, ◌%◌, ◌<◌, ◌≤◌, List, [], ◌∷◌, ◌++◌, length, take, drop, get_or, set, add-zero, sym, refl, ap, ◌∙◌, ap₂, append-nil, append_assoc, add-one, arith, length-append, length-drop}
use borrow.Rule.Slice.PartMut.{put_mid, post_of}
use Rattle.std.specs.List.{flat_map}
use Rattle.std.proofs.lemmas.List.{drop-set, drop_all, drop-drop, drop_at, take_at, set_split, length-take-le, length_push, flat_map_more, take_more, take_all, get_or-drop}
use Rattle.listing.specs.declared.Target.{Target}
use Rattle.listing.specs.declared.Record.{Record}
use Rattle.text_writing.specs.Writing.{lead, leading, padded, pair, header, columns, line, written}

-- the last digit is written
pub last_digit : (xs : List ℕ) (last v : ℕ) → length xs ≡ last + 1 → padded (last + 1) v ≡ leading last (v / 10) ++ drop last (set xs last (48 + v % 10))
unfolding padded
last_digit xs last v h =
    let e : last + 1 ≡ suc last = omega arith in
    let d : last < length xs = omega arith in
    ap (λ j. padded j v) e ∙ ap (λ ys. leading last (v / 10) ++ ys) (sym (drop-set xs last (48 + v % 10) d ∙ ap (λ ys. (48 + v % 10) ∷ ys) (drop_all (last + 1) xs (omega arith))))

-- one more byte to the left is written
pub one_digit : (xs : List ℕ) (i j v x : ℕ) → j ≡ i + 1 → i < length xs → x ≡ lead v → leading j v ++ drop j xs ≡ leading i (v / 10) ++ drop i (set xs i x)
unfolding leading
one_digit xs i j v x e h f =
    let s : j ≡ suc i = omega arith in
    ap (λ k. leading k v ++ drop j xs) s ∙ append_assoc (leading i (v / 10)) (lead v ∷ []) (drop j xs) ∙
    ap (λ ys. leading i (v / 10) ++ ys) (ap₂ (λ y k. y ∷ drop k xs) (sym f) e ∙ sym (drop-set xs i x h))

pub no_digit_left : (xs : List ℕ) (i v : ℕ) → i ≡ 0 → leading i v ++ drop i xs ≡ xs
unfolding leading
no_digit_left xs i v e = ap (λ k. leading k v ++ drop k xs) e

-- how long each piece is
length_leading : (w v : ℕ) → length (leading w v) ≡ w
unfolding leading
length_leading zero v = refl
length_leading (suc w) v = length_push (leading w (v / 10)) (lead v) ∙ ap (λ k. k + 1) (length_leading w (v / 10)) ∙ add-one w

pub length_padded : (w v : ℕ) → length (padded w v) ≡ w
unfolding padded
length_padded zero v = refl
length_padded (suc w) v = length_push (leading w (v / 10)) (48 + v % 10) ∙ ap (λ k. k + 1) (length_leading w (v / 10)) ∙ add-one w

pub length_pair : (a b : ℕ) → length (pair a b) ≡ 10
unfolding pair
length_pair a b = length-append (padded 4 a) (padded 6 b) ∙ ap₂ ◌+◌ (length_padded 4 a) (length_padded 6 b)

pub length_header : (n m : ℕ) (t : Target) → length (header n m t) ≡ 21
unfolding header
length_header n m t = simp (length-append, length_pair)

pub length_line : (n : ℕ) (r : Record) → length (line n r) ≡ 31
unfolding columns
length_line n r = simp (length-append, length_pair)

pub length_joined : (n : ℕ) (rs : List Record) → length (flat_map (line n) rs) ≡ 31 * length rs
length_joined n [] = refl
length_joined n (r ∷ rs) = omega (arith, length-append (line n r) (flat_map (line n) rs), length_line n r, length_joined n rs)

-- `q` is written behind `p`, which stands in front
step : (p q a : List ℕ) (i w j : ℕ) → length p ≡ i → i + w ≡ j → put_mid i w (p ++ drop i a) q ≡ (p ++ q) ++ drop j a
step p q a i w j h e =
    ap₂ (λ xs ys. xs ++ (q ++ drop w ys)) (take_at p (drop i a) i h) (drop_at p (drop i a) i h) ∙
    ap (λ ys. p ++ (q ++ ys)) (drop-drop w i a ∙ ap (λ k. drop k a) e) ∙ sym (append_assoc p q (drop j a))

-- the last byte
feed : (p a : List ℕ) (i : ℕ) → length p ≡ i → length a ≡ i + 1 → set (p ++ drop i a) i 10 ≡ p ++ (10 ∷ [])
feed p a i h l =
    let m : length (p ++ drop i a) ≡ i + 1 = omega (arith, length-append p (drop i a), length-drop i a, h, l) in
    let r : drop (suc i) (p ++ drop i a) ≡ [] = drop_all (suc i) (p ++ drop i a) (omega (arith, m)) in
    set_split (p ++ drop i a) i 10 (omega (arith, m)) ∙ ap₂ (λ xs ys. xs ++ (10 ∷ ys)) (take_at p (drop i a) i h) r

-- nothing is left behind the last piece
filled : (p a : List ℕ) (j : ℕ) → length a ≡ j → p ++ drop j a ≡ p
filled p a j h = ap (λ ys. p ++ ys) (drop_all j a (omega (arith, h))) ∙ append-nil p

pub pair_made : (a p q : List ℕ) → length a ≡ 10 → length p ≡ 4 → put_mid 4 6 (p ++ post_of 0 4 a) q ≡ p ++ q
pair_made a p q h k = step p q a 4 6 10 k refl ∙ filled (p ++ q) a 10 h

pub head_made : (a p q : List ℕ) → length a ≡ 21 → length p ≡ 10 → length q ≡ 10 → set (put_mid 10 10 (p ++ post_of 0 10 a) q) 20 10 ≡ p ++ (q ++ (10 ∷ []))
head_made a p q h k l =
    let e : length (p ++ q) ≡ 20 = omega (arith, length-append p q, k, l) in
    ap (λ ys. set ys 20 10) (step p q a 10 10 20 k refl) ∙ feed (p ++ q) a 20 e h ∙ append_assoc p q (10 ∷ [])

three_made : (w u v : ℕ) (a p q s : List ℕ) → u ≡ w + w → v ≡ u + w → length a ≡ v + 1 → length p ≡ w → length q ≡ w → length s ≡ w → set (put_mid u w (put_mid w w (p ++ drop w a) q) s) v 10 ≡ p ++ (q ++ (s ++ (10 ∷ [])))
three_made w u v a p q s d e h k l m =
    let f : length (p ++ q) ≡ u = omega (arith, length-append p q, k, l, d) in
    let g : length ((p ++ q) ++ s) ≡ v = omega (arith, length-append (p ++ q) s, f, m, e) in
    ap (λ ys. set (put_mid u w ys s) v 10) (step p q a w w u k (sym d)) ∙ ap (λ ys. set ys v 10) (step (p ++ q) s a u w v f (sym e)) ∙ feed ((p ++ q) ++ s) a v g h ∙
    append_assoc (p ++ q) s (10 ∷ []) ∙ append_assoc p q (s ++ (10 ∷ []))

pub line_made : (a : List ℕ) (b c d e f g : ℕ) → length a ≡ 31 → set (put_mid 20 10 (put_mid 10 10 (pair b c ++ post_of 0 10 a) (pair d e)) (pair f g)) 30 10 ≡ pair b c ++ (pair d e ++ (pair f g ++ (10 ∷ [])))
line_made a b c d e f g h = three_made 10 20 30 a (pair b c) (pair d e) (pair f g) refl refl h (length_pair b c) (length_pair d e) (length_pair f g)

pub report_made : (a : List ℕ) (b c d : ℕ) → length a ≡ 19 → set (put_mid 12 6 (put_mid 6 6 (padded 6 b ++ post_of 0 6 a) (padded 6 c)) (padded 6 d)) 18 10 ≡ padded 6 b ++ (padded 6 c ++ (padded 6 d ++ (10 ∷ [])))
report_made a b c d h = three_made 6 12 18 a (padded 6 b) (padded 6 c) (padded 6 d) refl refl h (length_padded 6 b) (length_padded 6 c) (length_padded 6 d)

-- the lines of the first k records stand in front of `before`, and `rest` is to come
pub record Filled (n : ℕ) (rs : List Record) (k : ℕ) (rest : List Record) (before after : List ℕ) : Type 0 where
  pub few : k ≤ length rs
  pub left : rest ≡ drop k rs
  pub lines : after ≡ flat_map (line n) (take k rs) ++ drop (31 * k) before

-- one line more
module _ (n : ℕ) (rs : List Record) (k : ℕ) (r : Record) (rest more : List Record) (before after : List ℕ) (f : Filled n rs k rest before after) (next : rest ≡ r ∷ more) where
  cut : drop k rs ≡ r ∷ more
  cut = sym f.left ∙ next

  room : k < length rs
  room = omega (arith, ap length cut, length-drop k rs)

  pub filled_more : (m i w k' : ℕ) (q : List ℕ) → m ≡ n → q ≡ line m r → i ≡ 31 * k → w ≡ 31 → k' ≡ k + 1 → Filled n rs k' more before (put_mid i w after q)
  filled_more m i w k' q same made e d up =
      let p : List ℕ = flat_map (line n) (take k rs) in
      let l : length p ≡ i = omega (arith, length_joined n (take k rs), length-take-le k rs f.few, e) in
      let a : after ≡ p ++ drop i before = f.lines ∙ ap (λ j. p ++ drop j before) (sym e) in
      let one : get_or rs k r ≡ r = ap (λ j. get_or rs j r) (sym (add-zero k)) ∙ sym (get_or-drop k rs 0 r) ∙ ap (λ xs. get_or xs 0 r) cut in
      let t : take k' rs ≡ take k rs ++ (r ∷ []) = ap (λ j. take j rs) up ∙ take_more rs k r room ∙ ap (λ x. take k rs ++ (x ∷ [])) one in
      record {
        few = omega (arith, room, up);
        left = sym (ap (λ j. drop j rs) up ∙ sym (drop-drop 1 k rs) ∙ ap (drop 1) cut);
        lines =
            ap₂ (λ xs ys. put_mid i w xs ys) a (made ∙ ap (λ j. line j r) same) ∙ step p (line n r) before i w (31 * k') l (omega (arith, e, d, up)) ∙
            ap (λ ys. ys ++ drop (31 * k') before) (flat_map_more (line n) [] (take k rs) r ∙ ap (flat_map (line n)) (sym t));
      }

-- no record is to come
pub filled_all : (n : ℕ) (rs : List Record) (k : ℕ) (rest : List Record) (before after : List ℕ) → Filled n rs k rest before after → rest ≡ [] → length before ≡ 31 * length rs → after ≡ flat_map (line n) rs
filled_all n rs k rest before after f none l =
    let e : length rs - k ≡ 0 = sym (length-drop k rs) ∙ ap length (sym f.left ∙ none) in
    f.lines ∙ ap₂ (λ xs ys. flat_map (line n) xs ++ ys) (take_all k rs (omega (arith, e))) (drop_all (31 * k) before (omega (arith, e, l))) ∙ append-nil (flat_map (line n) rs)

-- the whole text
pub length_written : (n : ℕ) (t : Target) (rs : List Record) → length (written n t rs) ≡ 21 + 31 * length rs
unfolding written
length_written n t rs =
    length-append (header n (length rs) t) (flat_map (line n) rs) ∙ ap₂ ◌+◌ (length_header n (length rs) t) (length_joined n rs)

pub text_made : (n : ℕ) (t : Target) (rs : List Record) (a h l : List ℕ) (len : ℕ) → len ≡ 21 + 31 * length rs → h ≡ header n (length rs) t → l ≡ flat_map (line n) rs → put_mid 21 (len - 21) (h ++ post_of 0 21 a) l ≡ written n t rs ++ drop len a
unfolding written
text_made n t rs a h l len e f g =
    ap₂ (λ xs ys. put_mid 21 (len - 21) (xs ++ post_of 0 21 a) ys) f g ∙ step (header n (length rs) t) (flat_map (line n) rs) a 21 (len - 21) len (length_header n (length rs) t) (omega (arith, e))
