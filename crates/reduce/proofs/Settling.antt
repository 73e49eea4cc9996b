-- The passes over a level, put together.
use Rattle.std.proofs.Common.{◌≡◌, ℕ, ◌-◌, ◌<◌, ◌≤◌, List, [], ◌∷◌, ◌++◌, length, take, drop, refl, ap, ◌∙◌, subst, ap₂, inl, inr, arith, length-append, length-drop, length-take, take_at, drop_at}
use mathlib.Core.Path.{subst⁻¹}
use borrow.Rule.Slice.PartMut.{put_mid}
use Rattle.std.proofs.lemmas.List.Sorted.{length_permutation}
use Rattle.rows.specs.declared.row.Row.{Row}
use Rattle.rows.specs.Rows.{zero_row}
use Rattle.reduce.specs.Passes.{image_of, move_rows}
use Rattle.reduce.specs.Sorts.{Arranged}
use Rattle.reduce.specs.Settles.{OwnInside, part, mapped_level}
use Rattle.reduce.proofs.Rowed.{On}
use Rattle.reduce.proofs.Level.{own_below, number_length, move_length}

own_inside : (n : ℕ) (rs : List Row) → ((t : Row) → On t rs → t.own < n) → OwnInside n rs
own_inside n [] f = tt
own_inside n (r ∷ rs) f = (f r (inl refl), own_inside n rs (λ t m. f t (inr m)))

module _ (R X ys : List Row) (a b : ℕ) (ab : a ≤ b) (bn : b ≤ length R) (ex : X ≡ mapped_level a b R) (h : Arranged (part a b X) ys) where
  abbrev M : List Row
  M = move_rows (image_of R) a (part a b R)

  front_length : length (take a R) ≡ a
  front_length = simp length-take (omega arith)

  part_length : length (part a b R) ≡ b - a
  part_length = simp (length-take, length-drop) (omega arith)

  MLength : length M ≡ b - a
  MLength = move_length (image_of R) a (part a b R) ∙ part_length

  after_front : drop a X ≡ M ++ drop b R
  after_front = ap (drop a) ex ∙ drop_at (take a R) (M ++ drop b R) a front_length

  part_is : part a b X ≡ M
  part_is = ap (take (b - a)) after_front ∙ take_at M (drop b R) (b - a) MLength

  shuffled_M : Arranged M ys
  shuffled_M = subst (λ (v : List Row). Arranged v ys) part_is h

  ys_length : length ys ≡ b - a
  ys_length = ap length shuffled_M.is ∙ number_length zero_row 0 0 shuffled_M.sorted ∙ length_permutation M shuffled_M.sorted shuffled_M.shuffled ∙ MLength

  mid_is : put_mid a (b - a) X ys ≡ take a R ++ (ys ++ drop b R)
  mid_is =
      ap₂ (λ (u v : List Row). u ++ (ys ++ v))
      (ap (take a) ex ∙ take_at (take a R) (M ++ drop b R) a front_length)
      (ap (drop (b - a)) after_front ∙ drop_at M (drop b R) (b - a) MLength)

  mid_part : part a b (put_mid a (b - a) X ys) ≡ ys
  mid_part = ap (part a b) mid_is ∙ ap (take (b - a)) (drop_at (take a R) (ys ++ drop b R) a front_length) ∙ take_at ys (drop b R) (b - a) ys_length

  pub mid_length : length (put_mid a (b - a) X ys) ≡ length R
  mid_length = ap length mid_is ∙ simp (length-append, length-take, length-drop) (omega (arith, ys_length))

  pub mid_inside : OwnInside (length (put_mid a (b - a) X ys)) (part a b (put_mid a (b - a) X ys))
  mid_inside =
      subst⁻¹ (λ (v : List Row). OwnInside (length (put_mid a (b - a) X ys)) v) mid_part
      (own_inside (length (put_mid a (b - a) X ys)) ys
      (λ t m.
      let k = own_below a (image_of R) (part a b R) shuffled_M.sorted shuffled_M.shuffled t (subst (λ (v : List Row). On t v) shuffled_M.is m) in
      omega (arith, k, part_length, mid_length)))
