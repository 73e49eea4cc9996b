-- The steps of the loops.
use Rattle.std.proofs.Common.{◌≡◌, ℕ, zero, suc, ◌+◌, ◌-◌, ◌<◌, List, [], ◌∷◌, ◌++◌, map, length, get_or, take, drop, set, sym, refl, ap, ◌∙◌, subst, append_assoc, arith, drop-set-lt}
use lib.Seq.{map-set_same}
use Rattle.std.proofs.lemmas.List.{drop_more, take_more_set, drop-drop}
use Rattle.rows.specs.declared.row.Row.{Row}
use Rattle.listing.specs.declared.Target.{Target}
use Rattle.listing.specs.declared.Target.TheVariants.{Node, False, True}
use Rattle.rows.specs.Rows.{no_row, Inside, AllInside}
use Rattle.reduce.specs.Passes.{image_of, move_row, move_rows, outcome, imaged, put_image, write_back}
use Rattle.reduce.specs.Settles.{OwnInside, part}

pub drop_next : (xs ys : List Row) (k : ℕ) → drop k xs ≡ drop k ys → drop (k + 1) xs ≡ drop (k + 1) ys
drop_next xs ys k e = sym (drop-drop 1 k xs) ∙ ap (drop 1) e ∙ drop-drop 1 k ys

pub split_next : (xs ys : List Row) (k : ℕ) → k < length xs → drop k xs ≡ drop k ys → drop k ys ≡ get_or xs k no_row ∷ drop (k + 1) ys
split_next xs ys k h e = sym e ∙ drop_more xs k no_row h ∙ ap (λ (v : List Row). get_or xs k no_row ∷ v) (drop_next xs ys k e)

pub drop_again : (R xs : List Row) (k : ℕ) (v : Row) → drop k xs ≡ drop k R → drop (k + 1) (set xs k v) ≡ drop (k + 1) R
drop_again R xs k v e = drop-set-lt (k + 1) xs k v (omega arith) ∙ drop_next xs R k e

-- ---- rows from a to b

pub part_next : (xs ys : List Row) (k b : ℕ) → k < b → k < length xs → drop k xs ≡ drop k ys → part k b ys ≡ get_or xs k no_row ∷ part (k + 1) b ys
part_next xs ys k b h l e =
    ap (λ (v : List Row). take (b - k) v) (split_next xs ys k l e) ∙
    ap (λ n. take n (get_or xs k no_row ∷ drop (k + 1) ys)) (let z : b - k ≡ suc (b - (k + 1)) = omega arith in z)

abbrev img : Row → Target
img r = r.image

look_map : (xs : List Row) (p : ℕ) → get_or (map img xs) p (Node 0 0) ≡ (get_or xs p no_row).image
look_map [] p = refl
look_map (x ∷ xs) zero = refl
look_map (x ∷ xs) (suc p) = look_map xs p

pub same_images : (xs ys : List Row) → map img xs ≡ map img ys → (t : Target) → image_of xs t ≡ image_of ys t
same_images xs ys e (Node l p) = sym (look_map xs p) ∙ ap (λ (v : List Target). get_or v p (Node 0 0)) e ∙ look_map ys p
same_images xs ys e False = refl
same_images xs ys e True = refl

pub record Mapping (R : List Row) (a b k : ℕ) (xs : List Row) : Type 0 where
  pub done : take a R ++ move_rows (image_of R) a (part a b R) ≡ take k xs ++ move_rows (image_of R) k (part k b R)
  pub rest : drop k xs ≡ drop k R
  pub images : map img xs ≡ map img R
  pub inside : AllInside (length R) (part k b R)

module _ (R xs : List Row) (a b k : ℕ) (kb : k < b) (kx : k < length xs) (h : Mapping R a b k xs) where
  here : part k b R ≡ get_or xs k no_row ∷ part (k + 1) b R
  here = part_next xs R k b kb kx h.rest

  pub mapping_inside : Inside (length R) (get_or xs k no_row).low × Inside (length R) (get_or xs k no_row).high
  mapping_inside = (subst (λ (v : List Row). AllInside (length R) v) here h.inside).0

  pub mapping_again : (low high : Target) → low ≡ image_of xs (get_or xs k no_row).low → high ≡ image_of xs (get_or xs k no_row).high →
      (v : Row) → v ≡ record { low = low; high = high; level = (get_or xs k no_row).level; number = (get_or xs k no_row).number; own = k; first = (get_or xs k no_row).first; image = (get_or xs k no_row).image } →
      Mapping R a b (k + 1) (set xs k v)
  mapping_again low high el eh v ev =
      let r : Row = get_or xs k no_row in
      let e : move_row (image_of R) k (get_or xs k no_row) ≡ v =
      (λ i. record { low = sym (el ∙ same_images xs R h.images (get_or xs k no_row).low) i; high = sym (eh ∙ same_images xs R h.images (get_or xs k no_row).high) i; level = (get_or xs k no_row).level; number = (get_or xs k no_row).number; own = k; first = (get_or xs k no_row).first; image = (get_or xs k no_row).image }) ∙ sym ev in
      record {
        done =
            h.done ∙
            ap (λ (w : List Row). take k xs ++ move_rows (image_of R) k w) here ∙
            ap (λ (w : Row). take k xs ++ (w ∷ move_rows (image_of R) (k + 1) (part (k + 1) b R))) e ∙
            sym (append_assoc (take k xs) (v ∷ []) (move_rows (image_of R) (k + 1) (part (k + 1) b R))) ∙
            ap (λ (w : List Row). w ++ move_rows (image_of R) (k + 1) (part (k + 1) b R)) (sym (take_more_set xs k v kx));
        rest = drop_again R xs k v h.rest;
        images = map-set_same img xs k v no_row (ap img ev) ∙ h.images;
        inside = (subst (λ (w : List Row). AllInside (length R) w) here h.inside).1;
      }

-- ---- the writes

abbrev bare : Row → Row
bare r = imaged r False

bare_at : (xs ys : List Row) (p : ℕ) → map bare xs ≡ map bare ys → bare (get_or xs p no_row) ≡ bare (get_or ys p no_row)
bare_at xs ys p e = sym (at xs p) ∙ ap (λ (v : List Row). get_or v p (bare no_row)) e ∙ at ys p
  where
    at : (zs : List Row) (p : ℕ) → get_or (map bare zs) p (bare no_row) ≡ bare (get_or zs p no_row)
    at [] p = refl
    at (z ∷ zs) zero = refl
    at (z ∷ zs) (suc p) = at zs p

pub record Writing (R : List Row) (a b k : ℕ) (xs : List Row) : Type 0 where
  pub rest : write_back R (part a b R) ≡ write_back xs (part k b R)
  pub bares : map bare xs ≡ map bare R
  pub inside : OwnInside (length R) (part k b R)

module _ (R xs : List Row) (a b k : ℕ) (kb : k < b) (kx : k < length R) (h : Writing R a b k xs) where
  there : part k b R ≡ get_or R k no_row ∷ part (k + 1) b R
  there = part_next R R k b kb kx refl

  like_at : bare (get_or R k no_row) ≡ bare (get_or xs k no_row)
  like_at = sym (bare_at xs R k h.bares)

  pub writing_inside : (get_or xs k no_row).own < length R
  writing_inside = subst (λ n. n < length R) (ap (λ (r : Row). r.own) like_at) (subst (λ (v : List Row). OwnInside (length R) v) there h.inside).0

  pub writing_again : (v : Row) → v ≡ imaged (get_or xs (get_or xs k no_row).own no_row) (outcome (get_or xs k no_row)) → Writing R a b (k + 1) (set xs (get_or xs k no_row).own v)
  writing_again v ev =
      record {
        rest =
            h.rest ∙
            ap (write_back xs) there ∙
            ap (λ (t : Row). write_back (put_image xs t.own (outcome t)) (part (k + 1) b R)) like_at ∙
            ap (λ (w : Row). write_back (set xs (get_or xs k no_row).own w) (part (k + 1) b R)) (sym ev);
        bares = map-set_same bare xs (get_or xs k no_row).own v no_row (ap bare ev) ∙ h.bares;
        inside = (subst (λ (w : List Row). OwnInside (length R) w) there h.inside).1;
      }
