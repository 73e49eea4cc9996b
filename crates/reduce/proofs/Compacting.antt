-- Bringing the kept rows to the front.
use Rattle.std.proofs.Common.{◌≡◌, ℕ, ◌+◌, ◌<◌, ◌≤◌, true, false, cond, List, [], ◌∷◌, ◌++◌, map, length, get_or, take, drop, set, sym, refl, ap, ◌∙◌, append_assoc, arith, drop-set-lt}
use Rattle.std.proofs.lemmas.List.{take_more_set}
use Rattle.std.proofs.lemmas.Bool.{cond-true, cond-false}
use Rattle.listing.specs.declared.Record.{Record}
use Rattle.rows.specs.declared.row.Row.{Row}
use Rattle.rows.specs.Rows.{no_row, entry_of}
use Rattle.reduce.specs.Passes.{kept}
use Rattle.reduce.proofs.Looping.{drop_next, split_next}

map_append : (xs ys : List Row) → map entry_of (xs ++ ys) ≡ map entry_of xs ++ map entry_of ys
map_append [] ys = refl
map_append (x ∷ xs) ys = ap (λ (v : List Record). entry_of x ∷ v) (map_append xs ys)

pub record Compacting (R : List Row) (k c : ℕ) (xs : List Row) : Type 0 where
  pub done : kept R ≡ map entry_of (take c xs) ++ kept (drop k R)
  pub rest : drop k xs ≡ drop k R
  pub small : c ≤ k

module _ (R xs : List Row) (k c : ℕ) (kx : k < length xs) (h : Compacting R k c xs) where
  next : kept R ≡ map entry_of (take c xs) ++ cond (get_or xs k no_row).first (entry_of (get_or xs k no_row) ∷ kept (drop (k + 1) R)) (kept (drop (k + 1) R))
  next = h.done ∙ ap (λ (v : List Row). map entry_of (take c xs) ++ kept v) (split_next xs R k kx h.rest)

  pub compacting_first : (get_or xs k no_row).first ≡ true → Compacting R (k + 1) (c + 1) (set xs c (get_or xs k no_row))
  compacting_first e =
      record {
        done =
            next ∙ ap (λ (v : List Record). map entry_of (take c xs) ++ v) (cond-true _ _ _ e) ∙
            sym (append_assoc (map entry_of (take c xs)) (entry_of (get_or xs k no_row) ∷ []) (kept (drop (k + 1) R))) ∙
            ap (λ (v : List Record). v ++ kept (drop (k + 1) R))
            (sym (map_append (take c xs) (get_or xs k no_row ∷ [])) ∙ ap (map entry_of) (sym (take_more_set xs c (get_or xs k no_row) (let z = h.small in omega arith))));
        rest = drop-set-lt (k + 1) xs c (get_or xs k no_row) (let z = h.small in omega arith) ∙ drop_next xs R k h.rest;
        small = let z = h.small in omega arith;
      }

  pub compacting_other : (get_or xs k no_row).first ≡ false → Compacting R (k + 1) c xs
  compacting_other e =
      record {
        done = next ∙ ap (λ (v : List Record). map entry_of (take c xs) ++ v) (cond-false _ _ _ e);
        rest = drop_next xs R k h.rest;
        small = let z = h.small in omega arith;
      }
