-- Filling rows from a numbered walk.
use Rattle.std.proofs.Common.{◌≡◌, ℕ, ◌+◌, ◌<◌, List, [], ◌∷◌, ◌++◌, map, length, drop, set, Option, refl, ap, ◌∙◌, append-nil, arith}
use Rattle.std.proofs.lemmas.List.{length-map, drop_all}
use Rattle.std.specs.declared.iter.Enumerate.{Enumerate}
use Rattle.std.specs.Iterator.{Yields}
use Rattle.std.specs.Iterator.Adapters.{enumerate_source, enumerate_count, enumerate_steps}
use Rattle.listing.specs.declared.Record.{Record}
use Rattle.rows.specs.declared.row.Row.{Row}
use Rattle.rows.specs.Rows.{entry_of, row_of}

-- a numbered walk gives what the walk gives, and counts it
module _ {S X : Type 0} (steps : S → Option X → S → Type 0) where
  pub unnumbered : (s : Enumerate S) (xs : List (ℕ × X)) (t : Enumerate S) → Yields (enumerate_steps steps) s xs t → Yields steps (enumerate_source s) (map (λ p. p.1) xs) (enumerate_source t)
  unnumbered s [] t h = ap enumerate_source h
  unnumbered s (x ∷ xs) t h = (enumerate_source h.0, h.1.0, unnumbered h.0 xs t h.2)

  pub counted : (s : Enumerate S) (xs : List (ℕ × X)) (t : Enumerate S) → Yields (enumerate_steps steps) s xs t → enumerate_count t ≡ enumerate_count s + length xs
  counted s [] t h = omega (arith, ap enumerate_count h)
  counted s (x ∷ xs) t h = omega (arith, h.1.2, counted h.0 xs t h.2)

abbrev row_from : ℕ × Record → Row
row_from p = row_of p.1

-- the rows xs, the first of them filled from the records of zs
abbrev pub begun : List (ℕ × Record) → List Row → List Row
begun zs xs = map row_from zs ++ drop (length zs) xs

pub begun_more : (zs : List (ℕ × Record)) (xs : List Row) (p : ℕ × Record) → length zs < length xs → set (begun zs xs) (length zs) (row_of p.1) ≡ begun (zs ++ p ∷ []) xs
begun_more zs [] p h = absurd (omega arith)
begun_more [] (x ∷ xs) p h = refl
begun_more (z ∷ zs) (x ∷ xs) p h = ap (λ ys. row_from z ∷ ys) (begun_more zs xs p (omega arith))

pub begun_all : (zs : List (ℕ × Record)) (xs : List Row) (rs : List Record) → map (λ p. p.1) zs ≡ rs → length xs ≡ length rs → begun zs xs ≡ map row_of rs
begun_all zs xs rs e h =
    ap (λ ys. map row_from zs ++ ys) (drop_all (length zs) xs (omega (arith, h, ap length e, length-map zs (λ p. p.1)))) ∙ append-nil (map row_from zs) ∙ each zs ∙ ap (map row_of) e
  where
    each : (zs : List (ℕ × Record)) → map row_from zs ≡ map row_of (map (λ p. p.1) zs)
    each [] = refl
    each (z ∷ zs) = ap (λ ys. row_from z ∷ ys) (each zs)

pub entries : (rs : List Record) → map entry_of (map row_of rs) ≡ rs
entries [] = refl
entries (r ∷ rs) = ap (λ qs. r ∷ qs) (entries rs)
