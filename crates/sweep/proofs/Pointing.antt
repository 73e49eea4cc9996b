-- What pointing arcs at a row does to the rows.
use Rattle.std.proofs.Common.{◌≡◌, ℕ, ◌<◌, Bool, true, false, ◌⊎◌, List, [], ◌∷◌, length, get_or, drop, set, sym, refl, ap, ◌∙◌, inl, inr, ⊎_elim, arith, get_or-set_other, get_or-set_same, drop-set-lt}
use Rattle.std.proofs.lemmas.List.{length-set}
use Rattle.std.proofs.lemmas.Bool.{cases_eq, true≢false, false≢true}
use Rattle.listing.specs.declared.Target.{Target}
use Rattle.listing.specs.Members.{In}
use Rattle.queue.specs.declared.Element.{Element}
use Rattle.rows.specs.declared.row.Row.{Row}
use Rattle.rows.specs.Rows.{no_row}
use Rattle.rows.specs.Marks.{arc}
use Rattle.sweep.specs.declared.faults.Request.{Request}
use Rattle.sweep.specs.Requests.{point, pointed}

point_level : (t : Target) (b : Bool) (w : Row) → (point t b w).level ≡ w.level
point_level t true w = refl
point_level t false w = refl

point_here : (t : Target) (b : Bool) (w : Row) → arc b (point t b w) ≡ t
point_here t true w = refl
point_here t false w = refl

point_there : (t : Target) (b d : Bool) (w : Row) → (d ≡ b → ⊥) → arc b (point t d w) ≡ arc b w
point_there t true true w h = absurd (h refl)
point_there t true false w h = refl
point_there t false true w h = refl
point_there t false false w h = absurd (h refl)

same_bit : (d b : Bool) → (d ≡ b) ⊎ (d ≡ b → ⊥)
same_bit true true = inl refl
same_bit true false = inr true≢false
same_bit false true = inr false≢true
same_bit false false = inl refl

-- a row put in place of one of its level keeps every row's level
set_level : (rows : List Row) (i j : ℕ) (w : Row) → j < length rows → w.level ≡ (get_or rows i no_row).level → (get_or (set rows i w) j no_row).level ≡ (get_or rows j no_row).level
set_level rows i j w l e =
    ⊎_elim
    (λ d. ap (λ (x : Row). x.level) (ap (λ k. get_or (set rows k w) j no_row) (sym d) ∙ get_or-set_same rows j w no_row l) ∙ e ∙ ap (λ k. (get_or rows k no_row).level) (sym d))
    (λ d. ap (λ (x : Row). x.level) (get_or-set_other rows i j w no_row d)) (cases_eq j i)

module _ {K : Type 0} (t : Target) where
  pub pointed_length : (es : List (Element K Request)) (rows : List Row) → length (pointed t es rows) ≡ length rows
  pointed_length [] rows = refl
  pointed_length (e ∷ es) rows = length-set (pointed t es rows) e.carried.row _ ∙ pointed_length es rows

  pub pointed_level : (es : List (Element K Request)) (rows : List Row) (j : ℕ) → j < length rows → (get_or (pointed t es rows) j no_row).level ≡ (get_or rows j no_row).level
  pointed_level [] rows j l = refl
  pointed_level (e ∷ es) rows j l =
      set_level (pointed t es rows) e.carried.row j (point t e.carried.high (get_or (pointed t es rows) e.carried.row no_row)) (omega (arith, pointed_length es rows)) (point_level t e.carried.high _) ∙
      pointed_level es rows j l

  -- arc b of row j is among those pointed, and is t; or it is not, and is as it was
  abbrev pub Hit : List (Element K Request) → ℕ → Bool → Type 0
  Hit es j b = (e : Element K Request) × In e es × (e.carried.row ≡ j) × (e.carried.high ≡ b)

  abbrev pub AimsAt : List (Element K Request) → List Row → ℕ → Bool → Type 0
  AimsAt es rows j b = (Hit es j b × (arc b (get_or (pointed t es rows) j no_row) ≡ t)) ⊎ ((Hit es j b → ⊥) × (arc b (get_or (pointed t es rows) j no_row) ≡ arc b (get_or rows j no_row)))

  pub pointed_arc : (es : List (Element K Request)) (rows : List Row) (j : ℕ) (b : Bool) → j < length rows → AimsAt es rows j b
  pointed_arc [] rows j b l = inr ((λ h. h.1), refl)
  pointed_arc (e ∷ es) rows j b l = by (pointed_arc es rows j b l) (cases_eq j e.carried.row) (same_bit e.carried.high b)
    where
      m : j ≡ e.carried.row → e.carried.row < length (pointed t es rows)
      m h = omega (arith, pointed_length es rows)

      now : j ≡ e.carried.row → get_or (pointed t (e ∷ es) rows) j no_row ≡ point t e.carried.high (get_or (pointed t es rows) j no_row)
      now h =
          ap (λ k. get_or (pointed t (e ∷ es) rows) k no_row) h ∙ get_or-set_same (pointed t es rows) e.carried.row _ no_row (m h) ∙
          ap (λ k. point t e.carried.high (get_or (pointed t es rows) k no_row)) (sym h)

      -- the newest one does not touch the arc
      miss : (e.carried.row ≡ j → e.carried.high ≡ b → ⊥) → arc b (get_or (pointed t (e ∷ es) rows) j no_row) ≡ arc b (get_or (pointed t es rows) j no_row) → AimsAt es rows j b → AimsAt (e ∷ es) rows j b
      miss n q (inl h) = inl ((h.0.0, inr h.0.1, h.0.2, h.0.3), q ∙ h.1)
      miss n q (inr h) = inr ((λ k. ⊎_elim (λ i. n (ap (λ (x : Element K Request). x.carried.row) (sym i) ∙ k.2) (ap (λ (x : Element K Request). x.carried.high) (sym i) ∙ k.3)) (λ i. h.0 (k.0, i, k.2, k.3)) k.1), q ∙ h.1)

      by : AimsAt es rows j b → (j ≡ e.carried.row) ⊎ (j ≡ e.carried.row → ⊥) → (e.carried.high ≡ b) ⊎ (e.carried.high ≡ b → ⊥) → AimsAt (e ∷ es) rows j b
      by a (inl h) (inl k) = inl ((e, inl refl, sym h, k), ap (arc b) (now h) ∙ ap (λ d. arc b (point t d (get_or (pointed t es rows) j no_row))) k ∙ point_here t b _)
      by a (inl h) (inr k) = miss (λ _ i. k i) (ap (arc b) (now h) ∙ point_there t b e.carried.high _ k) a
      by a (inr h) k = miss (λ i _. h (sym i)) (ap (arc b) (get_or-set_other (pointed t es rows) e.carried.row j _ no_row h)) a

  -- rows behind all that are pointed are as they were
  pub pointed_behind : (k : ℕ) (es : List (Element K Request)) (rows : List Row) → ((e : Element K Request) → In e es → e.carried.row < k) → drop k (pointed t es rows) ≡ drop k rows
  pointed_behind k [] rows h = refl
  pointed_behind k (e ∷ es) rows h = drop-set-lt k (pointed t es rows) e.carried.row _ (h e (inl refl)) ∙ pointed_behind k es rows (λ d m. h d (inr m))
