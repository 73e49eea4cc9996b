-- Counting the records of each level.
use Rattle.std.proofs.Common.{◌≡◌, ℕ, ◌+◌, ◌<◌, ◌≤◌, cond, eqb, ◌≢◌, List, [], ◌∷◌, ◌++◌, length, get_or, set, sym, refl, ap, ◌∙◌, ⊎_elim, arith, length-set, get_or-set_other, get_or-set_same}
use Rattle.std.proofs.lemmas.Bool.{cases_eq, cond-true, cond-false, eq-eqb, ne_eqb}
use Rattle.listing.specs.declared.Record.{Record}
use Rattle.source.specs.Counting.{on_level}

-- counts[k] is the number of the records on level k
abbrev pub Counts : List ℕ → List Record → Type 0
Counts cs rs = (k : ℕ) → k < length cs → get_or cs k 0 ≡ on_level k rs

on_level_more : (l : ℕ) (rs : List Record) (r : Record) → on_level l (rs ++ r ∷ []) ≡ on_level l rs + cond (eqb r.level l) 1 0
on_level_more l [] r = omega arith
on_level_more l (q ∷ rs) r = ap (λ k. cond (eqb q.level l) 1 0 + k) (on_level_more l rs r) ∙ omega arith

pub on_level_few : (l : ℕ) (rs : List Record) → on_level l rs ≤ length rs
on_level_few l [] = omega arith
on_level_few l (r ∷ rs) = ⊎_elim (λ e. rw (eq-eqb r.level l e) (omega (arith, on_level_few l rs))) (λ e. rw (ne_eqb r.level l e) (omega (arith, on_level_few l rs))) (cases_eq r.level l)

module _ (cs : List ℕ) (rs : List Record) (r : Record) (h : Counts cs rs) where
  -- the record's level is counted
  pub count_here : r.level < length cs → Counts (set cs r.level (get_or cs r.level 0 + 1)) (rs ++ r ∷ [])
  count_here w k b = ⊎_elim same other (cases_eq k r.level)
    where
      b' : k < length cs
      b' = simp length-set at b

      same : k ≡ r.level → get_or (set cs r.level (get_or cs r.level 0 + 1)) k 0 ≡ on_level k (rs ++ r ∷ [])
      same d =
          rw d (rw get_or-set_same (ap (λ c. c + 1) (h r.level w) ∙ sym (on_level_more r.level rs r ∙ ap (λ t. on_level r.level rs + t) (cond-true _ 1 0 (eq-eqb r.level r.level refl)))))

      other : (k ≡ r.level → ⊥) → get_or (set cs r.level (get_or cs r.level 0 + 1)) k 0 ≡ on_level k (rs ++ r ∷ [])
      other d =
          let ne : k ≢ r.level = d in
          rw get_or-set_other (h k b' ∙ sym (on_level_more k rs r ∙ ap (λ t. on_level k rs + t) (cond-false _ 1 0 (ne_eqb r.level k (λ z. d (sym z)))) ∙ omega arith))

  -- its level is behind the last place
  pub count_none : length cs ≤ r.level → Counts cs (rs ++ r ∷ [])
  count_none w k b =
      h k b ∙ sym (on_level_more k rs r ∙ ap (λ t. on_level k rs + t) (cond-false _ 1 0 (ne_eqb r.level k (λ z. omega arith))) ∙ omega arith)
