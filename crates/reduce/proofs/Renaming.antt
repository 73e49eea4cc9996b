-- A listing with places for numbers is a listing of rows, with the same value.
use Rattle.std.proofs.Common.{◌≡◌, ℕ, ◌+◌, ◌<◌, Bool, true, false, List, [], ◌∷◌, refl, ap, ◌∙◌, inl, inr, ⊎_elim, arith}
use mathlib.Core.Path.{subst⁻¹}
use Rattle.std.proofs.lemmas.Bool.{cond-true, cond-false}
use Rattle.listing.specs.declared.Target.{Target}
use Rattle.listing.specs.declared.Target.TheVariants.{Node, False, True}
use Rattle.listing.specs.declared.Record.{Record}
use Rattle.listing.specs.Members.{In}
use Rattle.listing.specs.Listing.{node, walk, Within, Above, Rooted, Follows, Numbered, Reached, Aimed, Listing, child, Targeted}
use Rattle.listing.proofs.Walk.{Choice, Earlier, names_node, names_not, within_node, within_apart}
use Rattle.listing.proofs.Rules.{Ordered, ordered, chain, root_within}
use Rattle.reduce.specs.Reduction.{Replaced, Placed, Onward, Monotone, Rowing}
use Rattle.listing.specs.Settings.{fact}
use Rattle.reduce.specs.Contract.{Normalizes}
use Rattle.rows.specs.Placing.{place_of, placing, place_record, place_records}
use Rattle.reduce.proofs.Inner.{inner_rows}
use Rattle.reduce.proofs.Meets.{image_same}

place_here : (r : Record) (rs : List Record) (p : ℕ) → place_of (r ∷ rs) p (node r) ≡ p
place_here r rs p = cond-true _ _ _ (names_node r)

place_later : (q : Record) (rs : List Record) (p : ℕ) → Earlier q rs → (r : Record) → In r rs → place_of (q ∷ rs) p (node r) ≡ place_of rs (p + 1) (node r)
place_later q rs p early r m = cond-false _ _ _ (names_not (node r) q (within_apart q rs early (node r) (within_node rs r m)))

module _ (all : List Record) where
  place_in : (p : ℕ) (rs : List Record) → Ordered rs → (r : Record) → In r rs → In (place_record all (place_of rs p (node r)) r) (place_records all p rs)
  place_in p [] o r m = absurd m
  place_in p (q ∷ rs) o r (inl e) = inl (subst⁻¹ (λ (x : Record). place_record all (place_of (q ∷ rs) p (node x)) x ≡ place_record all p q) e (ap (λ k. place_record all k q) (place_here q rs p)))
  place_in p (q ∷ rs) o r (inr m) =
      inr (subst⁻¹ (λ k. In (place_record all k r) (place_records all (p + 1) rs)) (place_later q rs p o.0 r m) (place_in (p + 1) rs o.1 r m))

  place_back : (p : ℕ) (rs : List Record) → (x : Record) → In x (place_records all p rs) → (r : Record) × In r rs × ((k : ℕ) × (x ≡ place_record all k r))
  place_back p [] x m = absurd m
  place_back p (q ∷ rs) x (inl e) = (q, inl refl, (p, e))
  place_back p (q ∷ rs) x (inr m) = let w = place_back (p + 1) rs x m in (w.0, inr w.1, w.2)

  place_placed : (p : ℕ) (rs : List Record) → Placed p (place_records all p rs)
  place_placed p [] = tt
  place_placed p (r ∷ rs) = (refl, place_placed (p + 1) rs)

  place_onward : (k p : ℕ) (q : Record) (rs : List Record) → Follows q rs → Onward (place_record all k q) (place_records all p rs)
  place_onward k p q [] f = tt
  place_onward k p q (r ∷ rs) f = (⊎_elim (λ h. omega (arith, h.0)) (λ h. omega (arith, h.0)) f.0, place_onward p (p + 1) r rs f.1)

  place_monotone : (p : ℕ) (rs : List Record) → Numbered rs → Monotone (place_records all p rs)
  place_monotone p [] h = tt
  place_monotone p (r ∷ rs) h = place_onward p (p + 1) r rs h.1

  -- records before, and the same with places
  abbrev Twins : List Record → List Record → Type 0
  Twins us vs = (u : Record) → In u us → (k : ℕ) × In (place_record all k u) vs

  abbrev Tied : ℕ → List Record → Type 0
  Tied p rs = (r : Record) → In r rs → place_of all 0 (node r) ≡ place_of rs p (node r)

  twins_more : (us vs : List Record) (r : Record) (p : ℕ) → Twins us vs → Twins (r ∷ us) (place_record all p r ∷ vs)
  twins_more us vs r p t u (inl e) = (p, inl (ap (place_record all p) e))
  twins_more us vs r p t u (inr m) = let w = t u m in (w.0, inr w.1)

  tied_more : (p : ℕ) (q : Record) (rs : List Record) → Earlier q rs → Tied p (q ∷ rs) → Tied (p + 1) rs
  tied_more p q rs early t r m = t r (inr m) ∙ place_later q rs p early r m

  node_placed : (p : ℕ) (r : Record) (rs : List Record) → Tied p (r ∷ rs) → placing all (node r) ≡ node (place_record all p r)
  node_placed p r rs t = ap (λ k. Node r.level k) (t r (inl refl) ∙ place_here r rs p)

  place_reached : (us vs : List Record) (p : ℕ) (rs : List Record) → Ordered rs → Tied p rs → Twins us vs → Reached us rs → Reached vs (place_records all p rs)
  place_reached us vs p [] o t w h = tt
  place_reached us vs p (r ∷ rs) o t w h =
      let q = h.0 in
      let v = w q.0 q.1 in
      let e = node_placed p r rs t in (
        (place_record all v.0 q.0, v.1, ⊎_elim (λ f. inl (ap (placing all) f ∙ e)) (λ f. inr (ap (placing all) f ∙ e)) q.2),
        place_reached (r ∷ us) (place_record all p r ∷ vs) (p + 1) rs o.1 (tied_more p r rs o.0 t) (twins_more us vs r p w) h.1,
      )

place_aimed : (xs : List Record) → Ordered xs → Aimed xs → Aimed (place_records xs 0 xs)
place_aimed [] o h = tt
place_aimed (r ∷ rs) o h =
    place_reached (r ∷ rs) (r ∷ []) (place_record (r ∷ rs) 0 r ∷ []) 1 rs o.1 (λ q m. place_later r rs 0 o.0 q m)
    (λ u m. (0, ⊎_elim (λ e. inl (ap (place_record (r ∷ rs) 0) e)) (λ k. absurd k) m)) h

place_rooted : (root : Target) (xs : List Record) → Rooted root xs → Rooted (placing xs root) (place_records xs 0 xs)
place_rooted root [] (inl e) = inl (ap (placing []) e)
place_rooted root [] (inr e) = inr (ap (placing []) e)
place_rooted root (r ∷ rs) e = ap (placing (r ∷ rs)) e ∙ ap (λ k. Node r.level k) (place_here r rs 0)

place_over : (xs : List Record) → Ordered xs → (t : Target) → Within xs t → Within (place_records xs 0 xs) (placing xs t)
place_over xs o (Node l k) w = (place_record xs (place_of xs 0 (node w.0)) w.0, place_in xs 0 xs o w.0 w.1, ap (placing xs) w.2)
place_over xs o False w = tt
place_over xs o True w = tt

place_above : (xs : List Record) (l : ℕ) (t : Target) → Above l t → Above l (placing xs t)
place_above xs l (Node m k) h = h
place_above xs l False h = tt
place_above xs l True h = tt

place_child : (xs : List Record) (k : ℕ) (b : Bool) (r : Record) → child b (place_record xs k r) ≡ placing xs (child b r)
place_child xs k true r = refl
place_child xs k false r = refl

module _ (n : ℕ) (root : Target) (xs : List Record) (h : Listing n root xs) where
  ord : Ordered xs
  ord = ordered xs h.numbered

  abbrev ps : List Record
  ps = place_records xs 0 xs

  targets : Targeted ps
  targets x m b =
      let w = place_back xs 0 xs x m in
      let t = h.targeted w.0 w.1 b in
      subst⁻¹ (λ (y : Record). Within ps (child b y) × Above y.level (child b y)) w.2.1
      (subst⁻¹ (λ u. Within ps u × Above w.0.level u) (place_child xs w.2.0 b w.0)
      (place_over xs ord (child b w.0) t.0, place_above xs w.0.level (child b w.0) t.1))

  pub rowing : Rowing n (placing xs root) ps
  rowing =
      record {
        rooted = place_rooted root xs h.rooted;
        levelled = λ x m. let w = place_back xs 0 xs x m in subst⁻¹ (λ (y : Record). y.level < n) w.2.1 (h.levelled w.0 w.1);
        placed = place_placed xs 0 xs;
        monotone = place_monotone xs 0 xs h.numbered;
        targeted = targets;
        aimed = place_aimed xs ord h.aimed;
      }

  replaced : (r : Record) → In r xs → Replaced (placing xs) ps r
  replaced r m = inr (place_record xs (place_of xs 0 (node r)) r, place_in xs 0 xs ord r m, refl, record { level = refl; low = refl; high = refl })

  pub renamed_same : (s : Choice) → walk ps s (placing xs root) ≡ walk xs s root
  renamed_same s =
      image_same ps (placing xs) refl refl (inner_rows n (placing xs root) ps rowing).chained xs (chain n root xs h) replaced root (root_within root xs h.rooted) s

  pub renamed_normal : (root' : Target) (ys : List Record) → Normalizes n (placing xs root) ps root' ys → Normalizes n root xs root' ys
  renamed_normal root' ys g = record { listing = g.listing; normal = g.normal; same = λ s len. g.same s len ∙ renamed_same (fact s) }
