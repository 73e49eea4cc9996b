-- What the exchange of False and True does to a listing.
use Rattle.std.proofs.Common.{◌≡◌, ℕ, ◌<◌, Bool, true, false, cond, not, ◌⊎◌, List, [], ◌∷◌, map, sym, refl, ap, ◌∙◌, ap₂, inl, inr}
use mathlib.Core.Path.{subst⁻¹}
use Rattle.std.proofs.lemmas.Bool.{cond-true, cond-false}
use Rattle.listing.specs.declared.Target.{Target}
use Rattle.listing.specs.declared.Target.TheVariants.{Node, False, True}
use Rattle.listing.specs.declared.Record.{Record}
use Rattle.listing.specs.Settings.{fact}
use Rattle.listing.specs.Listing.{node, names, child, walk, Within, Above, Rooted, Follows, Numbered, Aims, Reached, Aimed, Listing}
use Rattle.listing.proofs.Counting.{in_map, in_mapped}
use Rattle.listing.proofs.Walk.{Choice, Chain, strip, names_node, names_not, within_apart, walk_hit, walk_within}
use Rattle.listing.proofs.Rules.{chain, root_within}
use Rattle.source.specs.Exchange.{exchanged, exchanged_record, Negates}

pub twice : (t : Target) → exchanged (exchanged t) ≡ t
twice (Node l k) = refl
twice False = refl
twice True = refl

pub twice_record : (r : Record) → exchanged_record (exchanged_record r) ≡ r
twice_record r = λ i. record { level = r.level; number = r.number; low = twice r.low i; high = twice r.high i }

pub twice_all : (rs : List Record) → map exchanged_record (map exchanged_record rs) ≡ rs
twice_all [] = refl
twice_all (r ∷ rs) = ap₂ ◌∷◌ (twice_record r) (twice_all rs)

exchanged_child : (b : Bool) (r : Record) → child b (exchanged_record r) ≡ exchanged (child b r)
exchanged_child true r = refl
exchanged_child false r = refl

exchanged_names : (t : Target) (r : Record) → names (exchanged t) (exchanged_record r) ≡ names t r
exchanged_names (Node l k) r = refl
exchanged_names False r = refl
exchanged_names True r = refl

-- a node of the listing is one of the exchange
exchanged_within : (rs : List Record) (t : Target) → Within rs t → Within (map exchanged_record rs) (exchanged t)
exchanged_within rs (Node l k) o = (exchanged_record o.0, in_map exchanged_record o.0 rs o.1, o.2)
exchanged_within rs False o = tt
exchanged_within rs True o = tt

exchanged_above : (l : ℕ) (t : Target) → Above l t → Above l (exchanged t)
exchanged_above l (Node m k) h = h
exchanged_above l False h = tt
exchanged_above l True h = tt

exchanged_rooted : (t : Target) (rs : List Record) → Rooted t rs → Rooted (exchanged t) (map exchanged_record rs)
exchanged_rooted t [] (inl e) = inr (ap exchanged e)
exchanged_rooted t [] (inr e) = inl (ap exchanged e)
exchanged_rooted t (r ∷ rs) e = ap exchanged e

exchanged_follows : (p : Record) (rs : List Record) → Follows p rs → Follows (exchanged_record p) (map exchanged_record rs)
exchanged_follows p [] h = tt
exchanged_follows p (r ∷ rs) h = (h.0, exchanged_follows r rs h.1)

exchanged_numbered : (rs : List Record) → Numbered rs → Numbered (map exchanged_record rs)
exchanged_numbered [] h = tt
exchanged_numbered (r ∷ rs) h = (h.0, exchanged_follows r rs h.1)

exchanged_aims : (p r : Record) → Aims p r → Aims (exchanged_record p) (exchanged_record r)
exchanged_aims p r (inl e) = inl (ap exchanged e)
exchanged_aims p r (inr e) = inr (ap exchanged e)

exchanged_reached : (before rs : List Record) → Reached before rs → Reached (map exchanged_record before) (map exchanged_record rs)
exchanged_reached before [] h = tt
exchanged_reached before (r ∷ rs) h =
    ((exchanged_record h.0.0, in_map exchanged_record h.0.0 before h.0.1, exchanged_aims h.0.0 r h.0.2), exchanged_reached (r ∷ before) rs h.1)

exchanged_aimed : (rs : List Record) → Aimed rs → Aimed (map exchanged_record rs)
exchanged_aimed [] h = tt
exchanged_aimed (r ∷ rs) h = exchanged_reached (r ∷ []) rs h

pub exchanged_listing : (n : ℕ) (root : Target) (rs : List Record) → Listing n root rs → Listing n (exchanged root) (map exchanged_record rs)
exchanged_listing n root rs h =
    record {
      rooted = exchanged_rooted root rs h.rooted;
      levelled = λ r m. let w = in_mapped exchanged_record r rs m in subst⁻¹ (λ (x : Record). x.level < n) w.2 (h.levelled w.0 w.1);
      numbered = exchanged_numbered rs h.numbered;
      targeted = λ r m b.
          let w = in_mapped exchanged_record r rs m in
          let t = h.targeted w.0 w.1 b in
          subst⁻¹ (λ (x : Record). Within (map exchanged_record rs) (child b x) × Above x.level (child b x)) w.2
          (subst⁻¹ (λ u. Within (map exchanged_record rs) u × Above w.0.level u) (exchanged_child b w.0)
          (exchanged_within rs (child b w.0) t.0, exchanged_above w.0.level (child b w.0) t.1));
      aimed = exchanged_aimed rs h.aimed;
    }

-- on the targets of a listing, the exchange's value is the other one
pub walk_exchanged : (rs : List Record) → Chain rs → (s : Choice) (t : Target) → Within rs t → walk (map exchanged_record rs) s (exchanged t) ≡ not (walk rs s t)
walk_exchanged [] ch s (Node l k) o = absurd o.1
walk_exchanged [] ch s False o = refl
walk_exchanged [] ch s True o = refl
walk_exchanged (r ∷ rs) ch s t o =
    ap (λ b. cond b (walk (map exchanged_record rs) s (child (s r.level) (exchanged_record r))) (walk (map exchanged_record rs) s (exchanged t))) (exchanged_names t r) ∙
    by (walk_exchanged rs ch.3 s) (strip r rs t o)
  where
    by : ((u : Target) → Within rs u → walk (map exchanged_record rs) s (exchanged u) ≡ not (walk rs s u)) → (t ≡ node r) ⊎ Within rs t →
        cond (names t r) (walk (map exchanged_record rs) s (child (s r.level) (exchanged_record r))) (walk (map exchanged_record rs) s (exchanged t)) ≡ not (walk (r ∷ rs) s t)
    by ih (inl e) =
        cond-true _ _ _ (ap (λ u. names u r) e ∙ names_node r) ∙
        ap (walk (map exchanged_record rs) s) (exchanged_child (s r.level) r) ∙
        ih (child (s r.level) r) (ch.1 (s r.level)) ∙
        ap not (sym (ap (walk (r ∷ rs) s) e ∙ walk_hit r rs s))
    by ih (inr k) =
        cond-false _ _ _ (names_not t r (within_apart r rs ch.0 t k)) ∙ ih t k ∙ ap not (sym (walk_within r rs ch.0 s t k))

pub negates : (n : ℕ) (root : Target) (rs : List Record) → Negates n root rs
negates n root rs h =
    record {
      listing = exchanged_listing n root rs h;
      other = λ s len. walk_exchanged rs (chain n root rs h) (fact s) root (root_within root rs h.rooted);
    }
