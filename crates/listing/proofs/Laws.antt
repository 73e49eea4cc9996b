-- The laws of a value.
use Rattle.std.proofs.Common.{◌≡◌, Bool, ◌⊎◌, List, [], ◌∷◌, sym, refl, ap, ◌∙◌, inl, inr}
use mathlib.Core.Path.{subst⁻¹}
use Rattle.listing.specs.declared.Target.{Target}
use Rattle.listing.specs.declared.Target.TheVariants.{Node, False, True}
use Rattle.listing.specs.declared.Record.{Record}
use Rattle.listing.specs.Members.{In}
use Rattle.listing.specs.Listing.{node, child, walk, value, Within}
use Rattle.listing.specs.Settings.{fact}
use Rattle.listing.specs.Meaning.{Values, OnlyValue}
use Rattle.listing.proofs.Walk.{Choice, Chain, strip, within_node, child_within, walk_hit, walk_within}
use Rattle.listing.proofs.Unique.{walk_false, walk_true}
use Rattle.listing.proofs.Rules.{chain}

pub walk_node : (rs : List Record) → Chain rs → (s : Choice) (r : Record) → In r rs → walk rs s (node r) ≡ walk rs s (child (s r.level) r)
walk_node [] ch s r m = absurd m
walk_node (q ∷ rs) ch s r (inl e) =
    subst⁻¹ (λ (x : Record). walk (q ∷ rs) s (node x) ≡ walk (q ∷ rs) s (child (s x.level) x)) e
    (walk_hit q rs s ∙ sym (walk_within q rs ch.0 s (child (s q.level) q) (ch.1 (s q.level))))
walk_node (q ∷ rs) ch s r (inr m) =
    walk_within q rs ch.0 s (node r) (within_node rs r m) ∙
    walk_node rs ch.3 s r m ∙
    sym (walk_within q rs ch.0 s (child (s r.level) r) (child_within rs ch.3 r m (s r.level)))

pub value_laws : (rs : List Record) → Chain rs → (s : List Bool) → Values rs s (value rs s)
value_laws rs ch s = record { at_true = walk_true rs (fact s); at_false = walk_false rs (fact s); at_node = walk_node rs ch (fact s) }

pub value_only : (rs : List Record) → Chain rs → (s : List Bool) (v : Target → Bool) → Values rs s v → (t : Target) → Within rs t → v t ≡ value rs s t
value_only [] ch s v h (Node a i) o = absurd o.1
value_only [] ch s v h False o = h.at_false
value_only [] ch s v h True o = h.at_true
value_only (r ∷ rs) ch s v h t o = by (value_only rs ch.3 s v (record { at_true = h.at_true; at_false = h.at_false; at_node = λ q m. h.at_node q (inr m) })) (strip r rs t o)
  where
    by : ((u : Target) → Within rs u → v u ≡ value rs s u) → (t ≡ node r) ⊎ Within rs t → v t ≡ value (r ∷ rs) s t
    by ih (inl e) =
        ap v e ∙ h.at_node r (inl refl) ∙ ih (child (fact s r.level) r) (ch.1 (fact s r.level)) ∙ sym (walk_hit r rs (fact s)) ∙ ap (value (r ∷ rs) s) (sym e)
    by ih (inr k) = ih t k ∙ sym (walk_within r rs ch.0 (fact s) t k)

pub only_value : (root : Target) (rs : List Record) (s : List Bool) → OnlyValue root rs s
only_value root rs s n ls len = (value_laws rs (chain n root rs ls) s, value_only rs (chain n root rs ls) s)
