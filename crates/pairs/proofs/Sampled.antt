-- The samples, by computation.
use Rattle.std.proofs.Common.{◌≡◌, ℕ, ◌<◌, Bool, true, false, List, [], ◌∷◌, None, Option, refl, inl, inr, arith}
use mathlib.Core.Path.{subst⁻¹}
use Rattle.listing.specs.declared.Target.TheVariants.{False, True}
use Rattle.listing.specs.declared.Record.{Record}
use Rattle.listing.specs.Members.{In}
use Rattle.listing.specs.Listing.{child, Within, Above, Listing}
use Rattle.pairs.specs.declared.Pair.{Pair}
use Rattle.pairs.specs.declared.Fixed.{Fixed}
use Rattle.pairs.specs.Pairs.{Sides, leads, fixing, pair_level, move, kid, start, verdict, opens, ahead}
use Rattle.pairs.specs.Rows.{Rows, arc, arcs, done, Comes}
use Rattle.pairs.specs.Records.{place, name, row, records_of}
use Rattle.pairs.specs.Samples.{rec, just_one_rows, both_rows, turned_rows, fact_side, of_facts, JustOne, BothFacts, fact_set, Turned}
use Rattle.pairs.proofs.Model.{least, later, next, enter, sweep}
use Rattle.pairs.proofs.Exist.{rows_are}
use Rattle.pairs.proofs.Sweep.{model_right}

only : (P : Record → Type 0) (r : Record) → P r → (q : Record) → In q (r ∷ []) → P q
only P r h q (inl e) = subst⁻¹ P e h
only P r h q (inr m) = absurd m

arcs_of : (l : ℕ) (f : Option Fixed) (b : Bool) → Within (fact_side l f).records (child b (rec l 0 False True)) × Above l (child b (rec l 0 False True))
arcs_of l f true = (tt, tt)
arcs_of l f false = (tt, tt)

fact_lists : (l : ℕ) (f : Option Fixed) → l < 3 → Listing 3 (fact_side l f).root (fact_side l f).records
fact_lists l f h =
    record {
      rooted = refl;
      levelled = only (λ r. r.level < 3) (rec l 0 False True) h;
      numbered = (refl, tt);
      targeted = λ q m b. only (λ r. Within (fact_side l f).records (child b r) × Above r.level (child b r)) (rec l 0 False True) (arcs_of l f b) q m;
      aimed = tt;
    }

sides : (a b o : ℕ) (f : Option Fixed) → a < 3 → b < 3 → Sides (of_facts a b o f)
sides a b o f h g = record { left = fact_lists a None h; right = fact_lists b f g }

module _ (a b o : ℕ) (f : Option Fixed) (h : a < 3) (g : b < 3) where
  -- the rows of a run are those of a sweep that is done
  swept : (space capacity : ℕ) → (sweep (of_facts a b o f) space capacity).came ≡ done → Rows (of_facts a b o f) (sweep (of_facts a b o f) space capacity).rows
  swept space capacity e =
      let w = rows_are (of_facts a b o f) (sides a b o f h g) in
      subst⁻¹ (Rows (of_facts a b o f)) ((model_right (of_facts a b o f) (sides a b o f h g) w.0 w.1 space capacity).2 e) w.1

  came : (ps : List Pair) → Rows (of_facts a b o f) ps → (space capacity : ℕ) → Comes (of_facts a b o f) ps space capacity (sweep (of_facts a b o f) space capacity).came
  came ps w space capacity = (model_right (of_facts a b o f) (sides a b o f h g) ps w space capacity).0

rows_three : Rows (of_facts 0 1 6 None) just_one_rows
unfolding sweep enter next least later arcs arc opens verdict start kid move fixing leads pair_level ahead
rows_three = swept 0 1 6 None (omega arith) (omega arith) 3 2 refl

pub just_one : JustOne just_one_rows
unfolding sweep enter next least later arcs arc opens verdict start kid move fixing leads pair_level ahead place name row records_of
just_one =
    record {
      weights = record { one = (refl, refl); two = (refl, refl); four = (refl, refl); eight = (refl, refl) };
      rows = rows_three;
      records = refl;
      root = refl;
      tight = came 0 1 6 None (omega arith) (omega arith) just_one_rows rows_three 2 1;
      short = came 0 1 6 None (omega arith) (omega arith) just_one_rows rows_three 2 2;
      passes = came 0 1 6 None (omega arith) (omega arith) just_one_rows rows_three 3 2;
    }

rows_two : Rows (of_facts 0 2 8 None) both_rows
unfolding sweep enter next least later arcs arc opens verdict start kid move fixing leads pair_level ahead
rows_two = swept 0 2 8 None (omega arith) (omega arith) 2 1 refl

pub both_facts : BothFacts both_rows
unfolding sweep enter next least later arcs arc opens verdict start kid move fixing leads pair_level ahead place name row records_of
both_facts = record { rows = rows_two; records = refl; passes = came 0 2 8 None (omega arith) (omega arith) both_rows rows_two 2 1 }

pub turned : Turned turned_rows
unfolding sweep enter next least later arcs arc opens verdict start kid move fixing leads pair_level ahead place name row records_of
turned = record { rows = swept 0 1 6 fact_set (omega arith) (omega arith) 1 0 refl; records = refl }
