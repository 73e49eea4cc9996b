use Rattle.std.proofs.Common.{◌≡◌, ℕ, List, Ok, Err, Result, MatchResult, subst}
use Rattle.listing.specs.declared.Target.{Target}
use Rattle.listing.specs.declared.Record.{Record}
use Rattle.listing.specs.Listing.{Rooted, Levelled, Numbered, Targeted, Aimed, Listing}
use Rattle.rows.specs.declared.row.Row.{Row}
use Rattle.rows.specs.declared.faults.Break.{Break}
use Rattle.rows.specs.Rows.{given}
use Rattle.rows.specs.Breaks.{Broken}
use Rattle.rows.specs.Placing.{place_records}
use Rattle.rows.proofs.checking.check_rest.Goals as goal

module _ (n : ℕ) (root : Target) (rs : List Record) (rooted : Rooted root rs) (levelled : Levelled n rs) (after : List Row) where
  told : (r : Result (Unit {0}) Break) →
      MatchResult r (λ _. Numbered rs × Targeted rs × Aimed rs × (given 0 after ≡ place_records rs 0 rs)) (λ b. (m : ℕ) (top : Target) → Rooted top rs → Levelled m rs → Broken m top rs b.rule b.place) →
      MatchResult r (λ _. Listing n root rs × (given 0 after ≡ place_records rs 0 rs)) (λ b. Broken n root rs b.rule b.place)
  told (Ok u) h = (record { rooted = rooted; levelled = levelled; numbered = h.0; targeted = h.1; aimed = h.2 }, h.3)
  told (Err b) h = h n root rooted levelled

pub returns : goal.returns
returns c n root rs e rooted levelled =
    told n root rs rooted levelled c.try_rest.new.rows c.try_rest.result
    (subst (λ xs. MatchResult c.try_rest.result (λ _. Numbered xs × Targeted xs × Aimed xs × (given 0 c.try_rest.new.rows ≡ place_records xs 0 xs)) (λ b. (m : ℕ) (top : Target) → Rooted top xs → Levelled m xs → Broken m top xs b.rule b.place)) e c.try_rest.ensures)
