-- False and True exchanged.
use Rattle.std.specs.Prelude.{◌≡◌, ℕ, Bool, not, List, map}
use Rattle.listing.specs.declared.Target.{Target}
use Rattle.listing.specs.declared.Target.TheVariants.{Node, False, True}
use Rattle.listing.specs.declared.Record.{Record}
use Rattle.listing.specs.Settings.{Setting}
use Rattle.listing.specs.Listing.{value, Listing}

abbrev pub exchanged : Target → Target
exchanged (Node l k) = Node l k
exchanged False = True
exchanged True = False

abbrev pub exchanged_record : Record → Record
exchanged_record r = record { level = r.level; number = r.number; low = exchanged r.low; high = exchanged r.high }

-- Of a listing by the rules, the exchange is a listing by the rules, and its value is the other one at every setting.
pub record Negated (n : ℕ) (root : Target) (rs : List Record) : Type 0 where
  pub listing : Listing n (exchanged root) (map exchanged_record rs)
  pub other : (s : List Bool) → Setting n s → value (map exchanged_record rs) s (exchanged root) ≡ not (value rs s root)

abbrev pub Negates : ℕ → Target → List Record → Type 0
Negates n root rs = Listing n root rs → Negated n root rs
