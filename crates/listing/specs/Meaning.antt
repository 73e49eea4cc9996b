-- What the definitions of value and normal form come to.
use Rattle.std.specs.Prelude.{◌≡◌, ℕ, ◌≤◌, Bool, true, false, List, length, Decides}
use Rattle.listing.specs.declared.Target.{Target}
use Rattle.listing.specs.declared.Target.TheVariants.{False, True}
use Rattle.listing.specs.declared.Record.{Record}
use Rattle.listing.specs.Members.{In}
use Rattle.listing.specs.Settings.{fact, Setting}
use Rattle.listing.specs.Listing.{node, child, value, Within, Listing, Normal, Agree}
use Rattle.listing.specs.Tests.{is_listing, is_normal}

-- The three laws of a value at a setting: True has 1, False has 0, and each node has what the target has that its fact picks.
pub record Values (rs : List Record) (s : List Bool) (v : Target → Bool) : Type 0 where
  pub at_true : v True ≡ true
  pub at_false : v False ≡ false
  pub at_node : (r : Record) → In r rs → v (node r) ≡ v (child (fact s r.level) r)

-- On the targets of a listing by the rules, `value` obeys the laws of a value, and nothing else does.
abbrev pub OnlyValue : Target → List Record → List Bool → Type 0
OnlyValue root rs s =
    (n : ℕ) → Listing n root rs → Setting n s →
    Values rs s (value rs s) × ((v : Target → Bool) → Values rs s v → (t : Target) → Within rs t → v t ≡ value rs s t)

-- In a normal listing two targets are the same target exactly where their values agree at every setting.
abbrev pub ToldApart : Target → Target → Bool → Type 0
ToldApart t u r =
    (n : ℕ) (root : Target) (rs : List Record) → Listing n root rs → Normal rs → Within rs t → Within rs u →
    Decides r (Agree n rs t rs u)

-- Two normal listings over the same n have equal roots and records exactly where their values agree at all settings.
abbrev pub Canonical : Target → List Record → Target → List Record → Bool → Type 0
Canonical root xs root' ys r =
    (n : ℕ) → Listing n root xs → Normal xs → Listing n root' ys → Normal ys →
    Decides r (Agree n xs root ys root')

-- A listing by the rules that agrees with a normal listing at all settings has at least as many records.
abbrev pub Least : Target → List Record → Type 0
Least root xs =
    (n : ℕ) (root' : Target) (ys : List Record) → Listing n root xs → Normal xs → Listing n root' ys →
    Agree n xs root ys root' → length xs ≤ length ys

-- The tests of specs/Tests decide the rules and the normal form.
pub record Decided (n : ℕ) (root : Target) (rs : List Record) : Type 0 where
  pub listing : Decides (is_listing n root rs) (Listing n root rs)
  pub normal : Decides (is_normal rs) (Normal rs)
