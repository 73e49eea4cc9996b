use Rattle.std.proofs.Common.{◌≡◌, map, drop}
use Rattle.listing.specs.Settings.{bit}
use Rattle.listing.specs.Listing.{value}
use Rattle.listing.proofs.walking.walk_from.Given as goal

abbrev pub invariant-loop-r : goal.invariant-loop-r
invariant-loop-r l = value (drop l.r-index l.records) (map bit l.setting) l.target ≡ value l.records (map bit l.setting) l.initial.target
