-- How many records a level has.
use Rattle.std.specs.Prelude.{ℕ, ◌+◌, cond, List, [], ◌∷◌, ◌==◌}
use Rattle.listing.specs.declared.Record.{Record}

-- how many of the records have level l
abbrev pub on_level : ℕ → List Record → ℕ
on_level l [] = 0
on_level l (r ∷ rs) = cond (r.level == l) 1 0 + on_level l rs
