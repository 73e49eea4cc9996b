-- What a walk over a source's records has left.
use Rattle.std.specs.Prelude.{◌≡◌, ℕ, ◌+◌, List, [], ◌∷◌, take, drop, Option, MatchOption}
use Rattle.listing.specs.declared.Record.{Record}
use Rattle.source.specs.declared.walking.Walk.{Walk}

-- the records at the places that are left
abbrev pub left : {S : Type 0} → (S → List Record) → Walk S → List Record
left listed w = drop w.places.start (take w.places.end (listed w.source.now))

-- r is the first of the records from place a to place b, behind which those from a + 1 on come; without one, none is left
abbrev pub FirstFrom : List Record → ℕ → ℕ → Option Record → Type 0
FirstFrom xs a b r = MatchOption r ((drop a (take b xs) ≡ []) × (drop (a + 1) (take b xs) ≡ [])) (λ x. drop a (take b xs) ≡ x ∷ drop (a + 1) (take b xs))
