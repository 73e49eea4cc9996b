-- Facts and settings.
use Rattle.std.specs.Prelude.{◌≡◌, ℕ, zero, suc, ◌^◌, ◌≤◌, Bool, true, false, List, [], ◌∷◌, ◌++◌, map, length, ◌==◌, slice_index_or}
use Rattle.listing.specs.Members.{In, Distinct}

-- Facts are yes/no questions about an entry, numbered from 0; fact i stands on level i. A diagram has 1 to 512 of them.
abbrev pub Facts : ℕ → Type 0
Facts n = (1 ≤ n) × (n ≤ 512)

-- A setting gives each of n facts 0 or 1: it is a list of n bits, bit i for fact i.
abbrev pub Setting : ℕ → List Bool → Type 0
Setting n s = length s ≡ n

-- what a setting gives fact i; a setting has no say on facts behind its last, and 0 stands there
abbrev pub fact : List Bool → ℕ → Bool
fact s i = slice_index_or s i false

-- Programs write a setting as one byte a fact, 0 or 1: the bit of a byte.
abbrev pub bit : ℕ → Bool
bit b = b == 1

-- all settings of n facts
abbrev pub settings : ℕ → List (List Bool)
settings zero = [] ∷ []
settings (suc n) = map (λ s. false ∷ s) (settings n) ++ map (λ s. true ∷ s) (settings n)

-- `settings n` has every setting of n facts, nothing else, and each once: 2 ^ n of them
pub record Counted (n : ℕ) : Type 0 where
  pub count : length (settings n) ≡ 2 ^ n
  pub every : (s : List Bool) → Setting n s → In s (settings n)
  pub only : (s : List Bool) → In s (settings n) → Setting n s
  pub once : Distinct (settings n)
