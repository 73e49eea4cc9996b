-- A number in a column: blanks, then decimal digits with no needless zero, up to the column's right end.
use Rattle.std.specs.Prelude.{ℕ, ◌+◌, ◌-◌, ◌*◌, Bool, cond, ◌&&◌, List, [], ◌∷◌, take, drop, Some, None, Option, ◌==◌, nat_le}
use Rattle.std.specs.Option.{unwrap_or}

abbrev pub is_digit : ℕ → Bool
is_digit b = nat_le 48 b && nat_le b 57

-- the number that digits make, behind those that make `before`; none where another byte is among them
abbrev pub digits : ℕ → List ℕ → Option ℕ
digits before [] = Some before
digits before (b ∷ bs) = cond (is_digit b) (digits (before * 10 + (b - 48)) bs) None

-- a zero that is not needless stands alone
abbrev pub alone : List ℕ → Option ℕ
alone [] = Some 0
alone (b ∷ bs) = None

-- blanks, then a number: 0 alone, or digits of which the first is not 0
abbrev pub numeral : List ℕ → Option ℕ
numeral [] = None
numeral (b ∷ bs) = cond (b == 32) (numeral bs) (cond (b == 48) (alone bs) (digits 0 (b ∷ bs)))

-- the number in the column that the first `width` bytes are; none where the column is malformed
abbrev pub column_of : List ℕ → ℕ → Option ℕ
column_of bs width = numeral (take width bs)

-- the number in the column of `width` bytes from `at` on, or 0 where the column is malformed
abbrev pub value_at : List ℕ → ℕ → ℕ → ℕ
value_at bs at width = unwrap_or (column_of (drop at bs) width) 0
