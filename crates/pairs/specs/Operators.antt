-- The operators' names and numbers.
use Rattle.std.specs.Prelude.{◌≡◌, ℕ, ◌<◌, Result, MatchResult}
use Rattle.pairs.specs.declared.operators.Operator.{Operator}
use Rattle.pairs.specs.declared.operators.Operator.TheVariants.{Never, Neither, OnlyRight, NotLeft, OnlyLeft, NotRight, Differ, NotBoth, Both, Agree, Right, LeftImplies, Left, RightImplies, Either, Always}
use Rattle.pairs.specs.declared.operators.NoOperator.{NoOperator}

-- the number of an operator
abbrev pub number_of : Operator → ℕ
number_of Never = 0
number_of Neither = 1
number_of OnlyRight = 2
number_of NotLeft = 3
number_of OnlyLeft = 4
number_of NotRight = 5
number_of Differ = 6
number_of NotBoth = 7
number_of Both = 8
number_of Agree = 9
number_of Right = 10
number_of LeftImplies = 11
number_of Left = 12
number_of RightImplies = 13
number_of Either = 14
number_of Always = 15

-- the operator with a number, or that number, which no operator has
abbrev pub Named : ℕ → Result Operator NoOperator → Type 0
Named number r = MatchResult r (λ o. number_of o ≡ number) (λ e. (e.number ≡ number) × (15 < number))
