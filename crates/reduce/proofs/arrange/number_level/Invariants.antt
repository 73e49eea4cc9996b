use Rattle.std.proofs.Common.{◌≡◌, ◌≤◌, ◌++◌, take, drop}
use Rattle.rows.specs.Rows.{zero_row}
use Rattle.reduce.specs.Passes.{number_rows}
use Rattle.reduce.proofs.arrange.number_level.Given as goal

abbrev pub invariant-loop-row : goal.invariant-loop-row
invariant-loop-row l =
    (number_rows zero_row 0 0 l.initial.block ≡ take l.row-index l.block ++ number_rows l.last l.number l.count (drop l.row-index l.initial.block)) ×
    (drop l.row-index l.block ≡ drop l.row-index l.initial.block) × (l.count ≤ l.row-index)
