use Rattle.std.proofs.Common.{◌≡◌, ◌++◌, map, take, drop}
use Rattle.rows.specs.Rows.{entry_of}
use Rattle.reduce.proofs.loading.copy_out.Given as goal

abbrev pub invariant-loop-place : goal.invariant-loop-place
invariant-loop-place l = l.records ≡ map entry_of (take l.place l.rows) ++ drop l.place l.initial.records
