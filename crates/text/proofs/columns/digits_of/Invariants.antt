use Rattle.std.proofs.Common.{◌≡◌, ◌^◌, ◌<◌, drop}
use Rattle.text.specs.Columns.{digits}
use Rattle.text.proofs.columns.digits_of.Given as goal

abbrev pub invariant-loop-b : goal.invariant-loop-b
invariant-loop-b l = (digits l.value (drop l.b-index l.text) ≡ digits 0 l.text) × (l.value < 10 ^ l.b-index)
