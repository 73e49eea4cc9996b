-- The numbers of the rules.
use Rattle.std.specs.Prelude.{ℕ}
use Rattle.rows.specs.declared.faults.Rule.{Rule}
use Rattle.rows.specs.declared.faults.Rule.TheVariants as rule

abbrev pub rule_number : Rule → ℕ
rule_number rule.Root = 1
rule_number rule.Level = 2
rule_number rule.Number = 3
rule_number rule.Target = 4
rule_number rule.Aim = 5
