use Rattle.std.proofs.Common.{refl, ◌∙◌, lit<}
use Rattle.std.proofs.Math.Nat.{one-le-pow}
use Rattle.text.proofs.Numbers.{text_numeral, text_short, text_begins, text_no_blank, numeral_zero, numeral_led, numeral_digits, below_wider}
use Rattle.text.proofs.columns.number_from.Goals as goal

pub returns-then-text-ne48 : goal.returns-then-text-ne48
returns-then-text-ne48 c = record {
  value = c.digits_of.ensures.value ∙ numeral_digits _ (text_begins c.args.column.now _ c.args.first c.requires.first refl) (text_no_blank c.args.column.now _ c.args.first c.requires.first refl) c.if-text-ne48.true ∙ text_numeral c.args.column.now _ c.args.first c.requires.first refl;
  below = below_wider c.digits_of.result _ _ (text_short c.args.column.now _ c.args.first c.requires.first refl) c.digits_of.ensures.below;
}

pub returns-then-text-eq1-clause-value : goal.returns-then-text-eq1-clause-value
returns-then-text-eq1-clause-value c = numeral_zero _ c.if-text-ne48.false c.if-text-eq1.true ∙ text_numeral c.args.column.now _ c.args.first c.requires.first refl

pub returns-else-text-eq1 : goal.returns-else-text-eq1
returns-else-text-eq1 c = record { value = numeral_led _ c.if-text-ne48.false c.if-text-eq1.false ∙ text_numeral c.args.column.now _ c.args.first c.requires.first refl; below = one-le-pow _ 10 (lit< tt) }
