use Rattle.std.proofs.Common.{◌≡◌, ◌-◌, length, get_or, sym, ◌∙◌, lit<, arith}
use Rattle.std.proofs.Math.Nat.{one-le-pow}
use Rattle.text.proofs.Numbers.{digits_yes, digits_no, digits_end, value_below, pow_8}
use Rattle.text.proofs.columns.digits_of.Goals as goal

pub returns-then-not-is_ascii_digit : goal.returns-then-not-is_ascii_digit
returns-then-not-is_ascii_digit c = record {
  value = digits_no c.args.text.now c.loop-b.b-index c.loop-b.value (omega arith) (sym c.if-not-is_ascii_digit.ensures.value) ∙ c.loop-b.invariant.0;
  below = one-le-pow (length c.args.text.now) 10 (lit< tt);
}

pub overflow_mul-value : goal.overflow_mul-value
overflow_mul-value c = omega (arith, pow_8 c.loop-b.b-index (omega arith))

pub overflow_add-value : goal.overflow_add-value
overflow_add-value c = omega (arith, pow_8 c.loop-b.b-index (omega arith))

pub loop-b-preserved : goal.loop-b-preserved
loop-b-preserved c = (
  digits_yes c.args.text.now c.loop-b.b-index c.loop-b.value (omega arith) (sym c.if-not-is_ascii_digit.ensures.value) ∙ c.loop-b.invariant.0,
  value_below c.loop-b.value (get_or c.args.text.now c.loop-b.b-index 0 - 48) c.loop-b.b-index c.loop-b.invariant.1 (grind arith),
)

pub returns : goal.returns
returns c =
    let e : c.loop-b.b-index ≡ length c.args.text.now = omega arith in
    record { value = digits_end c.args.text.now c.loop-b.b-index c.loop-b.value (omega arith) ∙ c.loop-b.invariant.0; below = rw e at c.loop-b.invariant.1 }
