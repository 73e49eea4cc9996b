use Rattle.std.proofs.Common.{List, arith}
use mathlib.Core.Path.{subst⁻¹}
use Rattle.listing.specs.declared.Record.{Record}
use Rattle.rows.specs.Rows.{given}
use Rattle.reduce.specs.Contract.{Normalizes}
use Rattle.reduce.proofs.reduce_rows.normalize.Goals as goal

pub returns : goal.returns
returns c =
    record {
      count = omega (arith, c.compact-count.ensures.count);
      normal = λ n root g. subst⁻¹ (λ (v : List Record). Normalizes n root (given 0 c.args.rows.now) c.reduce-root.result v) c.compact-count.ensures.records (c.reduce-root.ensures n root g);
    }
