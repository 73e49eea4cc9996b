use Rattle.std.proofs.Common.{◌≡◌, Err, map, take, arith, rules}
use Rattle.std.proofs.lemmas.List.{length-map}
use Rattle.reduce.specs.declared.faults.LoadFault.TheVariants as fault
use Rattle.rows.specs.Rows.{entry_of}
use Rattle.reduce.proofs.loading.load_rows.Goals as goal

pub returns-in_err-copy_out : goal.returns-in_err-copy_out
returns-in_err-copy_out g c =
    let e : c.from_residual-in_err-copy_out.result ≡ Err fault.Space = search rules in
    let normal = take c.reduce_placed-reduced.result.count c.reduce_placed-reduced.new.rows in
    let lack = c.in_err-copy_out.ensures in
    rw e (c.reduce_placed-reduced.result.root, map entry_of normal, c.reduce_placed-reduced.ensures.fitting, omega (arith, lack.1, length-map normal entry_of), lack.2)
