-- The number, place and detail of the faults of a run.
use Rattle.listing.specs.declared.reports.Report.{Report}
use Rattle.sweep.specs.declared.faults.RunFault.{RunFault}
use Rattle.sweep.specs.declared.faults.RunFault.TheVariants as fault

abbrev pub told : RunFault → Report
told (fault.Row k) = record { number = 13; place = k; detail = 0 }
told (fault.Full f) = record { number = 14; place = f.element.carried.row; detail = 0 }
