-- The number, place and detail of the faults of loading.
use Rattle.listing.specs.declared.reports.Report.{Report}
use Rattle.rows.specs.Faults.{rule_number}
use Rattle.reduce.specs.declared.faults.LoadFault.{LoadFault}
use Rattle.reduce.specs.declared.faults.LoadFault.TheVariants as fault

abbrev pub told : LoadFault → Report
told fault.Facts = record { number = 10; place = 0; detail = 0 }
told fault.Records = record { number = 11; place = 0; detail = 0 }
told (fault.Row k) = record { number = 13; place = k; detail = 0 }
told (fault.Rule b) = record { number = 12; place = b.place; detail = rule_number b.rule }
told fault.Space = record { number = 15; place = 0; detail = 0 }
