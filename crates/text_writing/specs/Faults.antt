-- The number, place and detail of the fault of writing a text.
use Rattle.listing.specs.declared.reports.Report.{Report}
use Rattle.text_writing.specs.declared.faults.WriteFault.{WriteFault}
use Rattle.text_writing.specs.declared.faults.WriteFault.TheVariants.{Short}

abbrev pub told_write : WriteFault → Report
told_write Short = record { number = 18; place = 0; detail = 0 }
