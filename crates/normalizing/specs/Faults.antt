-- The number, place and detail of the faults of making a text normal.
use Rattle.listing.specs.declared.reports.Report.{Report}
use Rattle.text.specs.Faults as text
use Rattle.text_writing.specs.Faults as writing
use Rattle.reduce.specs.Faults as load
use Rattle.normalizing.specs.declared.faults.NormalFault.{NormalFault}
use Rattle.normalizing.specs.declared.faults.NormalFault.TheVariants.{Input, Text, Facts, Load, Write}

abbrev pub told : NormalFault → Report
told Input = record { number = 19; place = 0; detail = 0 }
told (Text f) = text.told f
told Facts = record { number = 1; place = 0; detail = 0 }
told (Load f) = load.told f
told (Write f) = writing.told_write f
