-- The number, place and detail of the faults of opening a text, and each in words.
use Rattle.std.specs.Prelude.{ℕ, List, codes}
use Rattle.listing.specs.declared.reports.Report.{Report}
use Rattle.text.specs.declared.faults.TextFault.{TextFault}
use Rattle.text.specs.declared.faults.TextFault.TheVariants.{Length, Column}

abbrev pub told : TextFault → Report
told Length = record { number = 3; place = 0; detail = 0 }
told (Column line column) = record { number = 4; place = line; detail = column }

abbrev pub words : TextFault → List ℕ
words Length = codes "the text's length is wrong"
words (Column line column) = codes "a column is malformed"
