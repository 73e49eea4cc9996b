-- A target in words.
use Rattle.std.specs.Prelude.{ℕ, List, ◌++◌, codes}
use Rattle.std.specs.Fmt.{decimal}
use Rattle.listing.specs.declared.Target.{Target}
use Rattle.listing.specs.declared.Target.TheVariants.{Node, False, True}

abbrev pub words : Target → List ℕ
words (Node level number) = codes "level " ++ (decimal level ++ (codes ", number " ++ decimal number))
words False = codes "False"
words True = codes "True"
