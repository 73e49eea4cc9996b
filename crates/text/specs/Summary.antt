-- What is counted of a text.
use Rattle.std.specs.Prelude.{◌≡◌, ℕ, ◌<◌, List, length, Some, None, slice_index}
use Rattle.source.specs.Counting.{on_level}
use Rattle.text.specs.declared.faults.TextFault.{TextFault}
use Rattle.text.specs.declared.summary.Summary.{Summary}
use Rattle.text.specs.Layout.{facts_of, root_of, records_of, text_fault}

-- the numbers are those of a text without a fault; `counts` has at each place the records on that level
pub record Summed (bs counts : List ℕ) (s : Summary) : Type 0 where
  pub faultless : text_fault bs ≡ None
  pub facts : s.facts ≡ facts_of bs
  pub records : s.records ≡ length (records_of bs)
  pub root : s.root ≡ root_of bs
  pub levels : (k : ℕ) → k < length counts → slice_index counts k ≡ on_level k (records_of bs)

-- the text's first fault is told; `Report::from` gives its number, place and detail, `told f`
abbrev pub Refuses : List ℕ → TextFault → Type 0
Refuses bs f = text_fault bs ≡ Some f
