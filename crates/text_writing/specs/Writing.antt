-- The text of a listing, byte for byte, and what it tells when it is opened again.
use Rattle.std.specs.Prelude.{◌≡◌, ℕ, zero, suc, ◌+◌, ◌*◌, ◌/◌, ◌%◌, ◌≤◌, cond, List, [], ◌∷◌, ◌++◌, length, drop, None, ◌==◌}
use Rattle.std.specs.List.{flat_map}
use Rattle.listing.specs.declared.Target.{Target}
use Rattle.listing.specs.declared.Target.TheVariants.{Node, False, True}
use Rattle.listing.specs.declared.Record.{Record}
use Rattle.listing.specs.declared.reports.Report.{Report}
use Rattle.listing.specs.Listing.{depth, Listing}
use Rattle.text.specs.Layout.{facts_of, root_of, records_of, text_fault}

-- the last digit of v, or a blank where v is 0
abbrev pub lead : ℕ → ℕ
lead v = cond (v == 0) 32 (48 + v % 10)

-- what stands before a number's last digit in a column: the digits of v, after blanks, in `width` bytes
unfoldable pub leading : ℕ → ℕ → List ℕ
leading zero v = []
leading (suc width) v = leading width (v / 10) ++ (lead v ∷ [])

-- a number at the right end of a column, after blanks, without needless zeros; where it has more digits than the column is wide, its last digits
unfoldable pub padded : ℕ → ℕ → List ℕ
padded zero v = []
padded (suc width) v = leading width (v / 10) ++ ((48 + v % 10) ∷ [])

-- two columns of a line, 4 and 6 wide
unfoldable pub pair : ℕ → ℕ → List ℕ
pair first second = padded 4 first ++ padded 6 second

-- the number that a target is written by, on its depth as its level: False is on level n with number 0, True with number 1
abbrev pub number_of : Target → ℕ
number_of (Node l k) = k
number_of False = 0
number_of True = 1

-- a target's columns
abbrev pub aim : ℕ → Target → List ℕ
aim n t = pair (depth n t) (number_of t)

-- the header line: n, N and the root
unfoldable pub header : ℕ → ℕ → Target → List ℕ
header n count root = pair n count ++ (aim n root ++ (10 ∷ []))

-- the columns of a record's line and its line feed
unfoldable pub columns : ℕ → ℕ → ℕ → Target → Target → List ℕ
columns n level number low high = pair level number ++ (aim n low ++ (aim n high ++ (10 ∷ [])))

-- a record's line: its level and number, low and high
abbrev pub line : ℕ → Record → List ℕ
line n r = columns n r.level r.number r.low r.high

-- the text of a listing: the header, then a line for each record
unfoldable pub written : ℕ → Target → List Record → List ℕ
written n root rs = header n (length rs) root ++ flat_map (line n) rs

-- the bytes are a text without a fault that tells n, the root and the records
pub record Tells (n : ℕ) (top : Target) (rs : List Record) (bs : List ℕ) : Type 0 where
  pub faultless : text_fault bs ≡ None
  pub facts : facts_of bs ≡ n
  pub root : root_of bs ≡ top
  pub records : records_of bs ≡ rs

-- of a listing by the rules that fits the columns, the bytes tell the same again when they are opened
abbrev pub OpensAgain : ℕ → Target → List Record → List ℕ → Type 0
OpensAgain n root rs bs = n ≤ 9999 → length rs ≤ 999999 → Listing n root rs → Tells n root rs bs

-- the listing's text stands in the first `len` bytes, and the bytes behind it are as they were
pub record Wrote (n : ℕ) (root : Target) (rs : List Record) (before after : List ℕ) (len : ℕ) : Type 0 where
  pub size : len ≡ 21 + 31 * length rs
  pub text : after ≡ written n root rs ++ drop len before

-- what is told of a fault, as a line: number, place and detail in columns of 6, and a line feed
abbrev pub report_line : Report → List ℕ
report_line r = padded 6 r.number ++ (padded 6 r.place ++ (padded 6 r.detail ++ (10 ∷ [])))

-- a fault's line stands in the first 19 bytes, and the bytes behind it are as they were
pub record Reported (r : Report) (before after : List ℕ) (len : ℕ) : Type 0 where
  pub size : len ≡ 19
  pub text : after ≡ report_line r ++ drop 19 before
