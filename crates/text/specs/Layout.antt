-- The layout of a text. The header's columns are n, N and the root's level and number; a record's line has its own
-- level and number, low's and high's. Columns are 4 and 6 bytes wide in turn, and a line feed ends each line.
use Rattle.std.specs.Prelude.{ℕ, zero, suc, ◌+◌, ◌*◌, ◌%◌, cond, List, [], ◌∷◌, length, drop, Some, None, Option, Result, MatchResult, ◌≡◌, ◌==◌, nat_lt, slice_index}
use Rattle.listing.specs.declared.Target.{Target}
use Rattle.listing.specs.declared.Target.TheVariants.{Node, False, True}
use Rattle.listing.specs.declared.Record.{Record}
use Rattle.text.specs.declared.faults.TextFault.{TextFault}
use Rattle.text.specs.declared.faults.TextFault.TheVariants.{Length, Column}
use Rattle.text.specs.Columns.{column_of, value_at}

-- how wide the column at place k of a line is, from 0
abbrev pub width : ℕ → ℕ
width k = cond (k % 2 == 0) 4 6

-- a level and a number as a target: on level n, 0 is False and 1 is True; any other pair is a node
abbrev pub target_of : ℕ → ℕ → ℕ → Target
target_of n level number = cond (level == n) (cond (number == 0) False (cond (number == 1) True (Node level number))) (Node level number)

-- the record on the line that the bytes begin with
abbrev pub record_of : ℕ → List ℕ → Record
record_of n bs = record {
  level = value_at bs 0 4;
  number = value_at bs 4 6;
  low = target_of n (value_at bs 10 4) (value_at bs 14 6);
  high = target_of n (value_at bs 20 4) (value_at bs 24 6);
}

-- the records on m lines
abbrev pub lines_of : ℕ → ℕ → List ℕ → List Record
lines_of zero n bs = []
lines_of (suc m) n bs = record_of n bs ∷ lines_of m n (drop 31 bs)

-- What a text says: n, N, the root and the records.
abbrev pub facts_of : List ℕ → ℕ
facts_of bs = value_at bs 0 4

abbrev pub count_of : List ℕ → ℕ
count_of bs = value_at bs 4 6

abbrev pub root_of : List ℕ → Target
root_of bs = target_of (facts_of bs) (value_at bs 10 4) (value_at bs 14 6)

abbrev pub records_of : List ℕ → List Record
records_of bs = lines_of (count_of bs) (facts_of bs) (drop 21 bs)

-- What is wrong with a text, if anything. Where a number is read, go on; else tell what is wrong.
abbrev pub if_read : {X : Type 0} → Option ℕ → X → X → X
if_read (Some v) rest wrong = rest
if_read None rest wrong = wrong

-- the number, from 1, of the first malformed column among the next m of a line, k columns being behind; then comes the line feed
abbrev pub line_fault : ℕ → ℕ → List ℕ → Option ℕ
line_fault zero k bs = cond (slice_index bs 0 == 10) None (Some (k + 1))
line_fault (suc m) k bs = if_read (column_of bs (width k)) (line_fault m (k + 1) (drop (width k) bs)) (Some (k + 1))

-- line k's fault, or else what follows
abbrev pub at_line : Option ℕ → ℕ → Option TextFault → Option TextFault
at_line (Some c) k rest = Some (Column k c)
at_line None k rest = rest

-- the first fault in m lines of records, the first of which is line k
abbrev pub lines_fault : ℕ → ℕ → List ℕ → Option TextFault
lines_fault zero k bs = None
lines_fault (suc m) k bs = at_line (line_fault 6 0 bs) k (lines_fault m (k + 1) (drop 31 bs))

-- behind a header that is well formed: the length has to fit N, then each line is tested
abbrev pub body_fault : List ℕ → Option TextFault
body_fault bs = cond (length bs == 21 + 31 * count_of bs) (lines_fault (count_of bs) 1 (drop 21 bs)) (Some Length)

-- the first fault of a text: too short for a header, then the header's columns, then the length, then the lines
abbrev pub text_fault : List ℕ → Option TextFault
text_fault bs = cond (nat_lt (length bs) 21) (Some Length) (at_line (line_fault 4 0 bs) 0 (body_fault bs))

-- a test finds the fault, if there is one, and tells it
abbrev pub Finds : {X : Type 0} → Option TextFault → Result X TextFault → Type 0
Finds o r = MatchResult r (λ _. o ≡ None) (λ f. o ≡ Some f)
