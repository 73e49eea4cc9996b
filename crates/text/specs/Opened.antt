-- What a text tells once it is open, and what is then known of its bytes.
use Rattle.std.specs.Prelude.{◌≡◌, ℕ, ◌+◌, ◌-◌, ◌*◌, ◌/◌, ◌<◌, true, List, length, drop, is_some, None, slice_index_or}
use Rattle.listing.specs.declared.Record.{Record}
use Rattle.text.specs.declared.opening.Text.{Text}
use Rattle.text.specs.Columns.{column_of}
use Rattle.text.specs.Layout.{lines_of, facts_of, count_of, root_of, records_of, text_fault}

-- a header: four numbers and a line feed
pub record Header (bs : List ℕ) : Type 0 where
  pub facts : is_some (column_of bs 4) ≡ true
  pub count : is_some (column_of (drop 4 bs) 6) ≡ true
  pub root_level : is_some (column_of (drop 10 bs) 4) ≡ true
  pub root_number : is_some (column_of (drop 14 bs) 6) ≡ true
  pub feed : slice_index_or bs 20 0 ≡ 10

-- a record's line: six numbers and a line feed
pub record Line (bs : List ℕ) : Type 0 where
  pub own_level : is_some (column_of bs 4) ≡ true
  pub own_number : is_some (column_of (drop 4 bs) 6) ≡ true
  pub low_level : is_some (column_of (drop 10 bs) 4) ≡ true
  pub low_number : is_some (column_of (drop 14 bs) 6) ≡ true
  pub high_level : is_some (column_of (drop 20 bs) 4) ≡ true
  pub high_number : is_some (column_of (drop 24 bs) 6) ≡ true
  pub feed : slice_index_or bs 30 0 ≡ 10

-- a header, N lines of records, and nothing else
pub record WellFormed (bs : List ℕ) : Type 0 where
  pub size : length bs ≡ 21 + 31 * count_of bs
  pub header : Header bs
  pub lines : (i : ℕ) → i < count_of bs → Line (drop (21 + 31 * i) bs)

-- the records that a text shows as a source: those on the whole lines behind its header
abbrev pub listed_of : Text → List Record
listed_of t = lines_of ((length t.bytes.now - 21) / 31) t.n (drop 21 t.bytes.now)

-- t is the text of the bytes: it tells what they say, and no column of theirs is malformed
pub record Opened (bs : List ℕ) (t : Text) : Type 0 where
  pub faultless : text_fault bs ≡ None
  pub well : WellFormed bs
  pub bytes : t.bytes.now ≡ bs
  pub facts : t.n ≡ facts_of bs
  pub root : t.root ≡ root_of bs
  pub records : listed_of t ≡ records_of bs
