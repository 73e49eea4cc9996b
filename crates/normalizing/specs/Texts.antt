-- What making a text normal comes to.
use Rattle.std.specs.Prelude.{◌≡◌, ℕ, ◌+◌, ◌*◌, ◌<◌, ◌≤◌, List, length, take, Some, None, Ok, Err, Result, MatchResult}
use Rattle.listing.specs.declared.Target.{Target}
use Rattle.listing.specs.declared.Record.{Record}
use Rattle.listing.specs.Settings.{Facts}
use Rattle.text.specs.Layout.{facts_of, root_of, records_of, text_fault}
use Rattle.text_writing.specs.declared.faults.WriteFault.{WriteFault}
use Rattle.text_writing.specs.Writing.{Wrote, Tells, Reported}
use Rattle.listing.specs.declared.Stored.{Stored}
use Rattle.reduce.specs.Loading.{Spaces, Untouched, Fitting, Loads}
use Rattle.normalizing.specs.declared.faults.NormalFault.{NormalFault}
use Rattle.normalizing.specs.declared.faults.NormalFault.TheVariants as fault
use Rattle.normalizing.specs.Faults.{told}

-- the input is short enough, its text has no fault, and its n is allowed
pub record Readable (input : List ℕ) : Type 0 where
  pub short : length input ≤ 15986
  pub faultless : text_fault input ≡ None
  pub facts : Facts (facts_of input)

-- the text's listing is loaded, and the normal listing's text is written: its first `len` bytes tell that listing
pub record Made (input : List ℕ) (s : Spaces) (before after : List ℕ) (len : ℕ) : Type 0 where
  pub root : Target
  pub records : List Record
  pub fitting : Fitting (facts_of input) (root_of input) (records_of input) root records
  pub loaded : (d : Stored) × Loads (facts_of input) (facts_of input) (root_of input) (records_of input) s (Ok d)
  pub wrote : Wrote (facts_of input) root records before after len
  pub tells : Tells (facts_of input) root records (take len after)

-- the text's listing is loaded, and the output is too short for the normal listing's text
pub record Unwritten (input : List ℕ) (s : Spaces) (before : List ℕ) : Type 0 where
  pub told : Stored
  pub loaded : Loads (facts_of input) (facts_of input) (root_of input) (records_of input) s (Ok told)
  pub lacks : length before < 21 + 31 * told.count

-- what is answered for an input, the caller's work space and output: the first fault, in the order told, and then the
-- output is as it was, or the normal text
abbrev pub Normalized : List ℕ → Spaces → List ℕ → List ℕ → Result ℕ NormalFault → Type 0
Normalized input s before after (Err fault.Input) = (15986 < length input) × Untouched s × (after ≡ before)
Normalized input s before after (Err (fault.Text f)) = (length input ≤ 15986) × (text_fault input ≡ Some f) × Untouched s × (after ≡ before)
Normalized input s before after (Err fault.Facts) = (length input ≤ 15986) × (text_fault input ≡ None) × (Facts (facts_of input) → ⊥) × Untouched s × (after ≡ before)
Normalized input s before after (Err (fault.Load f)) = Readable input × Loads (facts_of input) (facts_of input) (root_of input) (records_of input) s (Err f) × (after ≡ before)
Normalized input s before after (Err (fault.Write f)) = Readable input × Unwritten input s before × (after ≡ before)
Normalized input s before after (Ok len) = Readable input × Made input s before after len

-- what is put out: the normal text, or the line of the fault; an output too short for that line stays as it was
abbrev pub Printed : Result ℕ NormalFault → List ℕ → List ℕ → Result ℕ WriteFault → Type 0
Printed (Ok len) middle after r = (after ≡ middle) × (r ≡ Ok len)
Printed (Err f) middle after r = MatchResult r (λ len. Reported (told f) middle after len) (λ _. (length middle < 19) × (after ≡ middle))

-- the bytes that are put out for an input: what is made of it, printed
pub record Answered (input : List ℕ) (s : Spaces) (before after : List ℕ) (r : Result ℕ WriteFault) : Type 0 where
  pub outcome : Result ℕ NormalFault
  pub middle : List ℕ
  pub normalized : Normalized input s before middle outcome
  pub printed : Printed outcome middle after r
