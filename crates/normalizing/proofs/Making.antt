-- From a text that is loaded and written to the normal text.
use Rattle.std.proofs.Common.{◌≡◌, ℕ, ◌+◌, ◌*◌, ◌<◌, ◌≤◌, List, length, take, drop, IfOk, Ok, Err, Result, sym, ap, ◌∙◌, subst, arith, MatchResult}
use Rattle.std.proofs.lemmas.List.{take_at}
use Rattle.listing.specs.declared.Target.{Target}
use Rattle.listing.specs.declared.Record.{Record}
use Rattle.listing.specs.Settings.{Facts}
use Rattle.listing.proofs.Bridge.{least}
use Rattle.text_writing.specs.declared.faults.WriteFault.{WriteFault}
use Rattle.text.specs.declared.opening.Text.{Text}
use Rattle.text.specs.Layout.{facts_of, root_of, records_of}
use Rattle.text.specs.Opened.{listed_of, Opened}
use Rattle.text_writing.specs.Writing.{Wrote, OpensAgain}
use Rattle.listing.specs.declared.Stored.{Stored}
use Rattle.reduce.specs.Loading.{Spaces, Loads}
use Rattle.normalizing.specs.Texts.{Made}

-- what `write` says of the first k records
pub front : (n : ℕ) (root : Target) (xs ys : List Record) (k : ℕ) (before after : List ℕ) (r : Result ℕ WriteFault) → xs ≡ ys → length ys ≡ k →
    MatchResult r (λ len. Wrote n root xs before after len) (λ _. (length before < 21 + 31 * length xs) × (after ≡ before)) → IfOk r (λ len. OpensAgain n root xs (take len after)) →
    MatchResult r (λ len. Wrote n root ys before after len × OpensAgain n root ys (take len after)) (λ _. (length before < 21 + 31 * k) × (after ≡ before))
front n root xs ys k before after (Ok len) e l w a = subst (λ (zs : List Record). Wrote n root zs before after len × OpensAgain n root zs (take len after)) e (w, a)
front n root xs ys k before after (Err f) e l w a = (omega (arith, w.0, ap length e), w.1)

-- what was loaded, for the listing that the bytes tell
pub loads_of : (input : List ℕ) (t : Text) (s : Spaces) (d : Stored) (n : ℕ) → Opened input t → n ≡ t.n → Loads n t.n t.root (listed_of t) s (Ok d) → Loads (facts_of input) (facts_of input) (root_of input) (records_of input) s (Ok d)
loads_of input t s d n o e h =
    subst (λ (m : ℕ). Loads m (facts_of input) (root_of input) (records_of input) s (Ok d)) (e ∙ o.facts)
    (subst (λ (m : ℕ). Loads n m (root_of input) (records_of input) s (Ok d)) o.facts
    (subst (λ (r : Target). Loads n t.n r (records_of input) s (Ok d)) o.root
    (subst (λ (rs : List Record). Loads n t.n t.root rs s (Ok d)) o.records h)))

pub made : (input : List ℕ) (t : Text) (s : Spaces) (d : Stored) (n : ℕ) (before after : List ℕ) (len : ℕ) → Opened input t → n ≡ t.n → Facts n → Loads n t.n t.root (listed_of t) s (Ok d) →
    Wrote n d.root (take d.count s.records_after) before after len × OpensAgain n d.root (take d.count s.records_after) (take len after) → Made input s before after len
made input t s d n before after len o e f h w =
    let l = loads_of input t s d n o e h in
    let k = l.1 in
    let ys : List Record = k.records in
    let b : take d.count s.records_after ≡ k.records = ap (take d.count) k.after ∙ take_at k.records (drop (length k.records) s.records) d.count (sym k.count) in
    let m : n ≡ facts_of input = e ∙ o.facts in
    let v : Wrote (facts_of input) d.root k.records before after len × OpensAgain (facts_of input) d.root k.records (take len after) =
    subst (λ (q : ℕ). Wrote q d.root k.records before after len × OpensAgain q d.root k.records (take len after)) m
    (subst (λ (zs : List Record). Wrote n d.root zs before after len × OpensAgain n d.root zs (take len after)) b w) in
    let short : length k.records ≤ length (records_of input) =
    least d.root k.records (facts_of input) (root_of input) (records_of input) k.fitting.normal.listing k.fitting.normal.normal k.fitting.listing k.fitting.normal.same in
    record {
      root = d.root;
      records = k.records;
      fitting = k.fitting;
      loaded = (d, l);
      wrote = v.0;
      tells = v.1 (omega (arith, f.1)) (omega (arith, short, l.0.few)) k.fitting.normal.listing;
    }
