use Rattle.std.proofs.Common.{ℕ, ◌∙◌, subst, arith}
use Rattle.listing.specs.Settings.{Facts}
use Rattle.text.specs.Opened.{Opened}
use Rattle.normalizing.proofs.Making.{made}
use Rattle.normalizing.proofs.texts.normal_text.Goals as goal

pub returns : goal.returns
returns c =
    let o : Opened c.args.input.now c.in_ok-text.text = c.in_ok-text.ensures in
    let f : Facts c.n-n.result = c.facts_allowed.ensures.0 c.if-not-facts_allowed.false in (
      record { short = omega arith; faultless = o.faultless; facts = subst (λ (k : ℕ). Facts k) (c.n-n.ensures ∙ o.facts) f },
      made c.args.input.now c.in_ok-text.text _ c.in_ok-loaded.loaded c.n-n.result c.args.output.now c.write_front.new.output c.in_ok-len.len o c.n-n.ensures f
          c.in_ok-loaded.ensures c.in_ok-len.ensures,
    )
