use Rattle.std.proofs.Common.{◌≡◌, refl, ◌∙◌, arith}
use Rattle.text.specs.Layout.{facts_of}
use Rattle.text.specs.Opened.{WellFormed}
use Rattle.text.proofs.Lines.{header_value, header_root}
use Rattle.text.proofs.Reading.{well_formed, whole_lines}
use Rattle.text.proofs.opening.Text.behind.Goals as goal

pub invariant_of-result : goal.invariant_of-result
invariant_of-result c = record {
  faultless = c.requires.faultless;
  n_read = c.level_in-n.ensures ∙ header_value c.args.header.now c.args.bytes.now 0 4 c.requires.front (omega arith);
  root_read = c.target_of-root.ensures ∙ header_root c.args.header.now c.args.bytes.now c.level_in-n.result c.level_in.result c.value_in.result c.requires.front c.level_in-n.ensures c.level_in.ensures c.value_in.ensures.value;
}

pub returns : goal.returns
returns c =
    let w : WellFormed c.args.bytes.now = well_formed c.args.bytes.now c.requires.faultless in
    let e : c.level_in-n.result ≡ facts_of c.args.bytes.now = c.level_in-n.ensures ∙ header_value c.args.header.now c.args.bytes.now 0 4 c.requires.front (omega arith) in
    record {
      faultless = c.requires.faultless;
      well = w;
      bytes = refl;
      facts = e;
      root = c.target_of-root.ensures ∙ header_root c.args.header.now c.args.bytes.now c.level_in-n.result c.level_in.result c.value_in.result c.requires.front c.level_in-n.ensures c.level_in.ensures c.value_in.ensures.value;
      records = whole_lines c.args.bytes.now c.level_in-n.result w.size e;
    }
