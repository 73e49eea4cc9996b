use Rattle.std.proofs.Common.{drop}
use Rattle.text_writing.proofs.Written.{text_made}
use Rattle.text_writing.proofs.Again.{front_again}
use Rattle.text_writing.proofs.writing.put_text.Goals as goal

pub returns : goal.returns
returns g c =
    let n = g.S.Source.facts c.args.source.now in
    let root = g.S.Source.top c.args.source.now in
    let rs = g.S.Source.listed c.args.source.now in
    let text = text_made n root rs c.args.out.now c.put_header.new.out c.put_lines.new.out c.args.len c.requires.size c.put_header.ensures c.put_lines.ensures in
    record {
      wrote = record { size = c.requires.size; text = text };
      again = front_again n root rs _ (drop c.args.len c.args.out.now) c.args.len c.requires.size text;
    }
