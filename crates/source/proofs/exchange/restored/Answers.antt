use Rattle.std.proofs.Common.{length, ap, ◌∙◌}
use Rattle.std.specs.List.{slice_get}
use Rattle.source.proofs.Exchanging.{twice, twice_all, negates}
use Rattle.source.proofs.exchange.restored.Goals as goal

pub returns : goal.returns
returns g c =
    record {
      n = c.requires.n;
      root = c.requires.root ∙ twice (g.S.Source.top c.args.source.now);
      count = c.requires.count ∙ ap length (twice_all (g.S.Source.listed c.args.source.now));
      placed = c.requires.placed ∙ ap (λ rs. slice_get rs c.args.place) (twice_all (g.S.Source.listed c.args.source.now));
      negates = negates (g.S.Source.facts c.args.source.now) (g.S.Source.top c.args.source.now) (g.S.Source.listed c.args.source.now);
    }
