use Rattle.std.proofs.Common.{map, take, sym, ◌∙◌, arith}
use Rattle.std.proofs.lemmas.Bool.{eqb-false}
use Rattle.rows.specs.Rows.{entry_of}
use Rattle.rows.specs.Placing.{placing}
use Rattle.reduce.proofs.Loads.{rows_rowing, rows_normal}
use Rattle.reduce.proofs.loading.reduce_placed.Goals as goal

pub normalize-requires : goal.normalize-requires
normalize-requires g c = record {
  some = omega (arith, eqb-false _ _ (sym c.is_empty.ensures ∙ c.if-is_empty.false));
  small = c.requires.few;
  rows = (
    g.S.Source.facts c.args.source.now,
    placing (g.S.Source.listed c.args.source.now) (g.S.Source.top c.args.source.now),
    rows_rowing (g.S.Source.facts c.args.source.now) (g.S.Source.top c.args.source.now) (g.S.Source.listed c.args.source.now) c.args.rows.now c.requires.listing c.requires.placed,
  );
}

pub returns : goal.returns
returns g c = record {
  count = omega (arith, c.normalize.ensures.count);
  fitting = record {
    listing = c.requires.listing;
    normal = rows_normal (g.S.Source.facts c.args.source.now) (g.S.Source.top c.args.source.now) (g.S.Source.listed c.args.source.now) c.args.rows.now c.requires.listing c.requires.placed
        c.normalize.result.root (map entry_of (take c.normalize.result.count c.normalize.new.rows))
        (c.normalize.ensures.normal (g.S.Source.facts c.args.source.now) (placing (g.S.Source.listed c.args.source.now) (g.S.Source.top c.args.source.now))
        (rows_rowing (g.S.Source.facts c.args.source.now) (g.S.Source.top c.args.source.now) (g.S.Source.listed c.args.source.now) c.args.rows.now c.requires.listing c.requires.placed));
  };
}
