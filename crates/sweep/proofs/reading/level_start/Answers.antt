use Rattle.std.proofs.Common.{◌<◌, ◌≤◌, drop, rules, subst}
use mathlib.Core.Path.{subst⁻¹}
use borrow.Author.Tests.{tests}
use Rattle.std.proofs.lemmas.Iterator.{IsFirst-from_position}
use Rattle.std.proofs.lemmas.Iterator.Consumers.{YieldsList-from_first}
use Rattle.listing.specs.declared.Record.{Record}
use Rattle.source.specs.Walking.{left}
use Rattle.sweep.specs.Reading.{Starts}
use Rattle.sweep.proofs.Levels.{Found, starts_found, starts_nowhere}
use Rattle.sweep.proofs.reading.level_start.Given as given
use Rattle.sweep.proofs.reading.level_start.Goals as goal
use Rattle.sweep.proofs.reading.level_start.Goals.{After-position}

found : (g : given.Over) (c : goal.After-position g) → Found (g.S.Source.listed c.args.source.now) c.args.level c.args.from c.position.result
found g c =
    IsFirst-from_position c.position.new.self _ c.position.result (λ (r : Record). c.args.level ≤ r.level) (λ (r : Record). r.level < c.args.level) c.position.ensures.ran
    (YieldsList-from_first (λ x. x) (left g.S.Source.listed) (drop c.args.from (g.S.Source.listed c.args.source.now)) c.records_from.ensures.left) (λ x q k. search (rules, tests)) (λ x q k. search (rules, tests))

pub returns-in-Some-clause-starts : goal.returns-in-Some-clause-starts
returns-in-Some-clause-starts g c =
    starts_found (g.S.Source.listed c.args.source.now) c.requires.numbered c.args.level c.args.from c.in-Some.steps c.requires.passed
    (subst (Found (g.S.Source.listed c.args.source.now) c.args.level c.args.from) c.in-Some.is (found g (goal.at.returns-in-Some-clause-starts g c).After-position))

pub returns-in-None-clause-starts : goal.returns-in-None-clause-starts
returns-in-None-clause-starts g c =
    subst⁻¹ (Starts (g.S.Source.listed c.args.source.now) c.args.level) c.count.ensures
    (starts_nowhere (g.S.Source.listed c.args.source.now) c.args.level c.args.from c.requires.within c.requires.passed
    (subst (Found (g.S.Source.listed c.args.source.now) c.args.level c.args.from) c.in-None.is (found g (goal.at.returns-in-None-clause-starts g c).After-position)))
