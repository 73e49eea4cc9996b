use Rattle.std.proofs.Common.{◌<◌, ◌≢◌, length, get_or, rules}
use borrow.Author.Tests.{tests}
use Rattle.rows.specs.Rows.{no_row}
use Rattle.rows.proofs.Breaking.{number_zero, number_first}
use Rattle.rows.proofs.rules.number_break.Goals as goal

pub returns-then-is_some_and-clause-breaks : goal.returns-then-is_some_and-clause-breaks
returns-then-is_some_and-clause-breaks c =
    let b : 0 < length c.args.rows.now = search (rules, tests) in
    let n : (get_or c.args.rows.now 0 no_row).number ≢ 0 = search (rules, tests) in
    number_zero c.args.rows.now b n

pub returns-clause-breaks : goal.returns-clause-breaks
returns-clause-breaks c = number_first c.args.rows.now (λ b. search (rules, tests)) c.step_break.result c.step_break.ensures
