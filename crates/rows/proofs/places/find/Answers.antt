use Rattle.std.proofs.Common.{rules}
use Rattle.std.proofs.lemmas.List.Sorted.{answers_always}
use Rattle.listing.proofs.Rules.{ordered}
use Rattle.rows.proofs.Finding.{row_node, find_answer}
use Rattle.rows.proofs.places.find.Goals as goal

pub returns : goal.returns
returns c =
    let facts = c.binary_search_by_key.ensures in
    rw c.ok.ensures.value (find_answer c.args.rows.now (ordered _ c.requires) c.args.level c.args.number c.binary_search_by_key.result facts.bound (facts.position row_node (answers_always _ _ _ (λ f a r g called. search rules))))
