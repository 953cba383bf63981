use Rattle.rewrite_book.specs.Forms.{len_list}
use Rattle.rewrite_book.proofs.Shipped.{answers_well, len_list_simplifies}
use Rattle.rewrite_book.proofs.lists.len_list.Goals as goal

pub returns-clause-well : goal.returns-clause-well
returns-clause-well c = answers_well c.args.t.now c.length_of_list.result len_list len_list_simplifies c.length_of_list.ensures
