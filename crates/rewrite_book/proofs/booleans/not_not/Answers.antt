use Rattle.rewrite_book.specs.Forms.{not_not}
use Rattle.rewrite_book.proofs.Shipped.{answers_well, not_not_simplifies}
use Rattle.rewrite_book.proofs.booleans.not_not.Goals as goal

pub returns-clause-well : goal.returns-clause-well
returns-clause-well c = answers_well c.args.t.now c.operand_of_two.result not_not not_not_simplifies c.operand_of_two.ensures
