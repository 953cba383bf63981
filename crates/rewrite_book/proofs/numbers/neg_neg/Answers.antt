use Rattle.rewrite_book.specs.Forms.{neg_neg}
use Rattle.rewrite_book.proofs.Shipped.{answers_well, neg_neg_simplifies}
use Rattle.rewrite_book.proofs.numbers.neg_neg.Goals as goal

pub returns-clause-well : goal.returns-clause-well
returns-clause-well c = answers_well c.args.t.now c.operand_of_two.result neg_neg neg_neg_simplifies c.operand_of_two.ensures
