use Rattle.rewrite_book.specs.Forms.{plus_zero}
use Rattle.rewrite_book.proofs.Shipped.{answers_well, plus_zero_simplifies}
use Rattle.rewrite_book.proofs.numbers.plus_zero.Goals as goal

pub returns-clause-well : goal.returns-clause-well
returns-clause-well c = answers_well c.args.t.now c.without_number.result plus_zero plus_zero_simplifies c.without_number.ensures
