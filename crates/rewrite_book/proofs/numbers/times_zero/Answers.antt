use Rattle.rewrite_book.specs.Forms.{times_zero}
use Rattle.rewrite_book.proofs.Shipped.{answers_well, times_zero_simplifies}
use Rattle.rewrite_book.proofs.numbers.times_zero.Goals as goal

pub returns-clause-well : goal.returns-clause-well
returns-clause-well c = answers_well c.args.t.now c.zero_of_product.result times_zero times_zero_simplifies c.zero_of_product.ensures
