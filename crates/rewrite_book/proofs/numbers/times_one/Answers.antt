use Rattle.rewrite_book.specs.Forms.{times_one}
use Rattle.rewrite_book.proofs.Shipped.{answers_well, times_one_simplifies}
use Rattle.rewrite_book.proofs.numbers.times_one.Goals as goal

pub returns-clause-well : goal.returns-clause-well
returns-clause-well c = answers_well c.args.t.now c.without_number.result times_one times_one_simplifies c.without_number.ensures
