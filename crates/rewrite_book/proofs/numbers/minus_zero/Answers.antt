use Rattle.rewrite_book.specs.Forms.{minus_zero}
use Rattle.rewrite_book.proofs.Shipped.{answers_well, minus_zero_simplifies}
use Rattle.rewrite_book.proofs.numbers.minus_zero.Goals as goal

pub returns-clause-well : goal.returns-clause-well
returns-clause-well c = answers_well c.args.t.now c.without_right_number.result minus_zero minus_zero_simplifies c.without_right_number.ensures
