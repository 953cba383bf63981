use Rattle.rewrite_book.specs.Forms.{same_equal}
use Rattle.rewrite_book.proofs.Shipped.{answers_well, same_equal_simplifies}
use Rattle.rewrite_book.proofs.booleans.same_equal.Goals as goal

pub returns-clause-well : goal.returns-clause-well
returns-clause-well c = answers_well c.args.t.now c.truth_of_equals.result same_equal same_equal_simplifies c.truth_of_equals.ensures
