use Rattle.pure_terms.specs.View.{terms_view}
use Rattle.sym_matching.specs.View.{test_view}
use Rattle.sym_model.specs.Alternatives.{alternatives_view}
use Rattle.invariant_rows.proofs.AskedLaws.{are_comparisons}
use Rattle.invariant_rows.proofs.DifferenceLaws.{terms_tell}
use Rattle.invariant_rows.proofs.differing.values_differ.Goals as goal

pub returns-clause-tells : goal.returns-clause-tells
returns-clause-tells c = terms_tell (terms_view c.args.left.now) (terms_view c.args.right.now) (test_view c.in_ok-test.test) c.in_ok-test.ensures.says c.in_ok-test.ensures.names

pub returns-clause-asked : goal.returns-clause-asked
returns-clause-asked c = are_comparisons (terms_view c.args.left.now) (terms_view c.args.right.now) (alternatives_view c.in_ok-test.test.otherwise) c.in_ok-test.ensures.origin.otherwise
