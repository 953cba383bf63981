use Rattle.pure_terms.specs.View.{term_view}
use Rattle.rewrite_book.specs.ShippedRules.{answer_of}
use Rattle.rewrite_book.proofs.Shipped.{answers_no_term, other_heads}
use Rattle.rewrite_book.proofs.shipped_rules.ShippedRule.answer.Goals as goal

pub returns-clause-headed : goal.returns-clause-headed
returns-clause-headed c = λ not. answers_no_term c.args.t.now c.answer_by_form.result (answer_of c.args.self) (other_heads c.args.self (term_view c.args.t.now) not) c.answer_by_form.ensures.form
