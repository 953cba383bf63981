use Rattle.gil_values.specs.declared.operators.BinOp.{BinOp}
use Rattle.pure_terms.specs.declared.literals.Literal.{Literal}
use Rattle.pure_terms.specs.Pure.{literal, list_of}
use Rattle.rewrite_book.specs.Forms.{nth_list}
use Rattle.rewrite_book.proofs.Shipped.{answers_well, nth_list_simplifies}
use Rattle.rewrite_book.proofs.lists.nth_list.Goals as goal

pub returns-clause-well : goal.returns-clause-well
returns-clause-well c =
    answers_well c.args.t.now c.element_of_list.result nth_list (nth_list_simplifies (λ ts i. c.folding_replaces.ensures.of_two BinOp.Nth (list_of ts) (literal (Literal.Int i)))) c.element_of_list.ensures
