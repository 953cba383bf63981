use Rattle.std.proofs.Common.{◌≡◌, rules}
use Rattle.pure_terms.specs.Folding.{folded_with_literal}
use Rattle.pure_terms.specs.Pure.{literal, binary_of}
use Rattle.pure_terms.specs.View.{term_view}
use Rattle.pure_terms.specs.declared.terms.Term.{the_lemmas}
use Rattle.pure_terms.proofs.Folded.{answers_equal}
use Rattle.pure_terms.proofs.folding.fold_shifts.Goals as goal

pub returns-in-None : goal.returns-in-None
returns-in-None c =
    let folds : binary_of c.args.op (binary_of c.args.inner (term_view c.args.operand.value) (term_view c.args.by.value)) (literal c.args.right)
    ≡ folded_with_literal c.args.op (binary_of c.args.inner (term_view c.args.operand.value) (term_view c.args.by.value)) c.args.right
    = rw c.deref.ensures at (c.in-None.ensures (term_view c.args.operand.value)) in
    answers_equal c.binary_term.result _ _ folds (search (rules, the_lemmas, c.binary_term.ensures))
