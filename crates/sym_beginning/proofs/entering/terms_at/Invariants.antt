use Rattle.std.proofs.Common.{take}
use Rattle.pure_terms.specs.View.{terms_view}
use Rattle.sym_evaluation.specs.View.{store_view}
use Rattle.sym_beginning.specs.Entering.{AreTermsAt}
use Rattle.sym_beginning.proofs.entering.terms_at.Given as goal

abbrev pub invariant-loop-name : goal.invariant-loop-name
invariant-loop-name l = AreTermsAt (store_view l.store) (take l.name-index l.name-items) (terms_view l.terms)
