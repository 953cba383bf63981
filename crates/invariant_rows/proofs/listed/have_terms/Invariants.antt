use Rattle.std.proofs.Common.{◌≡◌, drop}
use Rattle.sym_evaluation.specs.View.{store_view}
use Rattle.invariant_rows.specs.Listed.{have_terms}
use Rattle.invariant_rows.proofs.listed.have_terms.Given as goal

abbrev pub invariant-loop-name : goal.invariant-loop-name
invariant-loop-name l = have_terms l.listed (store_view l.store) ≡ have_terms (drop l.name-index l.listed) (store_view l.store)
