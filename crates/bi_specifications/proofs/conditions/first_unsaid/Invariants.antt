use Rattle.std.proofs.Common.{take, IsTrue}
use Rattle.pure_terms.specs.declared.variables.Sort.{Sort}
use Rattle.pure_terms.specs.Fragment.{has_fragment_form, names_sort}
use Rattle.pure_terms.specs.Pure.{term_of}
use Rattle.pure_terms.specs.View.{atoms_view}
use Rattle.sym_model.specs.Lists.{Each}
use Rattle.bi_specifications.proofs.conditions.first_unsaid.Given as goal

abbrev pub invariant-loop-condition : goal.invariant-loop-condition
invariant-loop-condition l = Each (λ a. IsTrue (has_fragment_form a) × IsTrue (names_sort Sort.Fresh (term_of a))) (atoms_view (take l.condition-index l.condition-items))
