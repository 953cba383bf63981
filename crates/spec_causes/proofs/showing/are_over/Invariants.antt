use Rattle.std.proofs.Common.{map, take}
use Rattle.pure_terms.specs.Meaning.{IsOver}
use Rattle.pure_terms.specs.Pure.{term_of}
use Rattle.pure_terms.specs.View.{atom_view}
use Rattle.sym_model.specs.Lists.{Each}
use Rattle.spec_causes.proofs.showing.are_over.Given as goal

abbrev pub invariant-loop-atom : goal.invariant-loop-atom
invariant-loop-atom l = Each (λ a. IsOver l.vars (term_of a)) (map atom_view (take l.atom-index l.atom-items))
