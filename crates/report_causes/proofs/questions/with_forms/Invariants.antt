use Rattle.std.proofs.Common.{◌≡◌, ◌++◌, map, take}
use Rattle.pure_terms.specs.Pure.{opening}
use Rattle.pure_terms.specs.View.{atoms_view, term_view}
use Rattle.report_causes.proofs.questions.with_forms.Given as goal

abbrev pub invariant-loop-term : goal.invariant-loop-term
invariant-loop-term l = atoms_view l.atoms ≡ atoms_view l.conds ++ map opening (map term_view (take l.term-index l.term-items))
