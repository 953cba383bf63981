use Rattle.std.proofs.Common.{map, IsTrue, sym, ap, ◌∙◌, true≢false}
use Rattle.gil_values.proofs.Joined.{element_read}
use Rattle.pure_terms.specs.declared.variables.Sort.{Sort}
use Rattle.pure_terms.specs.Fragment.{has_fragment_form, names_sort}
use Rattle.pure_terms.specs.Pure.{PureAtom, term_of}
use Rattle.pure_terms.specs.View.{atom_view, atoms_view}
use Rattle.sym_model.proofs.ListLaws.{each_at}
use Rattle.bi_specifications.proofs.conditions.first_unsaid.Goals.{then-not-has_fragment_form-via-then-not-has_fragment_form, then-not-has_fragment_form-via-else-not-has_fragment_form+then-not-names_sort}
use Rattle.bi_specifications.proofs.conditions.first_unsaid.Goals as goal

pub returns-then-not-has_fragment_form-clause-some : goal.returns-then-not-has_fragment_form-clause-some
returns-then-not-has_fragment_form-clause-some c = λ all.
    let here = element_read atom_view _ _ c.loop-condition.condition-index _ (ap (map atom_view) c.as_slice-condition-items.ensures) c.loop-condition-test.true c.condition-item.is in
    let said =
    each_at (λ (a : PureAtom). IsTrue (has_fragment_form a) × IsTrue (names_sort Sort.Fresh (term_of a))) (atoms_view c.args.late.now) c.loop-condition.condition-index (atom_view c.condition-item.result)
    all here in
    elim c.then-not-has_fragment_form.branch [
      | then-not-has_fragment_form-via-then-not-has_fragment_form w ↦
          true≢false (sym said.0 ∙ sym c.has_fragment_form.ensures ∙ w.if-not-has_fragment_form.true)
      | then-not-has_fragment_form-via-else-not-has_fragment_form+then-not-names_sort w ↦
          true≢false (sym said.1 ∙ ap (names_sort Sort.Fresh) (sym w.term.ensures) ∙ sym w.names_sort.ensures ∙ w.if-not-names_sort.true)
    ]
