use Rattle.std.proofs.Common.{◌++◌, refl, ap, ◌∙◌}
use Rattle.mem_model.specs.declared.failures.Failure.{Failure}
use Rattle.pure_terms.specs.Pure.{list_of, from_list, variable}
use Rattle.pure_terms.specs.View.{terms_view}
use Rattle.record_sym.specs.Table.{faulty, created}
use Rattle.sym_chunks.specs.Cases.{branches_of, failure}
use Rattle.sym_chunks.specs.NameTerms.{distinct_from}
use Rattle.sym_model.specs.Alternatives.{always}
use Rattle.sym_model.specs.Pure.{done}
use Rattle.sym_model.specs.View.{frag_view}
use Rattle.sym_chunks.proofs.Elements.{ok_to, of_elements}
use Rattle.record_sym.proofs.making.make_listed.Goals as goal

pub returns : goal.returns
returns c =
    let x = c.args.location in
    let ds = terms_view c.args.names.now in
    let cs = frag_view c.args.chunks.now in
    let made = branches_of (distinct_from always ds) (created x (list_of (from_list ds)) ds cs) (done (variable x)) in
    ok_to c.with_made.result _ _ (λ bs is.
    is ∙ ap (λ y. y ++ made) c.in_ok-branches.ensures
    ∙ of_elements (λ es. branches_of (faulty es) cs (failure Failure.Kind) ++ branches_of (distinct_from always es) (created x (list_of (from_list ds)) es cs) (done (variable x))) ds ds refl) c.with_made.ensures
