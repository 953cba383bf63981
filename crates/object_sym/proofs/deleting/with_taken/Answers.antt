use Rattle.std.proofs.Common.{List, ◌++◌, map, length, sym, ap, ◌∙◌}
use Rattle.std.proofs.lemmas.List.{length-map}
use Rattle.object_sym.specs.Table.{taken_from, taken, relisted}
use Rattle.pure_terms.specs.Pure.{list_of, from_list}
use Rattle.pure_terms.specs.View.{atoms_view, term_view}
use Rattle.sym_chunks.specs.ByPlace.{all_by_place}
use Rattle.sym_chunks.specs.Cases.{PureCase, case_of, missed_name}
use Rattle.sym_chunks.specs.Keys.{other_sub}
use Rattle.sym_chunks.specs.View.{cases_view}
use Rattle.sym_model.specs.Alternatives.{alternatives_view, both}
use Rattle.sym_model.specs.Pure.{PureSub, named}
use Rattle.sym_model.specs.View.{frag_view}
use Rattle.sym_chunks.proofs.Elements.{ok_to}
use Rattle.sym_chunks.proofs.Choosing.{joined_two}
use Rattle.object_sym.proofs.ListValues.{held_length}
use Rattle.object_sym.proofs.Steps.{taken_is}
use Rattle.object_sym.proofs.deleting.with_taken.Goals as goal

pub with_taken_somewhere-requires : goal.with_taken_somewhere-requires
with_taken_somewhere-requires c =
    ap length c.in_ok-less.ensures ∙ held_length (frag_view c.args.chunks.now) c.args.index (list_of (from_list (map term_view c.args.before.now ++ map term_view c.args.after.now)))

pub returns : goal.returns
returns c =
    let l = term_view c.args.l.now in
    let p = term_view c.args.p.now in
    let loc = term_view c.args.loc.now in
    let e = term_view c.args.e.now in
    let cs = frag_view c.args.chunks.now in
    let less = relisted cs c.args.index (map term_view c.args.before.now ++ map term_view c.args.after.now) in
    let y = alternatives_view c.in_ok-when.when in
    let others : PureSub → List PureCase = λ s. case_of (both y (all_by_place loc (λ d. other_sub s d.sub) cs)) cs (missed_name l p) in
    let when = c.in_ok-when.ensures ∙ (λ i. both (c.in_ok-here.ensures i) (c.in_ok-equal.ensures i)) in
    let first = c.in_ok-found.ensures ∙ (λ i. cases_view c.args.cases ++ taken_from y loc (c.in_ok-name.ensures i) (c.in_ok-less.ensures i) 0 cs) in
    ok_to c.with_missing.result _ _ (λ all is.
    joined_two (cases_view c.args.cases) (cases_view c.in_ok-found.found) (cases_view all) (taken_from y loc (named e) less 0 cs) (others (named e)) first (is ∙ (λ i. cases_view c.in_ok-found.found ++ others (c.in_ok-name.ensures i)))
    ∙ ap (λ x. cases_view c.args.cases ++ x) (taken_is y (λ none. c.if-len-eq0.false (c.len.ensures ∙ sym (length-map c.in_ok-when.when atoms_view) ∙ none)) l p cs less loc e ∙ ap (λ x. taken x l p cs less loc e) when)) c.with_missing.ensures
