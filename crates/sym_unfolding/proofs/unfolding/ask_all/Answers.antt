use Rattle.std.proofs.Common.{◌≡◌, ◌∷◌, ◌++◌, [], Some, map, take, slice_get, sym, subst}
use Rattle.std.specs.Option.{option_map}
use Rattle.gil_values.proofs.Lists.{slice_get-read}
use Rattle.pure_terms.specs.Meaning.{IsOver}
use Rattle.pure_terms.specs.Pure.{term_of}
use Rattle.pure_terms.specs.View.{atoms_view}
use Rattle.sym_model.specs.Alternatives.{alternatives_view}
use Rattle.sym_model.specs.Lists.{Each}
use Rattle.sym_model.specs.View.{path_view}
use Rattle.sym_model.proofs.ListLaws.{each_at}
use Rattle.sym_unfolding.specs.Answering.{ToldOfAll}
use Rattle.sym_unfolding.specs.View.{told_view}
use Rattle.sym_unfolding.proofs.AddLaws.{map_more}
use Rattle.sym_unfolding.proofs.UnfoldLaws.{told_more, told_met}
use Rattle.sym_unfolding.proofs.unfolding.ask_all.Goals as goal

pub ask_of-requires-clause-more : goal.ask_of-requires-clause-more
ask_of-requires-clause-more g c =
    each_at (Each (λ a. IsOver c.args.vars.now (term_of a))) (alternatives_view c.args.alternatives.now) c.loop-more.more-index (atoms_view c.more-item.result) c.requires.alternatives
    (subst (λ xs. slice_get (map atoms_view xs) c.loop-more.more-index ≡ Some (atoms_view c.more-item.result)) c.as_slice-more-items.ensures
    (slice_get-read atoms_view c.as_slice-more-items.result.now c.loop-more.more-index c.more-item.result c.loop-more-test.true c.more-item.is))

pub returns-then-is_met : goal.returns-then-is_met
returns-then-is_met g c =
    told_met c.args.vars.now (path_view c.args.conds.now) (alternatives_view c.args.alternatives.now) (atoms_view c.more-item.result) told_view c.in_ok-told.told c.loop-more.more-index
    (subst (λ xs. slice_get (map atoms_view xs) c.loop-more.more-index ≡ Some (atoms_view c.more-item.result)) c.as_slice-more-items.ensures
    (slice_get-read atoms_view c.as_slice-more-items.result.now c.loop-more.more-index c.more-item.result c.loop-more-test.true c.more-item.is))
    (c.is_met.ensures c.if-is_met.true) c.in_ok-told.ensures

pub loop-more-preserved : goal.loop-more-preserved
loop-more-preserved g c =
    let vars = c.args.vars.now in
    let conds = path_view c.args.conds.now in
    let xs = c.as_slice-more-items.result.now in
    let i = c.loop-more.more-index in
    let x = c.more-item.result in
    subst (λ alternatives. ToldOfAll vars conds alternatives (option_map told_view c.first_told-undecided.result)) (sym (map_more atoms_view xs i x c.loop-more-test.true c.more-item.is))
    (subst (ToldOfAll vars conds (map atoms_view (take i xs) ++ atoms_view x ∷ [])) (sym c.first_told-undecided.ensures)
    (told_more vars conds (map atoms_view (take i xs)) (atoms_view x) (option_map told_view c.loop-more.undecided) (option_map told_view c.in_ok-told.told) c.loop-more.invariant c.in_ok-told.ensures))
