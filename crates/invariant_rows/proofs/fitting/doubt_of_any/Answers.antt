use Rattle.std.proofs.Common.{◌≡◌, Some, slice_get, sym, subst}
use Rattle.gil_values.proofs.Lists.{slice_get-read}
use Rattle.pure_terms.specs.Meaning.{IsOver}
use Rattle.pure_terms.specs.Pure.{term_of}
use Rattle.pure_terms.specs.View.{atoms_view}
use Rattle.sym_model.specs.Alternatives.{alternatives_view}
use Rattle.sym_model.proofs.ListLaws.{each_at, one_at}
use Rattle.sym_model.specs.Lists.{Each}
use Rattle.checked_rows.specs.Doubts.{IsToldThere}
use Rattle.checked_rows.specs.View.{doubt_view}
use Rattle.invariant_rows.specs.Fitting.{DoubtsOne}
use Rattle.invariant_rows.proofs.FitLaws.{if_some_to}
use Rattle.invariant_rows.proofs.fitting.doubt_of_any.Goals as goal

pub doubt_there-requires-clause-more : goal.doubt_there-requires-clause-more
doubt_there-requires-clause-more g c =
    let items = c.as_slice-more-items.result.now in
    let at : slice_get (alternatives_view items) c.loop-more.more-index ≡ Some (atoms_view c.more-item.result) =
    slice_get-read atoms_view items c.loop-more.more-index c.more-item.result c.loop-more-test.true c.more-item.is in
    each_at (Each (λ a. IsOver c.args.vars.now (term_of a))) (alternatives_view items) c.loop-more.more-index (atoms_view c.more-item.result)
    (subst (λ xs. Each (Each (λ a. IsOver c.args.vars.now (term_of a))) (alternatives_view xs)) (sym c.as_slice-more-items.ensures) c.requires.alternatives) at

pub returns-then-is_some-clause-doubt : goal.returns-then-is_some-clause-doubt
returns-then-is_some-clause-doubt g c =
    let vars = c.args.vars.now in
    let conds = atoms_view c.args.conds.now in
    let items = c.as_slice-more-items.result.now in
    let at : slice_get (alternatives_view items) c.loop-more.more-index ≡ Some (atoms_view c.more-item.result) =
    slice_get-read atoms_view items c.loop-more.more-index c.more-item.result c.loop-more-test.true c.more-item.is in
    if_some_to c.in_ok-doubt.doubt c.in_ok-doubt.ensures.doubt
    (λ d told. subst (λ xs. DoubtsOne vars conds (alternatives_view xs) (doubt_view d)) c.as_slice-more-items.ensures
    (one_at (λ more. IsToldThere vars conds more (doubt_view d)) (alternatives_view items) c.loop-more.more-index (atoms_view c.more-item.result) at told))
