use Rattle.std.proofs.Common.{◌≡◌, IfSome, Some, slice_get, sym, subst}
use Rattle.gil_values.proofs.Lists.{slice_get-read}
use Rattle.pure_terms.specs.Meaning.{IsOver}
use Rattle.pure_terms.specs.Pure.{term_of}
use Rattle.pure_terms.specs.View.{atoms_view}
use Rattle.sym_model.specs.Alternatives.{alternatives_view}
use Rattle.sym_model.proofs.ListLaws.{each_at, one_at}
use Rattle.sym_model.specs.Lists.{Each, OneOf}
use Rattle.checked_rows.specs.Doubts.{IsToldThere}
use Rattle.checked_rows.specs.View.{doubt_view}
use Rattle.checked_rows.proofs.ending.alternative_there.Goals as goal

pub doubt_there-requires-clause-more : goal.doubt_there-requires-clause-more
doubt_there-requires-clause-more g c =
    let items = c.as_slice-more-items.result.now in
    let at : slice_get (alternatives_view items) c.loop-more.more-index ≡ Some (atoms_view c.more-item.result) =
    slice_get-read atoms_view items c.loop-more.more-index c.more-item.result c.loop-more-test.true c.more-item.is in
    each_at (Each (λ a. IsOver c.args.vars.now (term_of a))) (alternatives_view items) c.loop-more.more-index (atoms_view c.more-item.result)
    (subst (λ xs. Each (Each (λ a. IsOver c.args.vars.now (term_of a))) (alternatives_view xs)) (sym c.as_slice-more-items.ensures) c.requires.alternatives) at

pub returns-in-Some-clause-doubt : goal.returns-in-Some-clause-doubt
returns-in-Some-clause-doubt g c =
    let items = c.as_slice-more-items.result.now in
    let vars = c.args.vars.now in
    let conds = atoms_view c.args.conds.now in
    let d = doubt_view c.in-Some.doubt in
    let at : slice_get (alternatives_view items) c.loop-more.more-index ≡ Some (atoms_view c.more-item.result) =
    slice_get-read atoms_view items c.loop-more.more-index c.more-item.result c.loop-more-test.true c.more-item.is in
    let told = subst (λ o. IfSome o (λ k. IsToldThere vars conds (atoms_view c.more-item.result) (doubt_view k))) c.in-Some.is c.in_ok-doubt.ensures.doubt in
    subst (λ xs. OneOf (λ more. IsToldThere vars conds more d) (alternatives_view xs)) c.as_slice-more-items.ensures
    (one_at (λ more. IsToldThere vars conds more d) (alternatives_view items) c.loop-more.more-index (atoms_view c.more-item.result) at told)
