use Rattle.std.proofs.Common.{◌≡◌, IfSome, Some, slice_get, sym, subst}
use Rattle.gil_values.proofs.Lists.{slice_get-read}
use Rattle.pure_terms.specs.Meaning.{IsOver}
use Rattle.pure_terms.specs.Pure.{term_of}
use Rattle.sym_evaluation.specs.View.{fault_case_view, faults_view}
use Rattle.pure_terms.specs.View.{atoms_view}
use Rattle.sym_model.proofs.ListLaws.{each_at, one_at}
use Rattle.sym_model.specs.Lists.{Each}
use Rattle.checked_rows.specs.Doubts.{IsToldThere}
use Rattle.checked_rows.specs.Reading.{DoubtsFault}
use Rattle.checked_rows.specs.View.{doubt_view}
use Rattle.checked_rows.proofs.reading.fault_there.Goals as goal

pub doubt_there-requires-clause-more : goal.doubt_there-requires-clause-more
doubt_there-requires-clause-more g c =
    let items = c.as_slice-fault-items.result.now in
    let at : slice_get (faults_view items) c.loop-fault.fault-index ≡ Some (fault_case_view c.fault-item.result) =
    slice_get-read fault_case_view items c.loop-fault.fault-index c.fault-item.result c.loop-fault-test.true c.fault-item.is in
    each_at (λ f. Each (λ a. IsOver c.args.vars.now (term_of a)) f.conds) (faults_view items) c.loop-fault.fault-index (fault_case_view c.fault-item.result)
    (subst (λ xs. Each (λ f. Each (λ a. IsOver c.args.vars.now (term_of a)) f.conds) (faults_view xs)) (sym c.as_slice-fault-items.ensures) c.requires.faults) at

pub returns-in-Some-clause-doubt : goal.returns-in-Some-clause-doubt
returns-in-Some-clause-doubt g c =
    let items = c.as_slice-fault-items.result.now in
    let vars = c.args.vars.now in
    let conds = atoms_view c.args.conds.now in
    let d = doubt_view c.in-Some.doubt in
    let at : slice_get (faults_view items) c.loop-fault.fault-index ≡ Some (fault_case_view c.fault-item.result) =
    slice_get-read fault_case_view items c.loop-fault.fault-index c.fault-item.result c.loop-fault-test.true c.fault-item.is in
    let told = subst (λ o. IfSome o (λ k. IsToldThere vars conds (fault_case_view c.fault-item.result).conds (doubt_view k))) c.in-Some.is c.in_ok-doubt.ensures.doubt in
    subst (λ xs. DoubtsFault vars conds (faults_view xs) d) c.as_slice-fault-items.ensures
    (one_at (λ f. IsToldThere vars conds f.conds d) (faults_view items) c.loop-fault.fault-index (fault_case_view c.fault-item.result) at told)
