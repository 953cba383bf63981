use Rattle.std.proofs.Common.{◌≡◌, IfNone, IfSome, sym, subst}
use Rattle.std.specs.Option.{option_map}
use Rattle.gil_syntax.specs.View.{exprs_view}
use Rattle.pure_terms.specs.View.{atoms_view, terms_view}
use Rattle.sym_evaluation.specs.View.{all_cases_view, faults_view, good_view, store_view}
use Rattle.sym_states.proofs.Values.{ok_to}
use Rattle.sym_states.specs.View.{state_view}
use Rattle.checked_rows.specs.Reading.{DoubtsFault, NeverTaken, Reads, taken}
use Rattle.checked_rows.specs.View.{doubt_view, reading_view}
use Rattle.checked_rows.proofs.ReadLaws.{doubt_in, reads_taken}
use Rattle.sym_states.specs.Producing.{IsAskedAmong}
use Rattle.checked_rows.specs.Asked.{ReadingAsks}
use Rattle.checked_rows.proofs.AskedLaws.{one_told_adds}
use Rattle.checked_rows.proofs.AskedStates.{taken_asks}
use Rattle.checked_rows.proofs.reading.read_all.Goals as goal

pub returns-in-None-clause-reads : goal.returns-in-None-clause-reads
returns-in-None-clause-reads g c =
    let s = state_view c.args.state in
    let bs = store_view c.args.store.now in
    let es = exprs_view c.args.expressions.now in
    let cases = all_cases_view c.in_ok-faults.field-0 in
    let none : NeverTaken c.args.state.vars (atoms_view c.atoms-conds.result.now) (faults_view c.in_ok-faults.field-0.faults) =
    subst (λ o. IfNone o (NeverTaken c.args.state.vars (atoms_view c.atoms-conds.result.now) (faults_view c.in_ok-faults.field-0.faults))) c.in-None.is c.in_ok-doubt.ensures.none in
    let never : NeverTaken s.vars s.conds cases.faults = subst (λ atoms. NeverTaken c.args.state.vars atoms (faults_view c.in_ok-faults.field-0.faults)) c.atoms-conds.ensures none in
    ok_to c.take_good.result (λ r. reading_view r ≡ taken s (option_map (good_view terms_view) c.in_ok-faults.field-0.good)) (λ r. Reads g.M.SymMemory.stands g.M.SymMemory.terms s bs es (reading_view r))
    (λ r is. subst (Reads g.M.SymMemory.stands g.M.SymMemory.terms s bs es) (sym is)
    (reads_taken g.M.SymMemory.stands g.M.SymMemory.terms s bs es cases c.in_ok-faults.ensures.cases never c.in_ok-faults.ensures.names c.requires.over c.requires.store_over))
    c.take_good.ensures

pub returns-in-Some-clause-reads : goal.returns-in-Some-clause-reads
returns-in-Some-clause-reads g c =
    let s = state_view c.args.state in
    let bs = store_view c.args.store.now in
    let es = exprs_view c.args.expressions.now in
    let cases = all_cases_view c.in_ok-faults.field-0 in
    let told : DoubtsFault c.args.state.vars (atoms_view c.atoms-conds.result.now) cases.faults (doubt_view c.in-Some.doubt) =
    subst (λ o. IfSome o (λ d. DoubtsFault c.args.state.vars (atoms_view c.atoms-conds.result.now) cases.faults (doubt_view d))) c.in-Some.is c.in_ok-doubt.ensures.doubt in
    doubt_in g.M.SymMemory.stands g.M.SymMemory.terms s bs es cases c.in_ok-faults.ensures.cases (doubt_view c.in-Some.doubt)
    (subst (λ conds. DoubtsFault s.vars conds cases.faults (doubt_view c.in-Some.doubt)) c.atoms-conds.ensures told)

pub returns-in-None-clause-asked : goal.returns-in-None-clause-asked
returns-in-None-clause-asked g c =
    let s = state_view c.args.state in
    let bs = store_view c.args.store.now in
    let es = exprs_view c.args.expressions.now in
    let cases = all_cases_view c.in_ok-faults.field-0 in
    let origin = c.in_ok-faults.ensures.origin in
    ok_to c.take_good.result (λ r. reading_view r ≡ taken s (option_map (good_view terms_view) c.in_ok-faults.field-0.good)) (λ r. ReadingAsks s.conds bs es (reading_view r))
    (λ r is. subst (ReadingAsks s.conds bs es) (sym is) (taken_asks s bs es cases.good origin.0.1 origin.1)) c.take_good.ensures

pub returns-in-Some-clause-asked : goal.returns-in-Some-clause-asked
returns-in-Some-clause-asked g c =
    let s = state_view c.args.state in
    let bs = store_view c.args.store.now in
    let es = exprs_view c.args.expressions.now in
    let cases = all_cases_view c.in_ok-faults.field-0 in
    let d = doubt_view c.in-Some.doubt in
    let told : DoubtsFault c.args.state.vars (atoms_view c.atoms-conds.result.now) cases.faults d =
    subst (λ o. IfSome o (λ k. DoubtsFault c.args.state.vars (atoms_view c.atoms-conds.result.now) cases.faults (doubt_view k))) c.in-Some.is c.in_ok-doubt.ensures.doubt in
    one_told_adds (IsAskedAmong bs es) s.vars s.conds (λ f. f.conds) cases.faults d c.in_ok-faults.ensures.origin.0.0 (subst (λ conds. DoubtsFault s.vars conds cases.faults d) c.atoms-conds.ensures told)
