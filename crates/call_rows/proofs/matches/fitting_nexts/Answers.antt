use Rattle.std.proofs.Common.{◌≡◌, [], ◌∷◌, inl, inr, sym, subst}
use Rattle.gil_values.specs.View.{values_view}
use Rattle.pure_terms.specs.View.{atoms_view}
use Rattle.sym_paths.specs.Asking.{IsOutside}
use Rattle.gil_syntax.specs.Program.{prog_view}
use Rattle.gil_syntax.specs.View.{spec_view}
use Rattle.footprint.specs.Consuming.{Matches, StopsAt}
use Rattle.footprint.specs.Leaves.{IsLonger, IsMatch, AreAll, IsUnmatched, IsAnswer}
use Rattle.footprint.specs.View.{matches_view, matching_view}
use Rattle.sym_evaluation.specs.Meaning.{IsStoreOver}
use Rattle.sym_evaluation.specs.View.{store_view}
use Rattle.sym_model.proofs.ListLaws.{each_to}
use Rattle.sym_paths.specs.Frames.{running_store}
use Rattle.sym_states.proofs.Values.{ok_to}
use Rattle.sym_states.specs.Meaning.{Serves}
use Rattle.sym_states.specs.View.{state_view}
use Rattle.checked_paths.specs.declared.nexts.FaultKind.{FaultKind}
use Rattle.checked_paths.specs.View.{checking_view, entry_view, nexts_view}
use Rattle.checked_rows.specs.Doubts.{under, beyond, IsDoubtAlone}
use Rattle.call_rows.specs.Gathering.{GathersNexts}
use Rattle.call_rows.specs.Matches.{MatchOver, AnswersMatch, AnswersFitting, scope_of}
use Rattle.call_rows.proofs.CallingLaws.{begun_over, running_over, match_over}
use Rattle.footprint.specs.Origins.{AddsOwn, AnswerComesFrom, EndComesFrom, IsOneOf}
use Rattle.sym_model.specs.Lists.{Each}
use Rattle.checked_paths.specs.Exactness.{HaveMoreOf}
use Rattle.checked_rows.specs.Asking.{AddsTo}
use Rattle.checked_rows.proofs.StateLaws.{state_conds}
use Rattle.call_rows.specs.Asked.{AddsToMatch, AsksFitting}
use Rattle.call_rows.proofs.AskedLaws.{From, comes_there, doubt_alone_adds, match_adds, unmatched_adds}
use Rattle.call_rows.proofs.GatheringLaws.{each_gathered}
use Rattle.call_rows.proofs.matches.fitting_nexts.Goals as goal

pub consume_all-requires-clause-over : goal.consume_all-requires-clause-over
consume_all-requires-clause-over g c =
    begun_over g.M.SymMemory.stands g.M.SymMemory.terms g.M.SymMemory.kept (entry_view c.args.spec.now c.args.entered.now) (checking_view c.args.checking.now) c.requires.over (state_view c.in_ok-state.state) c.in_ok-state.ensures

pub consume_all-requires-clause-store_over : goal.consume_all-requires-clause-store_over
consume_all-requires-clause-store_over g c =
    subst (IsStoreOver (state_view c.in_ok-state.state).vars) (sym c.in_ok-store.ensures)
    (running_over g.M.SymMemory.stands g.M.SymMemory.terms g.M.SymMemory.kept (entry_view c.args.spec.now c.args.entered.now) (checking_view c.args.checking.now) c.requires.over (state_view c.in_ok-state.state) c.in_ok-state.ensures)

pub matches_nexts-requires-clause-over : goal.matches_nexts-requires-clause-over
matches_nexts-requires-clause-over g c =
    let stands = g.M.SymMemory.stands in
    let terms = g.M.SymMemory.terms in
    let kept = g.M.SymMemory.kept in
    let p = prog_view c.args.prog.now in
    let e = entry_view c.args.spec.now c.args.entered.now in
    let y = checking_view c.args.checking.now in
    let s = state_view c.in_ok-state.state in
    let used = spec_view c.args.used.now in
    let If = Serves stands terms s (running_store y.path.stack) in
    let answer = subst (λ bs. IsAnswer stands terms kept s (Serves stands terms s bs) (Matches p.preds (scope_of used) used.pre) (StopsAt p.preds (scope_of used) used.pre) (matching_view c.in_ok-matches.field-0)) c.in_ok-store.ensures
    (subst (λ ps. IsAnswer stands terms kept s (Serves stands terms s (store_view c.in_ok-store.store)) (Matches p.preds ps used.pre) (StopsAt p.preds ps used.pre) (matching_view c.in_ok-matches.field-0)) c.in_ok-scope.ensures c.in_ok-matches.ensures.says) in
    let all : AreAll stands terms kept s If (Matches p.preds (scope_of used) used.pre) (matches_view c.in-All.matches) =
    subst (λ r. IsAnswer stands terms kept s If (Matches p.preds (scope_of used) used.pre) (StopsAt p.preds (scope_of used) used.pre) (matching_view r)) c.in-All.is answer in
    each_to (IsMatch stands terms kept s If (Matches p.preds (scope_of used) used.pre)) (MatchOver terms e y.path.given) (matches_view c.in-All.matches)
    (λ q match. match_over stands terms kept e y c.requires.over s c.in_ok-state.ensures If (Matches p.preds (scope_of used) used.pre) q match) all.matched

pub returns-in-All-clause-answers : goal.returns-in-All-clause-answers
returns-in-All-clause-answers g c =
    let stands = g.M.SymMemory.stands in
    let terms = g.M.SymMemory.terms in
    let kept = g.M.SymMemory.kept in
    let memory = g.M.Local.LocalMemory.memory in
    let p = prog_view c.args.prog.now in
    let e = entry_view c.args.spec.now c.args.entered.now in
    let y = checking_view c.args.checking.now in
    let s = state_view c.in_ok-state.state in
    let used = spec_view c.args.used.now in
    let If = Serves stands terms s (running_store y.path.stack) in
    let answer = subst (λ bs. IsAnswer stands terms kept s (Serves stands terms s bs) (Matches p.preds (scope_of used) used.pre) (StopsAt p.preds (scope_of used) used.pre) (matching_view c.in_ok-matches.field-0)) c.in_ok-store.ensures
    (subst (λ ps. IsAnswer stands terms kept s (Serves stands terms s (store_view c.in_ok-store.store)) (Matches p.preds ps used.pre) (StopsAt p.preds ps used.pre) (matching_view c.in_ok-matches.field-0)) c.in_ok-scope.ensures c.in_ok-matches.ensures.says) in
    let all : AreAll stands terms kept s If (Matches p.preds (scope_of used) used.pre) (matches_view c.in-All.matches) =
    subst (λ r. IsAnswer stands terms kept s If (Matches p.preds (scope_of used) used.pre) (StopsAt p.preds (scope_of used) used.pre) (matching_view r)) c.in-All.is answer in
    ok_to c.matches_nexts.result (λ ns. GathersNexts (AnswersMatch p memory stands terms kept e used y c.args.here.now) (matches_view c.in-All.matches) (nexts_view ns)) (λ ns. AnswersFitting p memory stands terms kept e used y c.args.here.now (nexts_view ns))
    (λ ns gathers. inr (record { state = s; is_state = c.in_ok-state.ensures; matches = matches_view c.in-All.matches; all = all; nexts = gathers })) c.matches_nexts.ensures.answers

pub returns-in-Unmatched-clause-answers : goal.returns-in-Unmatched-clause-answers
returns-in-Unmatched-clause-answers g c =
    let stands = g.M.SymMemory.stands in
    let terms = g.M.SymMemory.terms in
    let kept = g.M.SymMemory.kept in
    let memory = g.M.Local.LocalMemory.memory in
    let p = prog_view c.args.prog.now in
    let e = entry_view c.args.spec.now c.args.entered.now in
    let y = checking_view c.args.checking.now in
    let s = state_view c.in_ok-state.state in
    let used = spec_view c.args.used.now in
    let If = Serves stands terms s (running_store y.path.stack) in
    let conds = atoms_view c.in-Unmatched.conds in
    let u = values_view c.in-Unmatched.valuation in
    let answer = subst (λ bs. IsAnswer stands terms kept s (Serves stands terms s bs) (Matches p.preds (scope_of used) used.pre) (StopsAt p.preds (scope_of used) used.pre) (matching_view c.in_ok-matches.field-0)) c.in_ok-store.ensures
    (subst (λ ps. IsAnswer stands terms kept s (Serves stands terms s (store_view c.in_ok-store.store)) (Matches p.preds ps used.pre) (StopsAt p.preds ps used.pre) (matching_view c.in_ok-matches.field-0)) c.in_ok-scope.ensures c.in_ok-matches.ensures.says) in
    let none : IsUnmatched stands terms kept s If (StopsAt p.preds (scope_of used) used.pre) (record { item = c.in-Unmatched.item; conds = conds }) u =
    subst (λ r. IsAnswer stands terms kept s If (Matches p.preds (scope_of used) used.pre) (StopsAt p.preds (scope_of used) used.pre) (matching_view r)) c.in-Unmatched.is answer in
    ok_to c.doubted.result (λ ns. IsDoubtAlone FaultKind.CallPrecondition c.args.here.now y.path (under conds u) (nexts_view ns)) (λ ns. AnswersFitting p memory stands terms kept e used y c.args.here.now (nexts_view ns))
    (λ ns alone. inl (s, (c.in_ok-state.ensures, (under conds u, ((none.stop.longer, none.meets, λ v met t l serves. (c.in-Unmatched.item, none.stop.exact v t l serves met)), alone))))) c.doubted.ensures.shows

pub returns-clause-answers : goal.returns-clause-answers
returns-clause-answers g c =
    let stands = g.M.SymMemory.stands in
    let terms = g.M.SymMemory.terms in
    let kept = g.M.SymMemory.kept in
    let memory = g.M.Local.LocalMemory.memory in
    let p = prog_view c.args.prog.now in
    let e = entry_view c.args.spec.now c.args.entered.now in
    let y = checking_view c.args.checking.now in
    let s = state_view c.in_ok-state.state in
    let used = spec_view c.args.used.now in
    let conds = atoms_view c.in-Unknown.conds in
    let und : IsLonger s.conds conds × IsOutside conds c.in-Unknown.reason =
    subst (λ r. IsAnswer stands terms kept s (Serves stands terms s (store_view c.in_ok-store.store)) (Matches p.preds c.in_ok-scope.scope used.pre) (StopsAt p.preds c.in_ok-scope.scope used.pre) (matching_view r)) c.in-Unknown.is c.in_ok-matches.ensures.says in
    ok_to c.doubted-in-Unknown.result (λ ns. IsDoubtAlone FaultKind.CallPrecondition c.args.here.now y.path (beyond conds c.in-Unknown.reason) (nexts_view ns)) (λ ns. AnswersFitting p memory stands terms kept e used y c.args.here.now (nexts_view ns))
    (λ ns alone. inl (s, (c.in_ok-state.ensures, (beyond conds c.in-Unknown.reason, (und, alone))))) c.doubted-in-Unknown.ensures.shows

pub returns-in-All-clause-asked : goal.returns-in-All-clause-asked
returns-in-All-clause-asked g c =
    let terms = g.M.SymMemory.terms in
    let p = prog_view c.args.prog.now in
    let e = entry_view c.args.spec.now c.args.entered.now in
    let y = checking_view c.args.checking.now in
    let s = state_view c.in_ok-state.state in
    let used = spec_view c.args.used.now in
    let bs = running_store y.path.stack in
    let Own = AsksFitting p e used bs in
    let same : s.conds ≡ y.path.conds = state_conds g.M.SymMemory.stands terms y.path y.facts s c.in_ok-state.ensures in
    let comes : Each (EndComesFrom terms (From terms p used bs s) (IsOneOf (scope_of used) (used.pre ∷ [])) s.conds) (matches_view c.in-All.matches) =
    subst (λ r. AnswerComesFrom terms (From terms p used bs s) (IsOneOf (scope_of used) (used.pre ∷ [])) s.conds (matching_view r)) c.in-All.is (comes_there terms p used s (store_view c.in_ok-store.store) bs c.in_ok-scope.scope c.in_ok-store.ensures c.in_ok-scope.ensures (matching_view c.in_ok-matches.field-0) c.in_ok-matches.ensures.origin) in
    ok_to c.matches_nexts.result (λ ns. GathersNexts (AddsToMatch p e used) (matches_view c.in-All.matches) (nexts_view ns)) (λ ns. Each (AddsTo Own y.path.conds) (nexts_view ns))
    (λ ns adds. subst (λ cs. Each (AddsTo Own cs) (nexts_view ns)) same
    (each_gathered (AddsToMatch p e used) (EndComesFrom terms (From terms p used bs s) (IsOneOf (scope_of used) (used.pre ∷ [])) s.conds) (AddsTo Own s.conds) (matches_view c.in-All.matches) (nexts_view ns) adds
    (λ m ks one from. match_adds terms p e used bs s m ks from one) comes)) c.matches_nexts.ensures.asked

pub returns-in-Unmatched-clause-asked : goal.returns-in-Unmatched-clause-asked
returns-in-Unmatched-clause-asked g c =
    let terms = g.M.SymMemory.terms in
    let p = prog_view c.args.prog.now in
    let e = entry_view c.args.spec.now c.args.entered.now in
    let y = checking_view c.args.checking.now in
    let s = state_view c.in_ok-state.state in
    let used = spec_view c.args.used.now in
    let bs = running_store y.path.stack in
    let Own = AsksFitting p e used bs in
    let same : s.conds ≡ y.path.conds = state_conds g.M.SymMemory.stands terms y.path y.facts s c.in_ok-state.ensures in
    let conds = atoms_view c.in-Unmatched.conds in
    let u = values_view c.in-Unmatched.valuation in
    let own : AddsOwn (From terms p used bs s) s.conds conds = subst (λ r. AnswerComesFrom terms (From terms p used bs s) (IsOneOf (scope_of used) (used.pre ∷ [])) s.conds (matching_view r)) c.in-Unmatched.is (comes_there terms p used s (store_view c.in_ok-store.store) bs c.in_ok-scope.scope c.in_ok-store.ensures c.in_ok-scope.ensures (matching_view c.in_ok-matches.field-0) c.in_ok-matches.ensures.origin) in
    let more : HaveMoreOf Own y.path.conds conds = subst (λ cs. HaveMoreOf Own cs conds) same (unmatched_adds terms p e used bs s Own (λ a asks. inl asks) conds own) in
    ok_to c.doubted.result (λ ns. IsDoubtAlone FaultKind.CallPrecondition c.args.here.now y.path (under conds u) (nexts_view ns)) (λ ns. Each (AddsTo Own y.path.conds) (nexts_view ns))
    (λ ns alone. doubt_alone_adds Own FaultKind.CallPrecondition c.args.here.now y.path (under conds u) (nexts_view ns) alone more) c.doubted.ensures.shows

pub returns-clause-asked : goal.returns-clause-asked
returns-clause-asked g c =
    let terms = g.M.SymMemory.terms in
    let p = prog_view c.args.prog.now in
    let e = entry_view c.args.spec.now c.args.entered.now in
    let y = checking_view c.args.checking.now in
    let s = state_view c.in_ok-state.state in
    let used = spec_view c.args.used.now in
    let bs = running_store y.path.stack in
    let Own = AsksFitting p e used bs in
    let same : s.conds ≡ y.path.conds = state_conds g.M.SymMemory.stands terms y.path y.facts s c.in_ok-state.ensures in
    let conds = atoms_view c.in-Unknown.conds in
    let own : AddsOwn (From terms p used bs s) s.conds conds = subst (λ r. AnswerComesFrom terms (From terms p used bs s) (IsOneOf (scope_of used) (used.pre ∷ [])) s.conds (matching_view r)) c.in-Unknown.is (comes_there terms p used s (store_view c.in_ok-store.store) bs c.in_ok-scope.scope c.in_ok-store.ensures c.in_ok-scope.ensures (matching_view c.in_ok-matches.field-0) c.in_ok-matches.ensures.origin) in
    let more : HaveMoreOf Own y.path.conds conds = subst (λ cs. HaveMoreOf Own cs conds) same (unmatched_adds terms p e used bs s Own (λ a asks. inl asks) conds own) in
    ok_to c.doubted-in-Unknown.result (λ ns. IsDoubtAlone FaultKind.CallPrecondition c.args.here.now y.path (beyond conds c.in-Unknown.reason) (nexts_view ns)) (λ ns. Each (AddsTo Own y.path.conds) (nexts_view ns))
    (λ ns alone. doubt_alone_adds Own FaultKind.CallPrecondition c.args.here.now y.path (beyond conds c.in-Unknown.reason) (nexts_view ns) alone more) c.doubted-in-Unknown.ensures.shows
