use Rattle.std.proofs.Common.{◌++◌, map, IfNone, IfSome, inr, refl, sym, subst}
use Rattle.gil_syntax.specs.Program.{prog_view}
use Rattle.gil_values.specs.View.{values_view}
use Rattle.gil_syntax.specs.Valid.{param_names}
use Rattle.gil_syntax.specs.View.{assertion_view, proc_view}
use Rattle.pure_terms.specs.Meaning.{IsOver}
use Rattle.pure_terms.specs.Pure.{term_of}
use Rattle.pure_terms.specs.View.{atoms_view, term_view, terms_view}
use Rattle.footprint.specs.Consuming.{MatchesWhole, MatchesNone}
use Rattle.footprint.specs.Leaves.{IsAnswer}
use Rattle.footprint.specs.Plainly.{IsPlainMemory, IsDecidedMatching}
use Rattle.footprint.specs.Pure.{PureStop}
use Rattle.footprint.specs.View.{matching_view, matches_view}
use Rattle.checked_runs.specs.Specifications.{result_name}
use Rattle.sym_evaluation.specs.Plainly.{IsPlain}
use Rattle.sym_evaluation.specs.Pure.{term_at}
use Rattle.sym_evaluation.specs.View.{store_view}
use Rattle.sym_model.specs.Lists.{Each}
use Rattle.sym_paths.proofs.Binding.{each_bound}
use Rattle.sym_paths.specs.View.{path_view}
use Rattle.sym_states.proofs.Values.{ok_to}
use Rattle.sym_states.specs.Meaning.{Serves}
use Rattle.sym_states.specs.View.{state_view}
use Rattle.checked_paths.specs.declared.nexts.FaultKind.{FaultKind}
use Rattle.checked_paths.specs.Pure.{over}
use Rattle.checked_paths.specs.View.{entry_view, next_view}
use Rattle.checked_rows.specs.Doubts.{under, beyond, IsDoubtNext}
use Rattle.checked_rows.specs.Ending.{AreEntryNames, FinishesExactly, HasNoOther, DoubtsAResult}
use Rattle.checked_rows.specs.Plainly.{FinishesPlainly}
use Rattle.checked_rows.specs.View.{doubt_view}
use Rattle.checked_rows.proofs.EndLaws.{entry_names_over, result_doubt, finished, stopped}
use Rattle.checked_rows.proofs.Plainness.{under_sure, result_sure}
use Rattle.footprint.specs.Origins.{IsOwnToMatching, AnswerComesFrom, IsOneOf, origin_of}
use Rattle.checked_paths.specs.Exactness.{HaveMoreOf}
use Rattle.checked_rows.specs.Asking.{AsksEntryEnd, AddsTo}
use Rattle.checked_rows.proofs.AskedLaws.{more_to, same_adds, under_same, beyond_same}
use Rattle.checked_rows.proofs.AskedRowLaws.{result_next, post_asks}
use Rattle.checked_rows.proofs.ending.finish.Goals as goal

pub other_result-requires-clause-conds : goal.other_result-requires-clause-conds
other_result-requires-clause-conds g c =
    subst (Each (λ a. IsOver c.args.state.vars (term_of a))) (sym c.atoms-conds.ensures) c.requires.over.conds

pub other_result-requires-clause-names : goal.other_result-requires-clause-names
other_result-requires-clause-names g c =
    entry_names_over (IsOver c.args.state.vars) (proc_view c.args.proc.now).params (terms_view c.args.entered.now.args) (store_view c.args.entered.now.variables) (store_view c.in_ok-names.names) c.requires.entry.args c.requires.entry.variables
    c.in_ok-names.ensures

pub consume_whole-requires-clause-store_over : goal.consume_whole-requires-clause-store_over
consume_whole-requires-clause-store_over g c =
    let over_before = entry_names_over (IsOver c.args.state.vars) (proc_view c.args.proc.now).params (terms_view c.args.entered.now.args) (store_view c.args.entered.now.variables) (store_view c.in_ok-names.names) c.requires.entry.args
    c.requires.entry.variables c.in_ok-names.ensures in
    each_bound (IsOver c.args.state.vars) (store_view c.in_ok-names.names) (store_view c.in_ok-names-2.names) result_name (term_view c.args.term.now) c.in_ok-names-2.ensures c.requires.term over_before

pub returns-in-Some-clause-exact : goal.returns-in-Some-clause-exact
returns-in-Some-clause-exact g c =
    let stands = g.M.SymMemory.stands in
    let p = prog_view c.args.prog.now in
    let e = entry_view c.args.spec.now c.args.entered.now in
    let s = state_view c.args.state in
    let params = (proc_view c.args.proc.now).params in
    let before = store_view c.in_ok-names.names in
    let t = term_view c.args.term.now in
    let posts = map assertion_view c.args.posts.now in
    let here = c.args.here.now in
    let path = path_view c.args.path.now in
    let d = doubt_view c.in-Some.doubt in
    let over_before = entry_names_over (IsOver s.vars) params e.args e.variables before c.requires.entry.args c.requires.entry.variables c.in_ok-names.ensures in
    let of_entry : AreEntryNames (param_names e.spec.params) e.args e.variables before = subst (λ ps. AreEntryNames ps e.args e.variables before) c.requires.params c.in_ok-names.ensures in
    let told = subst (λ o. IfSome o (λ k. DoubtsAResult s.vars (atoms_view c.atoms-conds.result.now) t (term_at before result_name) (doubt_view k))) c.in-Some.is c.in_ok-doubt.ensures.doubt in
    let doubts : DoubtsAResult s.vars s.conds t (term_at before result_name) d = subst (λ cs. DoubtsAResult s.vars cs t (term_at before result_name) d) c.atoms-conds.ensures told in
    ok_to c.doubted_next.result (λ n. IsDoubtNext FaultKind.Post here path d (next_view n)) (λ n. FinishesExactly p stands e posts t here path s (next_view n))
    (λ n shows. inr (d, (result_doubt p stands e posts t s before of_entry over_before c.requires.term d doubts, shows))) c.doubted_next.ensures.shows

pub returns-in-All-clause-next : goal.returns-in-All-clause-next
returns-in-All-clause-next g c =
    let stands = g.M.SymMemory.stands in
    let terms = g.M.SymMemory.terms in
    let kept = g.M.SymMemory.kept in
    let p = prog_view c.args.prog.now in
    let e = entry_view c.args.spec.now c.args.entered.now in
    let s = state_view c.args.state in
    let before = store_view c.in_ok-names.names in
    let bs = store_view c.in_ok-names-2.names in
    let t = term_view c.args.term.now in
    let posts = map assertion_view c.args.posts.now in
    let over_before = entry_names_over (IsOver s.vars) (proc_view c.args.proc.now).params e.args e.variables before c.requires.entry.args c.requires.entry.variables c.in_ok-names.ensures in
    let of_entry : AreEntryNames (param_names e.spec.params) e.args e.variables before = subst (λ ps. AreEntryNames ps e.args e.variables before) c.requires.params c.in_ok-names.ensures in
    let told = subst (λ o. IfNone o (HasNoOther s.vars (atoms_view c.atoms-conds.result.now) t (term_at before result_name))) c.in_default.is c.in_ok-doubt.ensures.none in
    let none_other : HasNoOther s.vars s.conds t (term_at before result_name) = subst (λ cs. HasNoOther s.vars cs t (term_at before result_name)) c.atoms-conds.ensures told in
    let over_names = each_bound (IsOver s.vars) before bs result_name t c.in_ok-names-2.ensures c.requires.term over_before in
    let answer = subst (λ ps. IsAnswer stands terms kept s (Serves stands terms s bs) (MatchesWhole p.preds ps posts) (MatchesNone p.preds ps posts) (matching_view c.in_ok-consume_whole.field-0)) c.in_ok-scope.ensures c.in_ok-consume_whole.ensures.says in
    let all = subst (λ r. IsAnswer stands terms kept s (Serves stands terms s bs) (MatchesWhole p.preds (e.spec.params ++ e.spec.logicals) posts) (MatchesNone p.preds (e.spec.params ++ e.spec.logicals) posts) (matching_view r)) c.in-All.is answer in
    finished p stands e posts t s before of_entry over_before c.requires.term terms kept bs c.in_ok-names-2.ensures none_other c.requires.over over_names (matches_view c.in-All.field-0) all over refl

pub returns-in-Unmatched-clause-exact : goal.returns-in-Unmatched-clause-exact
returns-in-Unmatched-clause-exact g c =
    let stands = g.M.SymMemory.stands in
    let terms = g.M.SymMemory.terms in
    let kept = g.M.SymMemory.kept in
    let p = prog_view c.args.prog.now in
    let e = entry_view c.args.spec.now c.args.entered.now in
    let s = state_view c.args.state in
    let before = store_view c.in_ok-names.names in
    let bs = store_view c.in_ok-names-2.names in
    let t = term_view c.args.term.now in
    let posts = map assertion_view c.args.posts.now in
    let here = c.args.here.now in
    let path = path_view c.args.path.now in
    let k : PureStop = record { item = c.in-Unmatched.item; conds = atoms_view c.in-Unmatched.conds } in
    let u = values_view c.in-Unmatched.valuation in
    let over_before = entry_names_over (IsOver s.vars) (proc_view c.args.proc.now).params e.args e.variables before c.requires.entry.args c.requires.entry.variables c.in_ok-names.ensures in
    let of_entry : AreEntryNames (param_names e.spec.params) e.args e.variables before = subst (λ ps. AreEntryNames ps e.args e.variables before) c.requires.params c.in_ok-names.ensures in
    let told = subst (λ o. IfNone o (HasNoOther s.vars (atoms_view c.atoms-conds.result.now) t (term_at before result_name))) c.in_default.is c.in_ok-doubt.ensures.none in
    let none_other : HasNoOther s.vars s.conds t (term_at before result_name) = subst (λ cs. HasNoOther s.vars cs t (term_at before result_name)) c.atoms-conds.ensures told in
    let over_names = each_bound (IsOver s.vars) before bs result_name t c.in_ok-names-2.ensures c.requires.term over_before in
    let answer = subst (λ ps. IsAnswer stands terms kept s (Serves stands terms s bs) (MatchesWhole p.preds ps posts) (MatchesNone p.preds ps posts) (matching_view c.in_ok-consume_whole.field-0)) c.in_ok-scope.ensures c.in_ok-consume_whole.ensures.says in
    let none = subst (λ r. IsAnswer stands terms kept s (Serves stands terms s bs) (MatchesWhole p.preds (e.spec.params ++ e.spec.logicals) posts) (MatchesNone p.preds (e.spec.params ++ e.spec.logicals) posts) (matching_view r)) c.in-Unmatched.is answer in
    ok_to c.doubted_next-in-Unmatched.result (λ n. IsDoubtNext FaultKind.Post here path (under k.conds u) (next_view n)) (λ n. FinishesExactly p stands e posts t here path s (next_view n))
    (λ n shows. inr (under k.conds u, (stopped p stands e posts t s before of_entry over_before c.requires.term terms kept bs c.in_ok-names-2.ensures none_other c.requires.over over_names k u none, shows))) c.doubted_next-in-Unmatched.ensures.shows

pub returns-clause-exact : goal.returns-clause-exact
returns-clause-exact g c =
    let stands = g.M.SymMemory.stands in
    let terms = g.M.SymMemory.terms in
    let kept = g.M.SymMemory.kept in
    let p = prog_view c.args.prog.now in
    let e = entry_view c.args.spec.now c.args.entered.now in
    let s = state_view c.args.state in
    let bs = store_view c.in_ok-names-2.names in
    let t = term_view c.args.term.now in
    let posts = map assertion_view c.args.posts.now in
    let here = c.args.here.now in
    let path = path_view c.args.path.now in
    let d = beyond (atoms_view c.in-Unknown.conds) c.in-Unknown.reason in
    let und = subst (λ r. IsAnswer stands terms kept s (Serves stands terms s bs) (MatchesWhole p.preds c.in_ok-scope.scope posts) (MatchesNone p.preds c.in_ok-scope.scope posts) (matching_view r)) c.in-Unknown.is c.in_ok-consume_whole.ensures.says in
    ok_to c.doubted_next-in-Unknown.result (λ n. IsDoubtNext FaultKind.Post here path d (next_view n)) (λ n. FinishesExactly p stands e posts t here path s (next_view n))
    (λ n shows. inr (d, (und, shows))) c.doubted_next-in-Unknown.ensures.shows

pub returns-in-Some-clause-plain : goal.returns-in-Some-clause-plain
returns-in-Some-clause-plain g c =
    let e = entry_view c.args.spec.now c.args.entered.now in
    let s = state_view c.args.state in
    let params = (proc_view c.args.proc.now).params in
    let before = store_view c.in_ok-names.names in
    let t = term_view c.args.term.now in
    let posts = map assertion_view c.args.posts.now in
    let here = c.args.here.now in
    let path = path_view c.args.path.now in
    let d = doubt_view c.in-Some.doubt in
    let over_before = entry_names_over (IsOver s.vars) params e.args e.variables before c.requires.entry.args c.requires.entry.variables c.in_ok-names.ensures in
    let told = subst (λ o. IfSome o (λ k. DoubtsAResult s.vars (atoms_view c.atoms-conds.result.now) t (term_at before result_name) (doubt_view k))) c.in-Some.is c.in_ok-doubt.ensures.doubt in
    let doubts : DoubtsAResult s.vars s.conds t (term_at before result_name) d = subst (λ cs. DoubtsAResult s.vars cs t (term_at before result_name) d) c.atoms-conds.ensures told in
    ok_to c.doubted_next.result (λ n. IsDoubtNext FaultKind.Post here path d (next_view n)) (λ n. FinishesPlainly (IsPlainMemory g.M.Local.LocalMemory.memory g.M.SymMemory.keeps_plain g.M.SymMemory.terms) e posts t s (next_view n))
    (λ n shows b may. result_sure here path (next_view n) s e posts t (IsPlainMemory g.M.Local.LocalMemory.memory g.M.SymMemory.keeps_plain g.M.SymMemory.terms) b may c.requires.over.conds c.requires.term (term_at before result_name)
    (λ r is. (over_before result_name r is, entry_names_over (IsPlain b) params e.args e.variables before may.leaves.args may.leaves.variables c.in_ok-names.ensures result_name r is)) d doubts shows) c.doubted_next.ensures.shows

pub returns-in-Unmatched-clause-plain : goal.returns-in-Unmatched-clause-plain
returns-in-Unmatched-clause-plain g c =
    let e = entry_view c.args.spec.now c.args.entered.now in
    let s = state_view c.args.state in
    let params = (proc_view c.args.proc.now).params in
    let before = store_view c.in_ok-names.names in
    let bs = store_view c.in_ok-names-2.names in
    let t = term_view c.args.term.now in
    let posts = map assertion_view c.args.posts.now in
    let here = c.args.here.now in
    let path = path_view c.args.path.now in
    let conds = atoms_view c.in-Unmatched.conds in
    let u = values_view c.in-Unmatched.valuation in
    ok_to c.doubted_next-in-Unmatched.result (λ n. IsDoubtNext FaultKind.Post here path (under conds u) (next_view n)) (λ n. FinishesPlainly (IsPlainMemory g.M.Local.LocalMemory.memory g.M.SymMemory.keeps_plain g.M.SymMemory.terms) e posts t s (next_view n))
    (λ n shows b may.
    let plain_before = entry_names_over (IsPlain b) params e.args e.variables before may.leaves.args may.leaves.variables c.in_ok-names.ensures in
    let told : IsDecidedMatching (matching_view c.in_ok-consume_whole.field-0) = c.in_ok-consume_whole.ensures.plain b (record {
      items = may.leaves.items;
      narrow = may.leaves.narrow;
      decided = may.decided;
      plain_memory = may.plain_memory;
      store = each_bound (IsPlain b) before bs result_name t c.in_ok-names-2.ensures may.term plain_before;
      few = may.few;
    }) in
    under_sure here path (next_view n) conds u (subst (λ r. IsDecidedMatching (matching_view r)) c.in-Unmatched.is told) shows) c.doubted_next-in-Unmatched.ensures.shows

pub returns-clause-plain : goal.returns-clause-plain
returns-clause-plain g c =
    let e = entry_view c.args.spec.now c.args.entered.now in
    let s = state_view c.args.state in
    let params = (proc_view c.args.proc.now).params in
    let before = store_view c.in_ok-names.names in
    let bs = store_view c.in_ok-names-2.names in
    let t = term_view c.args.term.now in
    let posts = map assertion_view c.args.posts.now in
    let here = c.args.here.now in
    let path = path_view c.args.path.now in
    let d = beyond (atoms_view c.in-Unknown.conds) c.in-Unknown.reason in
    ok_to c.doubted_next-in-Unknown.result (λ n. IsDoubtNext FaultKind.Post here path d (next_view n)) (λ n. FinishesPlainly (IsPlainMemory g.M.Local.LocalMemory.memory g.M.SymMemory.keeps_plain g.M.SymMemory.terms) e posts t s (next_view n))
    (λ n shows b may.
    let plain_before = entry_names_over (IsPlain b) params e.args e.variables before may.leaves.args may.leaves.variables c.in_ok-names.ensures in
    let never : IsDecidedMatching (matching_view c.in_ok-consume_whole.field-0) = c.in_ok-consume_whole.ensures.plain b (record {
      items = may.leaves.items;
      narrow = may.leaves.narrow;
      decided = may.decided;
      plain_memory = may.plain_memory;
      store = each_bound (IsPlain b) before bs result_name t c.in_ok-names-2.ensures may.term plain_before;
      few = may.few;
    }) in
    absurd (subst (λ r. IsDecidedMatching (matching_view r)) c.in-Unknown.is never)) c.doubted_next-in-Unknown.ensures.shows

pub returns-in-Some-clause-asked : goal.returns-in-Some-clause-asked
returns-in-Some-clause-asked g c =
    let p = prog_view c.args.prog.now in
    let e = entry_view c.args.spec.now c.args.entered.now in
    let s = state_view c.args.state in
    let before = store_view c.in_ok-names.names in
    let t = term_view c.args.term.now in
    let posts = map assertion_view c.args.posts.now in
    let here = c.args.here.now in
    let path = path_view c.args.path.now in
    let d = doubt_view c.in-Some.doubt in
    let of_entry : AreEntryNames (param_names e.spec.params) e.args e.variables before = subst (λ ps. AreEntryNames ps e.args e.variables before) c.requires.params c.in_ok-names.ensures in
    let told = subst (λ o. IfSome o (λ k. DoubtsAResult s.vars (atoms_view c.atoms-conds.result.now) t (term_at before result_name) (doubt_view k))) c.in-Some.is c.in_ok-doubt.ensures.doubt in
    let doubts : DoubtsAResult s.vars s.conds t (term_at before result_name) d = subst (λ cs. DoubtsAResult s.vars cs t (term_at before result_name) d) c.atoms-conds.ensures told in
    ok_to c.doubted_next.result (λ n. IsDoubtNext FaultKind.Post here path d (next_view n)) (λ n. AddsTo (AsksEntryEnd p e posts) s.conds (next_view n))
    (λ n shows. result_next p e posts t before of_entry FaultKind.Post here path s.vars s.conds d doubts (next_view n) shows) c.doubted_next.ensures.shows

pub returns-in-Unmatched-clause-asked : goal.returns-in-Unmatched-clause-asked
returns-in-Unmatched-clause-asked g c =
    let terms = g.M.SymMemory.terms in
    let p = prog_view c.args.prog.now in
    let e = entry_view c.args.spec.now c.args.entered.now in
    let s = state_view c.args.state in
    let before = store_view c.in_ok-names.names in
    let bs = store_view c.in_ok-names-2.names in
    let t = term_view c.args.term.now in
    let posts = map assertion_view c.args.posts.now in
    let here = c.args.here.now in
    let path = path_view c.args.path.now in
    let scope = e.spec.params ++ e.spec.logicals in
    let conds = atoms_view c.in-Unmatched.conds in
    let u = values_view c.in-Unmatched.valuation in
    let of_entry : AreEntryNames (param_names e.spec.params) e.args e.variables before = subst (λ ps. AreEntryNames ps e.args e.variables before) c.requires.params c.in_ok-names.ensures in
    let origin = subst (λ ps. AnswerComesFrom terms (origin_of terms p.preds ps posts bs s) (IsOneOf ps posts) s.conds (matching_view c.in_ok-consume_whole.field-0)) c.in_ok-scope.ensures c.in_ok-consume_whole.ensures.origin in
    let own : HaveMoreOf (IsOwnToMatching (origin_of terms p.preds scope posts bs s)) s.conds conds = subst (λ r. AnswerComesFrom terms (origin_of terms p.preds scope posts bs s) (IsOneOf scope posts) s.conds (matching_view r)) c.in-Unmatched.is origin in
    ok_to c.doubted_next-in-Unmatched.result (λ n. IsDoubtNext FaultKind.Post here path (under conds u) (next_view n)) (λ n. AddsTo (AsksEntryEnd p e posts) s.conds (next_view n))
    (λ n shows. same_adds (AsksEntryEnd p e posts) s.conds conds (next_view n)
    (more_to (IsOwnToMatching (origin_of terms p.preds scope posts bs s)) (AsksEntryEnd p e posts) s.conds conds (post_asks p e posts t before of_entry bs c.in_ok-names-2.ensures s (terms s.memory)) own)
    (under_same FaultKind.Post here path conds u (next_view n) shows)) c.doubted_next-in-Unmatched.ensures.shows

pub returns-clause-asked : goal.returns-clause-asked
returns-clause-asked g c =
    let terms = g.M.SymMemory.terms in
    let p = prog_view c.args.prog.now in
    let e = entry_view c.args.spec.now c.args.entered.now in
    let s = state_view c.args.state in
    let before = store_view c.in_ok-names.names in
    let bs = store_view c.in_ok-names-2.names in
    let t = term_view c.args.term.now in
    let posts = map assertion_view c.args.posts.now in
    let here = c.args.here.now in
    let path = path_view c.args.path.now in
    let scope = e.spec.params ++ e.spec.logicals in
    let conds = atoms_view c.in-Unknown.conds in
    let of_entry : AreEntryNames (param_names e.spec.params) e.args e.variables before = subst (λ ps. AreEntryNames ps e.args e.variables before) c.requires.params c.in_ok-names.ensures in
    let origin = subst (λ ps. AnswerComesFrom terms (origin_of terms p.preds ps posts bs s) (IsOneOf ps posts) s.conds (matching_view c.in_ok-consume_whole.field-0)) c.in_ok-scope.ensures c.in_ok-consume_whole.ensures.origin in
    let own : HaveMoreOf (IsOwnToMatching (origin_of terms p.preds scope posts bs s)) s.conds conds = subst (λ r. AnswerComesFrom terms (origin_of terms p.preds scope posts bs s) (IsOneOf scope posts) s.conds (matching_view r)) c.in-Unknown.is origin in
    ok_to c.doubted_next-in-Unknown.result (λ n. IsDoubtNext FaultKind.Post here path (beyond conds c.in-Unknown.reason) (next_view n)) (λ n. AddsTo (AsksEntryEnd p e posts) s.conds (next_view n))
    (λ n shows. same_adds (AsksEntryEnd p e posts) s.conds conds (next_view n)
    (more_to (IsOwnToMatching (origin_of terms p.preds scope posts bs s)) (AsksEntryEnd p e posts) s.conds conds (post_asks p e posts t before of_entry bs c.in_ok-names-2.ensures s (terms s.memory)) own)
    (beyond_same FaultKind.Post here path conds c.in-Unknown.reason (next_view n) shows)) c.doubted_next-in-Unknown.ensures.shows
