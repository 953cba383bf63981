use Rattle.std.proofs.Common.{◌≡◌, [], ◌++◌, length, None, inl, inr, sym, subst}
use Rattle.std.specs.Option.{option_map}
use Rattle.gil_syntax.specs.Program.{prog_view}
use Rattle.gil_syntax.specs.View.{spec_view}
use Rattle.footprint.specs.View.{match_view}
use Rattle.sym_states.proofs.Values.{ok_to}
use Rattle.checked_paths.specs.View.{checking_view, entry_view, nexts_view}
use Rattle.call_rows.specs.declared.leaving.Completion.{Completion}
use Rattle.call_rows.specs.Matches.{AnswersMatch, scope_of}
use Rattle.call_rows.specs.Posts.{IsReady, IsReadyIfAny, AnswersPosts}
use Rattle.call_rows.specs.View.{ready_view}
use Rattle.call_rows.proofs.PostLaws.{ready_over}
use Rattle.call_rows.specs.Asked.{AddsToMatch}
use Rattle.call_rows.proofs.AskedLaws.{ready_adds}
use Rattle.call_rows.proofs.matches.match_nexts.Goals as goal

pub returns-in_default-clause-answers : goal.returns-in_default-clause-answers
returns-in_default-clause-answers g c =
    let used = spec_view c.args.used.now in
    let m = match_view c.args.found in
    let none : IsReadyIfAny (scope_of used) m None =
    subst (λ ps. IsReadyIfAny ps m None) c.requires.scope (subst (λ o. IsReadyIfAny c.args.scope.now m (option_map ready_view o)) c.in_default.is c.in_ok-ready.ensures) in
    ok_to c.nothing.result (λ ns. nexts_view ns ≡ [])
    (λ ns. AnswersMatch (prog_view c.args.prog.now) g.M.Local.LocalMemory.memory g.M.SymMemory.stands g.M.SymMemory.terms g.M.SymMemory.kept (entry_view c.args.spec.now c.args.entered.now) used (checking_view c.args.checking.now) c.args.here.now m (nexts_view ns))
    (λ ns are. inl (none, are)) c.nothing.ensures

pub posts_nexts-requires-clause-over : goal.posts_nexts-requires-clause-over
posts_nexts-requires-clause-over g c =
    let m = match_view c.args.found in
    let ready = ready_view c.in-Some.ready in
    let is_ready : IsReady c.args.scope.now m ready = subst (λ o. IsReadyIfAny c.args.scope.now m (option_map ready_view o)) c.in-Some.is c.in_ok-ready.ensures in
    ready_over g.M.SymMemory.terms (entry_view c.args.spec.now c.args.entered.now) (checking_view c.args.checking.now).path.given c.args.scope.now m c.requires.over ready is_ready

pub posts_nexts-requires-2-clause-over : goal.posts_nexts-requires-2-clause-over
posts_nexts-requires-2-clause-over g c =
    let m = match_view c.args.found in
    let ready = ready_view c.in-Some.ready in
    let is_ready : IsReady c.args.scope.now m ready = subst (λ o. IsReadyIfAny c.args.scope.now m (option_map ready_view o)) c.in-Some.is c.in_ok-ready.ensures in
    ready_over g.M.SymMemory.terms (entry_view c.args.spec.now c.args.entered.now) (checking_view c.args.checking.now).path.given c.args.scope.now m c.requires.over ready is_ready

pub returns-clause-answers : goal.returns-clause-answers
returns-clause-answers g c =
    let stands = g.M.SymMemory.stands in
    let terms = g.M.SymMemory.terms in
    let kept = g.M.SymMemory.kept in
    let memory = g.M.Local.LocalMemory.memory in
    let p = prog_view c.args.prog.now in
    let e = entry_view c.args.spec.now c.args.entered.now in
    let y = checking_view c.args.checking.now in
    let used = spec_view c.args.used.now in
    let m = match_view c.args.found in
    let ready = ready_view c.in-Some.ready in
    let returned = nexts_view c.in_ok-returned.returned in
    let thrown = nexts_view c.in_ok-thrown.thrown in
    let is_ready : IsReady (scope_of used) m ready =
    subst (λ ps. IsReady ps m ready) c.requires.scope (subst (λ o. IsReadyIfAny c.args.scope.now m (option_map ready_view o)) c.in-Some.is c.in_ok-ready.ensures) in
    let posts : AnswersPosts p memory stands terms kept e y c.args.here.now (scope_of used) ready Completion.Returns 0 used.posts returned =
    subst (λ ps. AnswersPosts p memory stands terms kept e y c.args.here.now ps ready Completion.Returns 0 used.posts returned) c.requires.scope c.in_ok-returned.ensures.answers in
    let errors : AnswersPosts p memory stands terms kept e y c.args.here.now (scope_of used) ready Completion.Throws (length used.posts) used.errors thrown =
    subst (λ n. AnswersPosts p memory stands terms kept e y c.args.here.now (scope_of used) ready Completion.Throws n used.errors thrown) c.count_of-first.ensures
    (subst (λ ps. AnswersPosts p memory stands terms kept e y c.args.here.now ps ready Completion.Throws c.count_of-first.result used.errors thrown) c.requires.scope c.in_ok-thrown.ensures.answers) in
    ok_to c.push_nexts.result (λ ns. nexts_view ns ≡ returned ++ thrown) (λ ns. AnswersMatch p memory stands terms kept e used y c.args.here.now m (nexts_view ns))
    (λ ns are. inr (ready, (is_ready, (returned, (thrown, (posts, errors, are)))))) c.push_nexts.ensures

pub returns-in_default-clause-asked : goal.returns-in_default-clause-asked
returns-in_default-clause-asked g c =
    let p = prog_view c.args.prog.now in
    let e = entry_view c.args.spec.now c.args.entered.now in
    let used = spec_view c.args.used.now in
    let m = match_view c.args.found in
    ok_to c.nothing.result (λ ns. nexts_view ns ≡ []) (λ ns. AddsToMatch p e used m (nexts_view ns)) (λ ns are. subst (AddsToMatch p e used m) (sym are) tt) c.nothing.ensures

pub returns-clause-asked : goal.returns-clause-asked
returns-clause-asked g c =
    let p = prog_view c.args.prog.now in
    let e = entry_view c.args.spec.now c.args.entered.now in
    let used = spec_view c.args.used.now in
    let m = match_view c.args.found in
    let ready = ready_view c.in-Some.ready in
    let returned = nexts_view c.in_ok-returned.returned in
    let thrown = nexts_view c.in_ok-thrown.thrown in
    let is_ready : IsReady (scope_of used) m ready =
    subst (λ ps. IsReady ps m ready) c.requires.scope (subst (λ o. IsReadyIfAny c.args.scope.now m (option_map ready_view o)) c.in-Some.is c.in_ok-ready.ensures) in
    ok_to c.push_nexts.result (λ ns. nexts_view ns ≡ returned ++ thrown) (λ ns. AddsToMatch p e used m (nexts_view ns))
    (λ ns are. subst (AddsToMatch p e used m) (sym are) (ready_adds p e used m ready is_ready returned thrown c.in_ok-returned.ensures.asked c.in_ok-thrown.ensures.asked)) c.push_nexts.ensures
