use Rattle.std.proofs.Common.{◌≡◌, [], ◌∷◌, sym, subst, refl}
use Rattle.std.specs.Option.{option_map}
use Rattle.gil_syntax.specs.Program.{prog_view}
use Rattle.gil_syntax.specs.View.{spec_view}
use Rattle.sym_paths.specs.View.{path_view}
use Rattle.sym_states.proofs.Values.{ok_to}
use Rattle.sym_states.specs.View.{facts_view}
use Rattle.checked_paths.specs.Causes.{ShowsEnd}
use Rattle.checked_paths.specs.Following.{IsAnswered}
use Rattle.checked_paths.specs.Pure.{over, caused}
use Rattle.checked_paths.specs.View.{checking_view, entry_view, next_view, nexts_view, passed_by_view}
use Rattle.checked_paths.specs.Pure.{further}
use Rattle.call_rows.specs.Calling.{AnswersFurther, IsCalled, called_by}
use Rattle.call_rows.proofs.CallLaws.{further_over, if_used}
use Rattle.sym_model.specs.Lists.{Each}
use Rattle.sym_paths.specs.Frames.{running_store}
use Rattle.checked_rows.specs.Asking.{AddsTo}
use Rattle.call_rows.specs.Asked.{AddsToNext, AsksFurther}
use Rattle.call_rows.proofs.AskedLaws.{answer_adds, further_path}
use Rattle.call_rows.proofs.calling.call_one.Goals as goal

pub further_nexts-requires-clause-used : goal.further_nexts-requires-clause-used
further_nexts-requires-clause-used g c =
    let next = path_view c.args.path in
    if_used (prog_view c.args.prog.now) (λ s. spec_view s.now) c.used_by-used.result next.ending next.stack c.used_by-used.ensures

pub further_nexts-requires-clause-caller : goal.further_nexts-requires-clause-caller
further_nexts-requires-clause-caller g c =
    let next = path_view c.args.path in
    let answered = subst (λ k. IsAnswered g.M.SymMemory.stands g.M.SymMemory.terms (facts_view c.args.preds.now) (passed_by_view c.args.passed.now) next (next_view k)) c.in-Further.is c.in_ok-checking.ensures.answer in
    (further_over g.M.SymMemory.stands g.M.SymMemory.terms (entry_view c.args.spec.now c.args.entered.now) (facts_view c.args.preds.now) (passed_by_view c.args.passed.now) next (checking_view c.in-Further.checking) c.requires.over next.ending refl answered).1

pub further_nexts-requires-clause-over : goal.further_nexts-requires-clause-over
further_nexts-requires-clause-over g c =
    let next = path_view c.args.path in
    let answered = subst (λ k. IsAnswered g.M.SymMemory.stands g.M.SymMemory.terms (facts_view c.args.preds.now) (passed_by_view c.args.passed.now) next (next_view k)) c.in-Further.is c.in_ok-checking.ensures.answer in
    (further_over g.M.SymMemory.stands g.M.SymMemory.terms (entry_view c.args.spec.now c.args.entered.now) (facts_view c.args.preds.now) (passed_by_view c.args.passed.now) next (checking_view c.in-Further.checking) c.requires.over next.ending refl answered).0

pub returns-in-Further-clause-answers : goal.returns-in-Further-clause-answers
returns-in-Further-clause-answers g c =
    let p = prog_view c.args.prog.now in
    let memory = g.M.Local.LocalMemory.memory in
    let stands = g.M.SymMemory.stands in
    let terms = g.M.SymMemory.terms in
    let kept = g.M.SymMemory.kept in
    let e = entry_view c.args.spec.now c.args.entered.now in
    let facts = facts_view c.args.preds.now in
    let passed = passed_by_view c.args.passed.now in
    let next = path_view c.args.path in
    let y = checking_view c.in-Further.checking in
    let answered = subst (λ k. IsAnswered stands terms facts passed next (next_view k)) c.in-Further.is c.in_ok-checking.ensures.answer in
    let shows = subst (λ k. ShowsEnd c.args.here.now next (next_view k)) c.in-Further.is c.in_ok-checking.ensures.shows in
    ok_to c.further_nexts.result (λ ns. AnswersFurther p memory stands terms kept e c.args.here.now (option_map (λ s. spec_view s.now) c.used_by-used.result) y (nexts_view ns)) (λ ns. IsCalled p memory stands terms kept e c.args.here.now facts passed next (nexts_view ns))
    (λ ns answers. (further y, (answered, shows, subst (λ o. AnswersFurther p memory stands terms kept e c.args.here.now o y (nexts_view ns)) c.used_by-used.ensures answers))) c.further_nexts.ensures.answers

pub returns-in-Over-clause-answers : goal.returns-in-Over-clause-answers
returns-in-Over-clause-answers g c =
    let stands = g.M.SymMemory.stands in
    let terms = g.M.SymMemory.terms in
    let facts = facts_view c.args.preds.now in
    let passed = passed_by_view c.args.passed.now in
    let next = path_view c.args.path in
    let answered = subst (λ k. IsAnswered stands terms facts passed next (next_view k)) c.in-Over.is c.in_ok-checking.ensures.answer in
    let shows = subst (λ k. ShowsEnd c.args.here.now next (next_view k)) c.in-Over.is c.in_ok-checking.ensures.shows in
    ok_to c.alone.result (λ ns. nexts_view ns ≡ over ∷ []) (λ ns. IsCalled (prog_view c.args.prog.now) g.M.Local.LocalMemory.memory stands terms g.M.SymMemory.kept (entry_view c.args.spec.now c.args.entered.now) c.args.here.now facts passed next (nexts_view ns))
    (λ ns are. (over, (answered, shows, are))) c.alone.ensures

pub returns-in-Caused-clause-answers : goal.returns-in-Caused-clause-answers
returns-in-Caused-clause-answers g c =
    let stands = g.M.SymMemory.stands in
    let terms = g.M.SymMemory.terms in
    let facts = facts_view c.args.preds.now in
    let passed = passed_by_view c.args.passed.now in
    let next = path_view c.args.path in
    let answered = subst (λ k. IsAnswered stands terms facts passed next (next_view k)) c.in-Caused.is c.in_ok-checking.ensures.answer in
    let shows = subst (λ k. ShowsEnd c.args.here.now next (next_view k)) c.in-Caused.is c.in_ok-checking.ensures.shows in
    ok_to c.alone-in-Caused.result (λ ns. nexts_view ns ≡ caused c.in-Caused.cause ∷ []) (λ ns. IsCalled (prog_view c.args.prog.now) g.M.Local.LocalMemory.memory stands terms g.M.SymMemory.kept (entry_view c.args.spec.now c.args.entered.now) c.args.here.now facts passed next (nexts_view ns))
    (λ ns are. (caused c.in-Caused.cause, (answered, shows, are))) c.alone-in-Caused.ensures

pub returns-in-Further-clause-asked : goal.returns-in-Further-clause-asked
returns-in-Further-clause-asked g c =
    let stands = g.M.SymMemory.stands in
    let terms = g.M.SymMemory.terms in
    let p = prog_view c.args.prog.now in
    let e = entry_view c.args.spec.now c.args.entered.now in
    let facts = facts_view c.args.preds.now in
    let passed = passed_by_view c.args.passed.now in
    let next = path_view c.args.path in
    let y = checking_view c.in-Further.checking in
    let answered = subst (λ k. IsAnswered stands terms facts passed next (next_view k)) c.in-Further.is c.in_ok-checking.ensures.answer in
    let same = further_path stands terms facts passed next y next.ending answered in
    ok_to c.further_nexts.result (λ ns. Each (AddsTo (AsksFurther p e (option_map (λ s. spec_view s.now) c.used_by-used.result) (running_store y.path.stack)) y.path.conds) (nexts_view ns)) (λ ns. AddsToNext p e next (nexts_view ns))
    (λ ns adds. subst (λ o. Each (AddsTo (AsksFurther p e o (running_store next.stack)) next.conds) (nexts_view ns)) c.used_by-used.ensures
    (subst (λ q. Each (AddsTo (AsksFurther p e (option_map (λ s. spec_view s.now) c.used_by-used.result) (running_store q.stack)) q.conds) (nexts_view ns)) same adds)) c.further_nexts.ensures.asked

pub returns-in-Over-clause-asked : goal.returns-in-Over-clause-asked
returns-in-Over-clause-asked g c =
    let p = prog_view c.args.prog.now in
    let e = entry_view c.args.spec.now c.args.entered.now in
    let next = path_view c.args.path in
    ok_to c.alone.result (λ ns. nexts_view ns ≡ over ∷ []) (λ ns. AddsToNext p e next (nexts_view ns)) (λ ns are. subst (AddsToNext p e next) (sym are) (tt, tt)) c.alone.ensures

pub returns-in-Caused-clause-asked : goal.returns-in-Caused-clause-asked
returns-in-Caused-clause-asked g c =
    let stands = g.M.SymMemory.stands in
    let terms = g.M.SymMemory.terms in
    let p = prog_view c.args.prog.now in
    let e = entry_view c.args.spec.now c.args.entered.now in
    let facts = facts_view c.args.preds.now in
    let passed = passed_by_view c.args.passed.now in
    let next = path_view c.args.path in
    let Own = AsksFurther p e (called_by p next.ending next.stack) (running_store next.stack) in
    let answered = subst (λ k. IsAnswered stands terms facts passed next (next_view k)) c.in-Caused.is c.in_ok-checking.ensures.answer in
    let shows = subst (λ k. ShowsEnd c.args.here.now next (next_view k)) c.in-Caused.is c.in_ok-checking.ensures.shows in
    ok_to c.alone-in-Caused.result (λ ns. nexts_view ns ≡ caused c.in-Caused.cause ∷ []) (λ ns. AddsToNext p e next (nexts_view ns))
    (λ ns are. subst (AddsToNext p e next) (sym are) (answer_adds stands terms Own facts passed c.args.here.now next (caused c.in-Caused.cause) answered shows, tt)) c.alone-in-Caused.ensures
