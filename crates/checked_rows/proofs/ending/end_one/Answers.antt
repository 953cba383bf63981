use Rattle.std.proofs.Common.{◌≡◌, Some, sym, ap, ◌∙◌, subst, None}
use Rattle.std.specs.Option.{option_map}
use Rattle.pure_terms.specs.View.{term_view}
use Rattle.sym_paths.specs.View.{path_view}
use Rattle.sym_states.proofs.Values.{ok_to}
use Rattle.sym_states.specs.View.{facts_view, state_view}
use Rattle.footprint.specs.Plainly.{IsPlainMemory}
use Rattle.checked_paths.specs.Causes.{ShowsEnd}
use Rattle.checked_paths.specs.Following.{IsAnswered}
use Rattle.checked_paths.specs.View.{entry_view, next_view, passed_by_view}
use Rattle.checked_paths.proofs.Exact.{if_ok_both}
use Rattle.checked_rows.specs.Ending.{at_end, by_return, by_throw, finish_at}
use Rattle.checked_rows.specs.Plainly.{EndsSurely, FinishesPlainly}
use Rattle.checked_rows.specs.View.{finish_view}
use Rattle.checked_rows.proofs.Plainness.{return_sure, throw_sure, other_sure}
use Rattle.gil_syntax.specs.Program.{prog_view}
use Rattle.checked_rows.specs.Asked.{EndAsksBy, EndAsks}
use Rattle.checked_rows.specs.Asking.{AsksEntryEnd, AddsTo}
use Rattle.checked_rows.proofs.AskedLaws.{same_answer}
use Rattle.checked_rows.proofs.ending.end_one.Goals as goal

pub returns-in-Some-Return-clause-plain : goal.returns-in-Some-Return-clause-plain
returns-in-Some-Return-clause-plain g c =
    let plain = g.M.SymMemory.plain in
    let e = entry_view c.args.spec.now c.args.entered.now in
    let next = path_view c.args.path in
    let s = state_view c.args.state.now in
    let t = term_view c.in-Some-Return.term in
    let is : finish_at next.ending ≡ Some (by_return t) = sym c.in_ok-term.ensures ∙ ap (option_map finish_view) (c.in-Some-Return.is ∙ ap Some c.in-Some-Return.field-0-is) in
    ok_to c.finish_there.result (λ n. FinishesPlainly (IsPlainMemory g.M.Local.LocalMemory.memory g.M.SymMemory.keeps_plain g.M.SymMemory.terms) e e.spec.posts t (at_end s next) (next_view n)) (λ n. EndsSurely plain (IsPlainMemory g.M.Local.LocalMemory.memory g.M.SymMemory.keeps_plain g.M.SymMemory.terms) (state_view c.args.state.now) e next (next_view n))
    (λ n plainly. return_sure plain (IsPlainMemory g.M.Local.LocalMemory.memory g.M.SymMemory.keeps_plain g.M.SymMemory.terms) e next (next_view n) s t is plainly) c.finish_there.ensures.plain

pub returns-in-Some-Throw-clause-plain : goal.returns-in-Some-Throw-clause-plain
returns-in-Some-Throw-clause-plain g c =
    let plain = g.M.SymMemory.plain in
    let e = entry_view c.args.spec.now c.args.entered.now in
    let next = path_view c.args.path in
    let s = state_view c.args.state.now in
    let t = term_view c.in-Some-Throw.term in
    let is : finish_at next.ending ≡ Some (by_throw t) = sym c.in_ok-term.ensures ∙ ap (option_map finish_view) (c.in-Some-Throw.is ∙ ap Some c.in-Some-Throw.field-0-is) in
    ok_to c.finish_there-in-Some-Throw.result (λ n. FinishesPlainly (IsPlainMemory g.M.Local.LocalMemory.memory g.M.SymMemory.keeps_plain g.M.SymMemory.terms) e e.spec.errors t (at_end s next) (next_view n)) (λ n. EndsSurely plain (IsPlainMemory g.M.Local.LocalMemory.memory g.M.SymMemory.keeps_plain g.M.SymMemory.terms) (state_view c.args.state.now) e next (next_view n))
    (λ n plainly. throw_sure plain (IsPlainMemory g.M.Local.LocalMemory.memory g.M.SymMemory.keeps_plain g.M.SymMemory.terms) e next (next_view n) s t is plainly) c.finish_there-in-Some-Throw.ensures.plain

pub returns-clause-plain : goal.returns-clause-plain
returns-clause-plain g c =
    let stands = g.M.SymMemory.stands in
    let terms = g.M.SymMemory.terms in
    let plain = g.M.SymMemory.plain in
    let e = entry_view c.args.spec.now c.args.entered.now in
    let next = path_view c.args.path in
    let facts = facts_view c.args.preds.now in
    let passed = passed_by_view c.args.passed.now in
    let here = c.args.here.now in
    if_ok_both (λ n. IsAnswered stands terms facts passed next (next_view n)) (λ n. ShowsEnd here next (next_view n)) (λ n. EndsSurely plain (IsPlainMemory g.M.Local.LocalMemory.memory g.M.SymMemory.keeps_plain g.M.SymMemory.terms) (state_view c.args.state.now) e next (next_view n)) c.follow.result
    (λ n answer shows. other_sure plain (IsPlainMemory g.M.Local.LocalMemory.memory g.M.SymMemory.keeps_plain g.M.SymMemory.terms) e next (next_view n) (state_view c.args.state.now) here stands terms facts passed answer shows) c.follow.ensures.answer c.follow.ensures.shows

pub returns-in-Some-Return-clause-asked : goal.returns-in-Some-Return-clause-asked
returns-in-Some-Return-clause-asked g c =
    let p = prog_view c.args.prog.now in
    let e = entry_view c.args.spec.now c.args.entered.now in
    let next = path_view c.args.path in
    let t = term_view c.in-Some-Return.term in
    let is : finish_at next.ending ≡ Some (by_return t) = sym c.in_ok-term.ensures ∙ ap (option_map finish_view) (c.in-Some-Return.is ∙ ap Some c.in-Some-Return.field-0-is) in
    ok_to c.finish_there.result (λ n. AddsTo (AsksEntryEnd p e e.spec.posts) next.conds (next_view n)) (λ n. EndAsks p e next (next_view n))
    (λ n adds. subst (λ o. EndAsksBy p e next o (next_view n)) (sym is) adds) c.finish_there.ensures.asked

pub returns-in-Some-Throw-clause-asked : goal.returns-in-Some-Throw-clause-asked
returns-in-Some-Throw-clause-asked g c =
    let p = prog_view c.args.prog.now in
    let e = entry_view c.args.spec.now c.args.entered.now in
    let next = path_view c.args.path in
    let t = term_view c.in-Some-Throw.term in
    let is : finish_at next.ending ≡ Some (by_throw t) = sym c.in_ok-term.ensures ∙ ap (option_map finish_view) (c.in-Some-Throw.is ∙ ap Some c.in-Some-Throw.field-0-is) in
    ok_to c.finish_there-in-Some-Throw.result (λ n. AddsTo (AsksEntryEnd p e e.spec.errors) next.conds (next_view n)) (λ n. EndAsks p e next (next_view n))
    (λ n adds. subst (λ o. EndAsksBy p e next o (next_view n)) (sym is) adds) c.finish_there-in-Some-Throw.ensures.asked

pub returns-clause-asked : goal.returns-clause-asked
returns-clause-asked g c =
    let stands = g.M.SymMemory.stands in
    let terms = g.M.SymMemory.terms in
    let p = prog_view c.args.prog.now in
    let e = entry_view c.args.spec.now c.args.entered.now in
    let next = path_view c.args.path in
    let facts = facts_view c.args.preds.now in
    let passed = passed_by_view c.args.passed.now in
    let here = c.args.here.now in
    let is : finish_at next.ending ≡ None = sym c.in_ok-term.ensures ∙ ap (option_map finish_view) c.in-None.is in
    if_ok_both (λ n. IsAnswered stands terms facts passed next (next_view n)) (λ n. ShowsEnd here next (next_view n)) (λ n. EndAsks p e next (next_view n)) c.follow.result
    (λ n answer shows. subst (λ o. EndAsksBy p e next o (next_view n)) (sym is) (same_answer stands terms facts passed here next (next_view n) answer shows)) c.follow.ensures.answer c.follow.ensures.shows
