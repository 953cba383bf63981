use Rattle.std.proofs.Common.{map, sym, subst, ◌≡◌, ap}
use Rattle.gil_syntax.specs.Program.{prog_view}
use Rattle.gil_syntax.specs.View.{assertion_view}
use Rattle.pure_terms.specs.Meaning.{IsOver}
use Rattle.pure_terms.specs.View.{term_view}
use Rattle.sym_paths.specs.View.{path_view}
use Rattle.sym_states.proofs.Values.{ok_to}
use Rattle.sym_states.specs.View.{state_view}
use Rattle.footprint.specs.Plainly.{IsPlainMemory}
use Rattle.checked_paths.specs.Meaning.{IsEntryOver}
use Rattle.checked_paths.specs.View.{entry_view, next_view}
use Rattle.checked_rows.specs.Ending.{Finishes, FinishesExactly, at_end}
use Rattle.checked_rows.specs.Plainly.{FinishesPlainly}
use Rattle.checked_rows.proofs.EndRowLaws.{there_over, there_vars, finishes_there, exactly_there}
use Rattle.checked_rows.proofs.Plainness.{finishes_plainly_there}
use Rattle.sym_states.specs.Pure.{PureState}
use Rattle.checked_rows.specs.Asking.{AsksEntryEnd, AddsTo}
use Rattle.checked_rows.proofs.ending.finish_there.Goals as goal

pub finish-requires-clause-over : goal.finish-requires-clause-over
finish-requires-clause-over g c =
    there_over g.M.SymMemory.stands g.M.SymMemory.terms (at_end (state_view c.args.state.now) (path_view c.args.path.now)) (state_view c.in_ok-there.there) c.in_ok-there.ensures c.requires.end.state

pub finish-requires-clause-entry : goal.finish-requires-clause-entry
finish-requires-clause-entry g c =
    subst (λ vars. IsEntryOver vars (entry_view c.args.spec.now c.args.entered.now)) (sym (there_vars g.M.SymMemory.stands g.M.SymMemory.terms (at_end (state_view c.args.state.now) (path_view c.args.path.now)) (state_view c.in_ok-there.there) c.in_ok-there.ensures)) c.requires.end.entry

pub finish-requires-clause-term : goal.finish-requires-clause-term
finish-requires-clause-term g c =
    subst (λ vars. IsOver vars (term_view c.args.term.now)) (sym (there_vars g.M.SymMemory.stands g.M.SymMemory.terms (at_end (state_view c.args.state.now) (path_view c.args.path.now)) (state_view c.in_ok-there.there) c.in_ok-there.ensures)) c.requires.term

pub returns-clause-next : goal.returns-clause-next
returns-clause-next g c =
    let p = prog_view c.args.prog.now in
    let e = entry_view c.args.spec.now c.args.entered.now in
    let posts = map assertion_view c.args.posts.now in
    let t = term_view c.args.term.now in
    let s = at_end (state_view c.args.state.now) (path_view c.args.path.now) in
    ok_to c.finish.result (λ n. Finishes p g.M.SymMemory.stands e posts t (state_view c.in_ok-there.there) (next_view n)) (λ n. Finishes p g.M.SymMemory.stands e posts t s (next_view n))
    (λ n done. finishes_there g.M.SymMemory.stands g.M.SymMemory.terms s (state_view c.in_ok-there.there) c.in_ok-there.ensures p e posts t (next_view n) done) c.finish.ensures.next

pub returns-clause-exact : goal.returns-clause-exact
returns-clause-exact g c =
    let stands = g.M.SymMemory.stands in
    let p = prog_view c.args.prog.now in
    let e = entry_view c.args.spec.now c.args.entered.now in
    let posts = map assertion_view c.args.posts.now in
    let t = term_view c.args.term.now in
    let here = c.args.here.now in
    let path = path_view c.args.path.now in
    let s = at_end (state_view c.args.state.now) path in
    ok_to c.finish.result (λ n. FinishesExactly p stands e posts t here path (state_view c.in_ok-there.there) (next_view n)) (λ n. FinishesExactly p stands e posts t here path s (next_view n))
    (λ n exactly. exactly_there stands g.M.SymMemory.terms s (state_view c.in_ok-there.there) c.in_ok-there.ensures p e posts t here path (next_view n) exactly) c.finish.ensures.exact

pub returns-clause-plain : goal.returns-clause-plain
returns-clause-plain g c =
    let e = entry_view c.args.spec.now c.args.entered.now in
    let posts = map assertion_view c.args.posts.now in
    let t = term_view c.args.term.now in
    let s = at_end (state_view c.args.state.now) (path_view c.args.path.now) in
    ok_to c.finish.result (λ n. FinishesPlainly (IsPlainMemory g.M.Local.LocalMemory.memory g.M.SymMemory.keeps_plain g.M.SymMemory.terms) e posts t (state_view c.in_ok-there.there) (next_view n)) (λ n. FinishesPlainly (IsPlainMemory g.M.Local.LocalMemory.memory g.M.SymMemory.keeps_plain g.M.SymMemory.terms) e posts t s (next_view n))
    (λ n plainly. finishes_plainly_there g.M.Local.LocalMemory.memory g.M.SymMemory.keeps_plain g.M.SymMemory.stands g.M.SymMemory.terms s (state_view c.in_ok-there.there) c.in_ok-there.ensures e posts t (next_view n) plainly) c.finish.ensures.plain

pub returns-clause-asked : goal.returns-clause-asked
returns-clause-asked g c =
    let p = prog_view c.args.prog.now in
    let e = entry_view c.args.spec.now c.args.entered.now in
    let posts = map assertion_view c.args.posts.now in
    let next = path_view c.args.path.now in
    let there = state_view c.in_ok-there.there in
    let same : there.conds ≡ next.conds = ap (λ (q : PureState g.row.M.Denot). q.conds) c.in_ok-there.ensures.is in
    ok_to c.finish.result (λ n. AddsTo (AsksEntryEnd p e posts) there.conds (next_view n)) (λ n. AddsTo (AsksEntryEnd p e posts) next.conds (next_view n))
    (λ n adds. subst (λ cs. AddsTo (AsksEntryEnd p e posts) cs (next_view n)) same adds) c.finish.ensures.asked
