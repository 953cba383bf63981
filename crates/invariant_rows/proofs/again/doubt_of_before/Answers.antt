use Rattle.std.proofs.Common.{List, [], ◌∷◌, ◌++◌, IfNone, IfSome, sym, ap, subst, ◌∙◌}
use Rattle.gil_values.specs.Pure.{PureValue}
use Rattle.std.specs.Option.{option_map}
use Rattle.pure_terms.specs.Meaning.{IsOver, IsUnsatisfiable}
use Rattle.pure_terms.specs.Pure.{term_of, opening}
use Rattle.pure_terms.specs.View.{term_view}
use Rattle.sym_evaluation.specs.View.{store_view}
use Rattle.sym_model.specs.Lists.{Each}
use Rattle.sym_states.proofs.Values.{ok_to}
use Rattle.sym_states.specs.View.{state_view}
use Rattle.checked_paths.specs.View.{passed_view}
use Rattle.checked_rows.specs.Asking.{AsksAsBefore}
use Rattle.checked_rows.specs.View.{doubt_view}
use Rattle.invariant_rows.specs.Differing.{IsOverIfAny}
use Rattle.invariant_rows.specs.View.{difference_view}
use Rattle.invariant_rows.specs.Fitting.{DoubtsOne, NeverMet}
use Rattle.invariant_rows.specs.Visiting.{DoubtsBefore, IsUndecidedThere, OfBefore}
use Rattle.invariant_rows.proofs.AgainLaws.{doubts_before, all_before, none_left, undecided_before}
use Rattle.invariant_rows.proofs.AskedLaws.{before_asks, one_adds}
use Rattle.invariant_rows.proofs.FitLaws.{conditions_over, if_none_then, if_none_to, if_some_to}
use Rattle.invariant_rows.proofs.again.doubt_of_before.Goals as goal

pub returns-then-branch-clause-none : goal.returns-then-branch-clause-none
returns-then-branch-clause-none g c = λ v p name m entry xs q left c0 stand of_store passed.
    c.in_ok-is_as_before.ensures c.if-branch.true p name m entry v xs q left c0 stand.memory stand.facts of_store passed

pub doubt_of_any-requires-clause-conds : goal.doubt_of_any-requires-clause-conds
doubt_of_any-requires-clause-conds g c =
    let s = state_view c.args.state.now in
    subst (Each (λ a. IsOver s.vars (term_of a))) (sym c.atoms.ensures) c.requires.over.conds

pub doubt_of_any-requires-clause-alternatives : goal.doubt_of_any-requires-clause-alternatives
doubt_of_any-requires-clause-alternatives g c =
    let stands = g.M.SymMemory.stands in
    let terms = g.M.SymMemory.terms in
    let bs = store_view c.args.unlisted.now in
    let q = passed_view c.args.former.now in
    let s = state_view c.args.state.now in
    let d = difference_view c.in_ok-found.found in
    conditions_over s.vars d.alternatives (c.in_ok-found.ensures.tells s.vars c.requires.over.memory c.requires.over.facts c.requires.unlisted c.requires.former).0

pub returns-then-is_some-clause-doubt : goal.returns-then-is_some-clause-doubt
returns-then-is_some-clause-doubt g c =
    let stands = g.M.SymMemory.stands in
    let terms = g.M.SymMemory.terms in
    let bs = store_view c.args.unlisted.now in
    let q = passed_view c.args.former.now in
    let s = state_view c.args.state.now in
    let d = difference_view c.in_ok-found.found in
    if_some_to c.in_ok-doubt.doubt c.in_ok-doubt.ensures.doubt
    (λ k one. doubts_before stands terms bs q s d c.in_ok-found.ensures.tells c.requires.over c.requires.unlisted c.requires.former (doubt_view k) (subst (λ cs. DoubtsOne s.vars cs d.alternatives (doubt_view k)) c.atoms.ensures one))

pub doubt_of_form-requires-clause-term : goal.doubt_of_form-requires-clause-term
doubt_of_form-requires-clause-term g c =
    let stands = g.M.SymMemory.stands in
    let terms = g.M.SymMemory.terms in
    let bs = store_view c.args.unlisted.now in
    let q = passed_view c.args.former.now in
    let s = state_view c.args.state.now in
    let d = difference_view c.in_ok-found.found in
    subst (λ o. IsOverIfAny s.vars (option_map term_view o)) c.in-Some.is (c.in_ok-found.ensures.tells s.vars c.requires.over.memory c.requires.over.facts c.requires.unlisted c.requires.former).1

pub returns-in-Some-clause-none : goal.returns-in-Some-clause-none
returns-in-Some-clause-none g c =
    let stands = g.M.SymMemory.stands in
    let terms = g.M.SymMemory.terms in
    let bs = store_view c.args.unlisted.now in
    let q = passed_view c.args.former.now in
    let s = state_view c.args.state.now in
    let d = difference_view c.in_ok-found.found in
    let t = term_view c.in-Some.term in
    ok_to c.doubt_of_form.result (λ o. IfNone o (IsUnsatisfiable s.vars (s.conds ++ opening t ∷ []))) (λ o. IfNone o ((v : List PureValue) → OfBefore stands bs q s (λ P. P) v))
    (λ o is. if_none_to o is (λ unsat. none_left stands terms bs q s d c.in_ok-found.ensures.tells c.requires.over c.requires.unlisted c.requires.former t (ap (option_map term_view) c.in-Some.is) unsat)) c.doubt_of_form.ensures.none

pub returns-in-Some-clause-doubt : goal.returns-in-Some-clause-doubt
returns-in-Some-clause-doubt g c =
    let stands = g.M.SymMemory.stands in
    let terms = g.M.SymMemory.terms in
    let bs = store_view c.args.unlisted.now in
    let q = passed_view c.args.former.now in
    let s = state_view c.args.state.now in
    let d = difference_view c.in_ok-found.found in
    ok_to c.doubt_of_form.result (λ o. IfSome o (λ k. IsUndecidedThere s.conds (doubt_view k))) (λ o. IfSome o (λ k. DoubtsBefore stands bs q s (doubt_view k)))
    (λ o is. if_some_to o is (λ k there. undecided_before stands bs q s (doubt_view k) there)) c.doubt_of_form.ensures.doubt

pub returns-clause-none : goal.returns-clause-none
returns-clause-none g c =
    let stands = g.M.SymMemory.stands in
    let terms = g.M.SymMemory.terms in
    let bs = store_view c.args.unlisted.now in
    let q = passed_view c.args.former.now in
    let s = state_view c.args.state.now in
    let d = difference_view c.in_ok-found.found in
    let never : NeverMet s.vars s.conds d.alternatives =
    subst (λ cs. NeverMet s.vars cs d.alternatives) c.atoms.ensures (if_none_then c.in_ok-doubt.doubt (sym c.is_some.ensures ∙ c.if-is_some.false) c.in_ok-doubt.ensures.none) in
    all_before stands terms bs q s d c.in_ok-found.ensures.tells c.requires.over c.requires.unlisted c.requires.former never (ap (option_map term_view) c.in-None.is)

pub returns-then-is_some-clause-asked : goal.returns-then-is_some-clause-asked
returns-then-is_some-clause-asked g c =
    let s = state_view c.args.state.now in
    let d = difference_view c.in_ok-found.found in
    if_some_to c.in_ok-doubt.doubt c.in_ok-doubt.ensures.doubt
    (λ k one. one_adds AsksAsBefore s.vars s.conds d.alternatives (doubt_view k) (before_asks d.alternatives c.in_ok-found.ensures.asked) (subst (λ cs. DoubtsOne s.vars cs d.alternatives (doubt_view k)) c.atoms.ensures one))

pub returns-in-Some-clause-asked : goal.returns-in-Some-clause-asked
returns-in-Some-clause-asked g c = c.doubt_of_form.ensures.asked
