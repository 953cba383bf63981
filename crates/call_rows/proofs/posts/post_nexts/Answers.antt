use Rattle.std.proofs.Common.{ap, subst}
use Rattle.gil_syntax.specs.Program.{prog_view}
use Rattle.gil_syntax.specs.View.{assertion_view}
use Rattle.pure_terms.specs.View.{atoms_view}
use Rattle.sym_model.proofs.ListLaws.{each_to}
use Rattle.sym_states.proofs.Values.{ok_to}
use Rattle.sym_states.specs.View.{states_view}
use Rattle.sym_unfolding.specs.Adding.{AddsItems}
use Rattle.sym_unfolding.specs.Further.{IsFurther}
use Rattle.checked_paths.specs.Meaning.{EachWith}
use Rattle.checked_paths.specs.View.{checking_view, entry_view, nexts_view}
use Rattle.call_rows.specs.Leaving.{IsCompleted, MayComplete}
use Rattle.call_rows.specs.Posts.{AnswersPost}
use Rattle.call_rows.specs.View.{ready_view}
use Rattle.call_rows.proofs.PostLaws.{may_complete}
use Rattle.sym_model.specs.Lists.{Each}
use Rattle.sym_unfolding.specs.Origins.{IsAddedFrom}
use Rattle.checked_rows.specs.Asking.{AddsTo}
use Rattle.call_rows.specs.Asked.{AddsToState, AsksCompleting, AsksPost}
use Rattle.call_rows.proofs.AskedLaws.{post_adds}
use Rattle.call_rows.proofs.posts.post_nexts.Goals as goal

pub each_completed-requires-clause-may : goal.each_completed-requires-clause-may
each_completed-requires-clause-may g c =
    let terms = g.M.SymMemory.terms in
    let kept = g.M.SymMemory.kept in
    let e = entry_view c.args.spec.now c.args.entered.now in
    let ready = ready_view c.args.ready.now in
    let adds = subst (λ more. AddsItems g.M.Local.LocalMemory.memory g.M.SymMemory.stands terms kept c.args.scope.now ready.store more (assertion_view c.args.items.now) ready.state (states_view c.in_ok-states.states)) (ap atoms_view c.new-none.ensures) c.in_ok-states.ensures.says in
    each_to (IsFurther terms kept ready.state) (MayComplete terms e (checking_view c.args.checking.now).path.given ready.result) (states_view c.in_ok-states.states) (λ r f. may_complete terms kept e (checking_view c.args.checking.now).path.given ready r c.requires.over f) (adds.follow c.requires.over.state c.requires.over.store tt)

pub returns-clause-answers : goal.returns-clause-answers
returns-clause-answers g c =
    let p = prog_view c.args.prog.now in
    let memory = g.M.Local.LocalMemory.memory in
    let stands = g.M.SymMemory.stands in
    let terms = g.M.SymMemory.terms in
    let kept = g.M.SymMemory.kept in
    let e = entry_view c.args.spec.now c.args.entered.now in
    let y = checking_view c.args.checking.now in
    let ready = ready_view c.args.ready.now in
    let rs = states_view c.in_ok-states.states in
    let adds = subst (λ more. AddsItems memory stands terms kept c.args.scope.now ready.store more (assertion_view c.args.items.now) ready.state rs) (ap atoms_view c.new-none.ensures) c.in_ok-states.ensures.says in
    ok_to c.each_completed.result (λ ns. EachWith (IsCompleted p stands terms e y c.args.here.now c.args.how c.args.choice ready.result) rs (nexts_view ns)) (λ ns. AnswersPost p memory stands terms kept e y c.args.here.now c.args.scope.now ready c.args.how c.args.choice (assertion_view c.args.items.now) (nexts_view ns))
    (λ ns each. (rs, (adds, each))) c.each_completed.ensures.answers

pub returns-clause-asked : goal.returns-clause-asked
returns-clause-asked g c =
    let terms = g.M.SymMemory.terms in
    let p = prog_view c.args.prog.now in
    let e = entry_view c.args.spec.now c.args.entered.now in
    let ready = ready_view c.args.ready.now in
    let items = assertion_view c.args.items.now in
    let rs = states_view c.in_ok-states.states in
    let added = subst (λ more. Each (IsAddedFrom terms ready.store more items ready.state) rs) (ap atoms_view c.new-none.ensures) c.in_ok-states.ensures.origin in
    ok_to c.each_completed.result (λ ns. EachWith (AddsToState (AsksCompleting p e c.args.how)) rs (nexts_view ns)) (λ ns. Each (AddsTo (AsksPost p e c.args.how ready.store items) ready.state.conds) (nexts_view ns))
    (λ ns adds. post_adds terms p e c.args.how ready.store items ready.state rs (nexts_view ns) added adds) c.each_completed.ensures.asked
