use Rattle.std.proofs.Common.{◌∷◌, [], ◌++◌, sym, ap, subst, ◌∙◌}
use Rattle.std.proofs.lemmas.List.{map-append}
use Rattle.gil_syntax.specs.View.{proc_view}
use Rattle.pure_terms.specs.View.{terms_view}
use Rattle.sym_states.specs.View.{state_view, states_view}
use Rattle.sym_beginning.specs.Starting.{StartsFrom, BeginsEach}
use Rattle.sym_beginning.specs.View.{start_view, starts_view}
use Rattle.sym_beginning.proofs.StartLaws.{pairs_more}
use Rattle.sym_beginning.proofs.beginning.start_in_each.Goals as goal

pub loop-state-preserved : goal.loop-state-preserved
loop-state-preserved g c =
    let q = proc_view c.args.proc.now in
    let ts = terms_view c.args.args.now in
    let before = c.loop-state.yielded in
    let s = c.in-Some.state in
    let t = c.in_ok-start_from.field-0 in
    subst (λ ss. BeginsEach q ts ss (starts_view c.push.new.self)) (sym (map-append state_view before (s ∷ [])))
    (subst (λ starts. BeginsEach q ts (states_view before ++ state_view s ∷ []) starts) (sym (ap starts_view c.in_ok-push.ensures.ok ∙ map-append start_view c.loop-state.starts (t ∷ [])))
    (pairs_more (StartsFrom q ts) (states_view before) (starts_view c.loop-state.starts) (state_view s) (start_view t) c.loop-state.invariant c.in_ok-start_from.ensures))
