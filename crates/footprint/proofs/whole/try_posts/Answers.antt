use Rattle.std.proofs.Common.{◌≡◌, [], List, map, take, Some, slice_get, sym, ap, subst, ◌∙◌}
use Rattle.std.proofs.lemmas.List.{take_all}
use Rattle.gil_values.proofs.Lists.{slice_get-read}
use Rattle.gil_syntax.specs.Pure.{PureItem}
use Rattle.gil_syntax.specs.View.{assertion_view, pred_def_view}
use Rattle.sym_evaluation.specs.View.{store_view}
use Rattle.sym_model.proofs.ListLaws.{each_at}
use Rattle.sym_states.specs.Meaning.{Serves}
use Rattle.sym_states.specs.View.{state_view}
use Rattle.sym_matching.proofs.Lists.{taken_next}
use Rattle.footprint.specs.Assertions.{cases_at}
use Rattle.footprint.specs.Coming.{TriesComeFrom}
use Rattle.footprint.specs.Consuming.{MayMatch}
use Rattle.footprint.specs.Leaves.{AreLeaves}
use Rattle.footprint.specs.Plainly.{IsPlainMemory, PostsStayPlain}
use Rattle.footprint.specs.View.{leaves_view}
use Rattle.footprint.specs.Whole.{SomeGives, SomeStops}
use Rattle.footprint.proofs.Plainness.{posts_begin_plain, posts_more_plain}
use Rattle.footprint.proofs.TryOrigins.{tries_begin, tries_more}
use Rattle.footprint.proofs.WholeLaws.{posts_begin, posts_more, stops_in}
use Rattle.footprint.proofs.whole.try_posts.Goals as goal

pub loop-post-init : goal.loop-post-init
loop-post-init g c =
    let s = state_view c.args.state.now in
    let bs = store_view c.args.start.now in
    let cs = cases_at (map pred_def_view c.args.preds.now) 1 in
    let scope = c.args.scope.now in
    subst (λ x. AreLeaves g.M.SymMemory.stands g.M.SymMemory.terms g.M.SymMemory.kept s (Serves g.M.SymMemory.stands g.M.SymMemory.terms s bs) (SomeGives cs scope []) (SomeStops cs scope []) x × PostsStayPlain (IsPlainMemory g.M.Local.LocalMemory.memory g.M.SymMemory.keeps_plain g.M.SymMemory.terms) [] s bs x
    × TriesComeFrom g.M.SymMemory.terms (map pred_def_view c.args.preds.now) scope [] s bs x)
    (sym (c.of_stops-leaves.ensures ∙ ap (λ xs. record { matched = []; stopped = xs; undecided = [] }) c.in_ok-one_stop.ensures)) (
      posts_begin g.M.SymMemory.stands g.M.SymMemory.terms g.M.SymMemory.kept cs scope s bs c.requires.over.over c.requires.over.store_over,
      posts_begin_plain g.M.Local.LocalMemory.memory g.M.SymMemory.keeps_plain g.M.SymMemory.terms g.M.SymMemory.stands g.M.SymMemory.kept s bs,
      tries_begin g.M.SymMemory.terms (map pred_def_view c.args.preds.now) scope s bs 0,
    )

pub next_post-requires-clause-each : goal.next_post-requires-clause-each
next_post-requires-clause-each g c =
    let s = state_view c.args.state.now in
    let bs = store_view c.args.start.now in
    let cs = cases_at (map pred_def_view c.args.preds.now) 1 in
    let items = c.as_slice-post-items.result.now in
    stops_in g.M.SymMemory.stands g.M.SymMemory.terms g.M.SymMemory.kept s (Serves g.M.SymMemory.stands g.M.SymMemory.terms s bs) (SomeStops cs c.args.scope.now (map assertion_view (take c.loop-post.post-index items)))
    (leaves_view c.loop-post.leaves).stopped c.loop-post.invariant.0.stopped

pub next_post-requires-clause-may : goal.next_post-requires-clause-may
next_post-requires-clause-may g c =
    let items = c.as_slice-post-items.result.now in
    let i = c.loop-post.post-index in
    each_at (MayMatch g.M.Local.LocalMemory.memory) (map assertion_view c.args.posts.now) i (assertion_view c.post-item.result) c.requires.may
    (subst (λ xs. slice_get (map assertion_view xs) i ≡ Some (assertion_view c.post-item.result)) c.as_slice-post-items.ensures
    (slice_get-read assertion_view items i c.post-item.result c.loop-post-test.true c.post-item.is))

pub loop-post-preserved : goal.loop-post-preserved
loop-post-preserved g c =
    let s = state_view c.args.state.now in
    let bs = store_view c.args.start.now in
    let cs = cases_at (map pred_def_view c.args.preds.now) 1 in
    let scope = c.args.scope.now in
    let items = c.as_slice-post-items.result.now in
    let i = c.loop-post.post-index in
    subst (λ (ps : List (List PureItem)). AreLeaves g.M.SymMemory.stands g.M.SymMemory.terms g.M.SymMemory.kept s (Serves g.M.SymMemory.stands g.M.SymMemory.terms s bs) (SomeGives cs scope ps) (SomeStops cs scope ps) (leaves_view c.in_ok-leaves.leaves)
    × PostsStayPlain (IsPlainMemory g.M.Local.LocalMemory.memory g.M.SymMemory.keeps_plain g.M.SymMemory.terms) ps s bs (leaves_view c.in_ok-leaves.leaves)
    × TriesComeFrom g.M.SymMemory.terms (map pred_def_view c.args.preds.now) scope ps s bs (leaves_view c.in_ok-leaves.leaves))
    (sym (taken_next assertion_view items i c.post-item.result c.loop-post-test.true c.post-item.is)) (
      posts_more g.M.SymMemory.stands g.M.SymMemory.terms g.M.SymMemory.kept cs scope s bs c.requires.over.over c.requires.over.store_over (IsPlainMemory g.M.Local.LocalMemory.memory g.M.SymMemory.keeps_plain g.M.SymMemory.terms) (map assertion_view (take i items)) (assertion_view c.post-item.result)
          (leaves_view c.loop-post.leaves) (leaves_view c.in_ok-leaves.leaves) c.loop-post.invariant.0 c.in_ok-leaves.ensures.says,
      posts_more_plain g.M.Local.LocalMemory.memory g.M.SymMemory.keeps_plain g.M.SymMemory.terms g.M.SymMemory.stands g.M.SymMemory.kept cs scope s bs (map assertion_view (take i items)) (assertion_view c.post-item.result)
          (leaves_view c.loop-post.leaves) (leaves_view c.in_ok-leaves.leaves) c.loop-post.invariant.1 c.in_ok-leaves.ensures.says,
      tries_more g.M.SymMemory.terms (map pred_def_view c.args.preds.now) scope s bs (map assertion_view (take i items)) (assertion_view c.post-item.result)
          (leaves_view c.loop-post.leaves) (leaves_view c.in_ok-leaves.leaves) c.loop-post.invariant.2 c.in_ok-leaves.ensures.origin,
    )

pub returns-clause-says : goal.returns-clause-says
returns-clause-says g c =
    let s = state_view c.args.state.now in
    let bs = store_view c.args.start.now in
    let cs = cases_at (map pred_def_view c.args.preds.now) 1 in
    let scope = c.args.scope.now in
    let leaves = leaves_view c.loop-post.leaves in
    let all = take_all c.loop-post.post-index c.as_slice-post-items.result.now c.loop-post-test.false ∙ c.as_slice-post-items.ensures in
    subst (λ ys. AreLeaves g.M.SymMemory.stands g.M.SymMemory.terms g.M.SymMemory.kept s (Serves g.M.SymMemory.stands g.M.SymMemory.terms s bs) (SomeGives cs scope (map assertion_view ys)) (SomeStops cs scope (map assertion_view ys)) leaves
    × PostsStayPlain (IsPlainMemory g.M.Local.LocalMemory.memory g.M.SymMemory.keeps_plain g.M.SymMemory.terms) (map assertion_view ys) s bs leaves) all (c.loop-post.invariant.0, c.loop-post.invariant.1)

pub returns-clause-origin : goal.returns-clause-origin
returns-clause-origin g c =
    let s = state_view c.args.state.now in
    let bs = store_view c.args.start.now in
    let all = take_all c.loop-post.post-index c.as_slice-post-items.result.now c.loop-post-test.false ∙ c.as_slice-post-items.ensures in
    subst (λ ys. TriesComeFrom g.M.SymMemory.terms (map pred_def_view c.args.preds.now) c.args.scope.now (map assertion_view ys) s bs (leaves_view c.loop-post.leaves)) all c.loop-post.invariant.2
