use Rattle.std.proofs.Common.{sym, subst}
use Rattle.gil_syntax.specs.Pure.{pure}
use Rattle.gil_syntax.specs.View.{expr_view}
use Rattle.sym_evaluation.specs.View.{store_view}
use Rattle.sym_matching.specs.View.{stores_view}
use Rattle.sym_states.specs.Meaning.{Serves}
use Rattle.sym_states.specs.View.{state_view}
use Rattle.sym_states.proofs.Values.{ok_to}
use Rattle.footprint.specs.Coming.{GuardComesFrom}
use Rattle.footprint.specs.Items.{PureGives, PureStops}
use Rattle.footprint.specs.Leaves.{AreLeaves}
use Rattle.footprint.specs.Plainly.{IsPlainMemory, ItemStaysPlain}
use Rattle.footprint.specs.Pure.{PureMatch}
use Rattle.footprint.specs.View.{leaves_view}
use Rattle.footprint.proofs.OriginLaws.{guard_from}
use Rattle.footprint.proofs.Plainness.{guard_plain}
use Rattle.footprint.proofs.PureItems.{guard_leaves}
use Rattle.footprint.proofs.items.match_guard.Goals as goal

pub returns-clause-says : goal.returns-clause-says
returns-clause-says g c =
    let s = state_view c.args.state in
    let bs = store_view c.args.store.now in
    let e = expr_view c.args.expression.now in
    let Are = AreLeaves g.M.SymMemory.stands g.M.SymMemory.terms g.M.SymMemory.kept s (Serves g.M.SymMemory.stands g.M.SymMemory.terms s bs) (PureGives c.args.scope.now e) (PureStops c.args.number c.args.scope.now e) in
    let m : PureMatch _ = record { state = s; store = bs } in
    ok_to c.spread_split.result _ (λ r. Are (leaves_view r) × ItemStaysPlain (IsPlainMemory g.M.Local.LocalMemory.memory g.M.SymMemory.keeps_plain g.M.SymMemory.terms) (pure e) m (leaves_view r))
    (λ r is. subst (λ x. Are x × ItemStaysPlain (IsPlainMemory g.M.Local.LocalMemory.memory g.M.SymMemory.keeps_plain g.M.SymMemory.terms) (pure e) m x) (sym is) (
      guard_leaves g.M.SymMemory.stands g.M.SymMemory.terms g.M.SymMemory.kept c.args.number c.args.scope.now e s bs (stores_view c.in_ok-split.split) c.requires.over c.requires.store_over
          c.in_ok-split.ensures.says c.in_ok-split.ensures.names,
      guard_plain g.M.Local.LocalMemory.memory g.M.SymMemory.keeps_plain g.M.SymMemory.terms c.args.number e s bs (stores_view c.in_ok-split.split) c.requires.store_over c.in_ok-split.ensures.plain,
    )) c.spread_split.ensures

pub returns-clause-origin : goal.returns-clause-origin
returns-clause-origin g c =
    let s = state_view c.args.state in
    let bs = store_view c.args.store.now in
    let e = expr_view c.args.expression.now in
    ok_to c.spread_split.result _ (λ r. GuardComesFrom g.M.SymMemory.terms c.args.scope.now e bs s (leaves_view r))
    (λ r is. subst (GuardComesFrom g.M.SymMemory.terms c.args.scope.now e bs s) (sym is)
    (guard_from g.M.SymMemory.terms c.args.scope.now e c.args.number s bs (stores_view c.in_ok-split.split) c.in_ok-split.ensures.origin)) c.spread_split.ensures
