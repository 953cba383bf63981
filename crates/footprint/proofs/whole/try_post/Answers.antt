use Rattle.std.proofs.Common.{map, sym, subst}
use Rattle.gil_syntax.specs.View.{assertion_view, pred_def_view}
use Rattle.pure_terms.specs.View.{atoms_view}
use Rattle.sym_evaluation.specs.Meaning.{IsStoreOver}
use Rattle.sym_evaluation.specs.Pure.{PureStore}
use Rattle.sym_evaluation.specs.View.{store_view}
use Rattle.sym_states.specs.Meaning.{Serves}
use Rattle.sym_states.specs.View.{state_view}
use Rattle.sym_states.proofs.Values.{ok_to}
use Rattle.footprint.specs.Assertions.{cases_at, ItemsGive, ItemsStop}
use Rattle.footprint.specs.Coming.{ItemsComeFrom, TryComesFrom}
use Rattle.footprint.specs.Leaves.{AreLeaves}
use Rattle.footprint.specs.Plainly.{IsPlainMemory, ItemsStayPlain}
use Rattle.footprint.specs.View.{leaves_view}
use Rattle.footprint.specs.Whole.{WholeTried}
use Rattle.footprint.proofs.CaseLaws.{renewed_over, renewed_store_over}
use Rattle.footprint.proofs.TryOrigins.{try_from, whole_from}
use Rattle.footprint.proofs.whole.try_post.Goals as goal

pub match_items-requires-clause-start : goal.match_items-requires-clause-start
match_items-requires-clause-start g c =
    let s = state_view c.args.state.now in
    let bs = store_view c.args.start.now in
    let conds = atoms_view c.args.conds.now in
    let r = state_view c.in_ok-state.state in
    record {
      over = renewed_over g.M.SymMemory.stands g.M.SymMemory.terms g.M.SymMemory.kept s bs c.requires.over.over c.requires.over.store_over conds c.requires.conds r c.in_ok-state.ensures;
      store_over = subst (IsStoreOver r.vars) (sym c.in_ok-store.ensures)
          (renewed_store_over g.M.SymMemory.stands g.M.SymMemory.terms g.M.SymMemory.kept s bs c.requires.over.over c.requires.over.store_over conds c.requires.conds r c.in_ok-state.ensures);
    }

pub returns-clause-says : goal.returns-clause-says
returns-clause-says g c =
    let s = state_view c.args.state.now in
    let bs = store_view c.args.start.now in
    let conds = atoms_view c.args.conds.now in
    let r = state_view c.in_ok-state.state in
    let cs = cases_at (map pred_def_view c.args.preds.now) 1 in
    let scope = c.args.scope.now in
    let items = assertion_view c.args.post.now in
    let first = leaves_view c.in_ok-leaves.leaves in
    let are = subst (λ (xs : PureStore). AreLeaves g.M.SymMemory.stands g.M.SymMemory.terms g.M.SymMemory.kept r (Serves g.M.SymMemory.stands g.M.SymMemory.terms r xs) (ItemsGive cs scope items) (ItemsStop cs scope items) first
    × ItemsStayPlain (IsPlainMemory g.M.Local.LocalMemory.memory g.M.SymMemory.keeps_plain g.M.SymMemory.terms) items (record { state = r; store = xs }) first)
    c.in_ok-store.ensures c.in_ok-leaves.ensures.says in
    ok_to c.keep_whole.result _ (λ x. WholeTried g.M.SymMemory.stands g.M.SymMemory.terms g.M.SymMemory.kept (IsPlainMemory g.M.Local.LocalMemory.memory g.M.SymMemory.keeps_plain g.M.SymMemory.terms) cs scope items s bs conds (leaves_view x))
    (λ x is. (r, (c.in_ok-state.ensures, (first, (are, is))))) c.keep_whole.ensures

pub returns-clause-origin : goal.returns-clause-origin
returns-clause-origin g c =
    let s = state_view c.args.state.now in
    let bs = store_view c.args.start.now in
    let conds = atoms_view c.args.conds.now in
    let r = state_view c.in_ok-state.state in
    let preds = map pred_def_view c.args.preds.now in
    let scope = c.args.scope.now in
    let items = assertion_view c.args.post.now in
    let first = leaves_view c.in_ok-leaves.leaves in
    let come = subst (λ (xs : PureStore). ItemsComeFrom g.M.SymMemory.terms preds scope items (record { state = r; store = xs }) first) c.in_ok-store.ensures c.in_ok-leaves.ensures.origin in
    ok_to c.keep_whole.result _ (λ x. TryComesFrom g.M.SymMemory.terms preds scope items s bs conds (leaves_view x))
    (λ x is. try_from g.M.SymMemory.terms preds scope g.M.SymMemory.stands g.M.SymMemory.kept items s bs conds r first (leaves_view x) c.in_ok-state.ensures come
    (λ o are. whole_from g.M.SymMemory.terms o scope items conds g.M.SymMemory.stands first (leaves_view x) is are)) c.keep_whole.ensures
