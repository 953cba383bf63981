use Rattle.std.proofs.Common.{map, take}
use Rattle.gil_syntax.specs.View.{assertion_view, pred_def_view}
use Rattle.sym_evaluation.specs.View.{store_view}
use Rattle.sym_states.specs.Meaning.{Serves}
use Rattle.sym_states.specs.View.{state_view}
use Rattle.footprint.specs.Assertions.{cases_at}
use Rattle.footprint.specs.Coming.{TriesComeFrom}
use Rattle.footprint.specs.Leaves.{AreLeaves}
use Rattle.footprint.specs.Plainly.{IsPlainMemory, PostsStayPlain}
use Rattle.footprint.specs.View.{leaves_view}
use Rattle.footprint.specs.Whole.{SomeGives, SomeStops}
use Rattle.footprint.proofs.whole.try_posts.Given as goal

abbrev pub invariant-loop-post : goal.invariant-loop-post
invariant-loop-post g l =
    AreLeaves g.M.SymMemory.stands g.M.SymMemory.terms g.M.SymMemory.kept (state_view l.state) (Serves g.M.SymMemory.stands g.M.SymMemory.terms (state_view l.state) (store_view l.start))
    (SomeGives (cases_at (map pred_def_view l.preds) 1) l.scope (map assertion_view (take l.post-index l.post-items)))
    (SomeStops (cases_at (map pred_def_view l.preds) 1) l.scope (map assertion_view (take l.post-index l.post-items))) (leaves_view l.leaves)
    × PostsStayPlain (IsPlainMemory g.M.Local.LocalMemory.memory g.M.SymMemory.keeps_plain g.M.SymMemory.terms) (map assertion_view (take l.post-index l.post-items)) (state_view l.state) (store_view l.start) (leaves_view l.leaves)
    × TriesComeFrom g.M.SymMemory.terms (map pred_def_view l.preds) l.scope (map assertion_view (take l.post-index l.post-items)) (state_view l.state) (store_view l.start) (leaves_view l.leaves)
