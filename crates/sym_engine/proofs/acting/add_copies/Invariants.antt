use Rattle.std.proofs.Common.{◌≡◌, ◌++◌, List, length}
use Rattle.std.specs.Vec.Iter.{into_iter_len, into_iter_items}
use Rattle.pure_terms.specs.View.{terms_view}
use Rattle.sym_engine.specs.View.{candidates_view}
use Rattle.sym_evaluation.specs.View.{good_view}
use Rattle.sym_model.specs.View.{branches_view}
use Rattle.sym_paths.specs.Settling.{Candidate}
use Rattle.sym_paths.specs.View.{path_view}
use Rattle.sym_paths.specs.Acting.{ActsAsEach}
use Rattle.sym_engine.proofs.acting.add_copies.Given as goal

abbrev pub invariant-loop-branch : goal.invariant-loop-branch
invariant-loop-branch g l = record {
  counted : into_iter_len l.branch-iterator ≡ length (into_iter_items l.branch-iterator);
  rest : l.fn.branches.items ≡ l.yielded ++ into_iter_items l.branch-iterator;
  acted : (ds : List (Candidate g.row.M.Denot)) × ((candidates_view l.candidates ≡ candidates_view l.fn.candidates ++ ds)
      × ActsAsEach (path_view l.path) l.name l.here l.takes (good_view terms_view l.good) (branches_view l.yielded) ds);
}
