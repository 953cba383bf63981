use Rattle.sym_paths.specs.View.{paths_view}
use Rattle.sym_states.specs.View.{facts_view}
use Rattle.checked_paths.specs.Causes.{EachShowsEnd}
use Rattle.checked_paths.specs.Following.{EachIsAnswered}
use Rattle.checked_paths.specs.View.{nexts_view, passed_by_view}
use Rattle.checked_paths.proofs.following.follow_all.Given as goal

abbrev pub invariant-loop-path : goal.invariant-loop-path
invariant-loop-path g l =
    EachIsAnswered g.M.SymMemory.stands g.M.SymMemory.terms (facts_view l.preds) (passed_by_view l.passed) (paths_view l.yielded) (nexts_view l.nexts)
    × EachShowsEnd l.here (paths_view l.yielded) (nexts_view l.nexts)
