use Rattle.std.proofs.Common.{drop, map}
use Rattle.pure_terms.specs.View.{term_view}
use Rattle.sym_evaluation.specs.View.{store_view}
use Rattle.sym_paths.specs.Calls.{IsFirstStore}
use Rattle.sym_engine.proofs.calling.first_store.Given as goal

abbrev pub invariant-loop-place : goal.invariant-loop-place
invariant-loop-place l = IsFirstStore (drop l.place l.params) (drop l.place (map term_view l.args)) (store_view l.store)
