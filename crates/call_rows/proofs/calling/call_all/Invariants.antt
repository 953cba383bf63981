use Rattle.std.proofs.Common.{◌≡◌, ◌++◌, length}
use Rattle.std.specs.Vec.Iter.{into_iter_len, into_iter_items}
use Rattle.gil_syntax.specs.Program.{prog_view}
use Rattle.sym_paths.specs.View.{paths_view}
use Rattle.sym_states.specs.View.{facts_view}
use Rattle.checked_paths.specs.View.{entry_view, nexts_view, passed_by_view}
use Rattle.call_rows.specs.Calling.{EachIsCalled}
use Rattle.call_rows.specs.Asked.{AddsToNext}
use Rattle.call_rows.specs.Gathering.{GathersNexts}
use Rattle.call_rows.proofs.calling.call_all.Given as goal

abbrev pub invariant-loop-path : goal.invariant-loop-path
invariant-loop-path g l = record {
  counted : into_iter_len l.path-iterator ≡ length (into_iter_items l.path-iterator);
  rest : l.fn.paths ≡ l.yielded ++ into_iter_items l.path-iterator;
  answered :
      EachIsCalled (prog_view l.prog) g.M.Local.LocalMemory.memory g.M.SymMemory.stands g.M.SymMemory.terms g.M.SymMemory.kept (entry_view l.spec l.entered) l.here (facts_view l.preds) (passed_by_view l.passed) (paths_view l.yielded)
      (nexts_view l.nexts);
  asked : GathersNexts (AddsToNext (prog_view l.prog) (entry_view l.spec l.entered)) (paths_view l.yielded) (nexts_view l.nexts);
}
