use Rattle.std.proofs.Common.{◌≡◌, ◌++◌, length}
use Rattle.std.specs.Vec.Iter.{into_iter_len, into_iter_items}
use Rattle.gil_syntax.specs.Program.{prog_view}
use Rattle.sym_paths.specs.View.{paths_view}
use Rattle.sym_states.specs.View.{facts_view, state_view}
use Rattle.footprint.specs.Plainly.{IsPlainMemory}
use Rattle.checked_paths.specs.View.{entry_view, nexts_view, passed_by_view}
use Rattle.checked_rows.specs.Ending.{EachIsEnded, EachIsExactlyEnded}
use Rattle.checked_rows.specs.Plainly.{EachEndsSurely}
use Rattle.checked_rows.specs.Asked.{EachEndAsks}
use Rattle.checked_rows.proofs.ending.end_all.Given as goal

abbrev pub invariant-loop-path : goal.invariant-loop-path
invariant-loop-path g l = record {
  counted : into_iter_len l.path-iterator ≡ length (into_iter_items l.path-iterator);
  rest : l.fn.paths ≡ l.yielded ++ into_iter_items l.path-iterator;
  ended : EachIsEnded (prog_view l.prog) g.M.SymMemory.stands g.M.SymMemory.terms (entry_view l.spec l.entered) (state_view l.state) (facts_view l.preds) (passed_by_view l.passed) (paths_view l.yielded) (nexts_view l.nexts);
  exactly : EachIsExactlyEnded (prog_view l.prog) g.M.SymMemory.stands g.M.SymMemory.terms (entry_view l.spec l.entered) (state_view l.state) (facts_view l.preds) (passed_by_view l.passed) l.here (paths_view l.yielded) (nexts_view l.nexts);
  surely : EachEndsSurely g.M.SymMemory.plain (IsPlainMemory g.M.Local.LocalMemory.memory g.M.SymMemory.keeps_plain g.M.SymMemory.terms) (state_view l.state) (entry_view l.spec l.entered) (paths_view l.yielded) (nexts_view l.nexts);
  asked : EachEndAsks (prog_view l.prog) (entry_view l.spec l.entered) (paths_view l.yielded) (nexts_view l.nexts);
}
