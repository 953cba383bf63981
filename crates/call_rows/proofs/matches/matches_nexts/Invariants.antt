use Rattle.std.proofs.Common.{◌≡◌, ◌++◌, length}
use Rattle.std.specs.Vec.Iter.{into_iter_len, into_iter_items}
use Rattle.gil_syntax.specs.Program.{prog_view}
use Rattle.gil_syntax.specs.View.{spec_view}
use Rattle.footprint.specs.View.{matches_view}
use Rattle.checked_paths.specs.View.{checking_view, entry_view, nexts_view}
use Rattle.call_rows.specs.Gathering.{GathersNexts}
use Rattle.call_rows.specs.Matches.{AnswersMatch}
use Rattle.call_rows.specs.Asked.{AddsToMatch}
use Rattle.call_rows.proofs.matches.matches_nexts.Given as goal

abbrev pub invariant-loop-found : goal.invariant-loop-found
invariant-loop-found g l = record {
  counted : into_iter_len l.found-iterator ≡ length (into_iter_items l.found-iterator);
  rest : l.fn.matches ≡ l.yielded ++ into_iter_items l.found-iterator;
  answered :
      GathersNexts (AnswersMatch (prog_view l.prog) g.M.Local.LocalMemory.memory g.M.SymMemory.stands g.M.SymMemory.terms g.M.SymMemory.kept (entry_view l.spec l.entered) (spec_view l.used) (checking_view l.checking) l.here) (matches_view l.yielded)
      (nexts_view l.nexts);
  asked : GathersNexts (AddsToMatch (prog_view l.prog) (entry_view l.spec l.entered) (spec_view l.used)) (matches_view l.yielded) (nexts_view l.nexts);
}
