use Rattle.std.proofs.Common.{map, take}
use Rattle.gil_syntax.specs.Program.{prog_view}
use Rattle.gil_syntax.specs.View.{assertion_view}
use Rattle.checked_paths.specs.View.{checking_view, entry_view, nexts_view}
use Rattle.call_rows.specs.Gathering.{GathersNexts}
use Rattle.call_rows.specs.Posts.{AnswersOneOf}
use Rattle.call_rows.specs.View.{ready_view}
use Rattle.sym_model.specs.Lists.{Each}
use Rattle.checked_rows.specs.Asking.{AddsTo}
use Rattle.call_rows.specs.Asked.{AsksPosts}
use Rattle.call_rows.proofs.posts.posts_nexts.Given as goal

abbrev pub invariant-loop-number : goal.invariant-loop-number
invariant-loop-number g l = record {
  answered :
      GathersNexts
      (AnswersOneOf (prog_view l.prog) g.M.Local.LocalMemory.memory g.M.SymMemory.stands g.M.SymMemory.terms g.M.SymMemory.kept (entry_view l.spec l.entered) (checking_view l.checking) l.here l.scope (ready_view l.ready) l.how l.first (map assertion_view l.bodies))
      (map assertion_view (take l.number l.bodies)) (nexts_view l.nexts);
  asked : Each (AddsTo (AsksPosts (prog_view l.prog) (entry_view l.spec l.entered) l.how (ready_view l.ready).store (map assertion_view l.bodies)) (ready_view l.ready).state.conds) (nexts_view l.nexts);
}
