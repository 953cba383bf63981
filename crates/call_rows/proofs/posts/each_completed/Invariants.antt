use Rattle.std.proofs.Common.{◌≡◌, ◌++◌, length}
use Rattle.std.specs.Vec.Iter.{into_iter_len, into_iter_items}
use Rattle.gil_syntax.specs.Program.{prog_view}
use Rattle.pure_terms.specs.View.{term_view}
use Rattle.sym_states.specs.View.{states_view}
use Rattle.checked_paths.specs.Meaning.{EachWith}
use Rattle.checked_paths.specs.View.{checking_view, entry_view, nexts_view}
use Rattle.call_rows.specs.Leaving.{IsCompleted}
use Rattle.call_rows.specs.Asked.{AddsToState, AsksCompleting}
use Rattle.call_rows.proofs.posts.each_completed.Given as goal

abbrev pub invariant-loop-state : goal.invariant-loop-state
invariant-loop-state g l = record {
  counted : into_iter_len l.state-iterator ≡ length (into_iter_items l.state-iterator);
  rest : l.fn.states ≡ l.yielded ++ into_iter_items l.state-iterator;
  answered : EachWith (IsCompleted (prog_view l.prog) g.M.SymMemory.stands g.M.SymMemory.terms (entry_view l.spec l.entered) (checking_view l.checking) l.here l.how l.choice (term_view l.term)) (states_view l.yielded) (nexts_view l.nexts);
  asked : EachWith (AddsToState (AsksCompleting (prog_view l.prog) (entry_view l.spec l.entered) l.how)) (states_view l.yielded) (nexts_view l.nexts);
}
