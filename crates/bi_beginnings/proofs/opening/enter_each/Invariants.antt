use Rattle.std.proofs.Common.{◌≡◌, ℕ, ◌≤◌, ◌++◌, length, IfSome, IsSome}
use Rattle.std.specs.Vec.Iter.{into_iter_len, into_iter_items}
use Rattle.gil_syntax.specs.View.{proc_view}
use Rattle.pure_terms.specs.Fragment.{InFragment}
use Rattle.pure_terms.specs.View.{atoms_view}
use Rattle.sym_model.specs.Lists.{Each, OneOf}
use Rattle.sym_paths.specs.Steps.{narrow_bound}
use Rattle.sym_paths.specs.View.{paths_view}
use Rattle.sym_states.specs.View.{states_view}
use Rattle.bi_beginnings.specs.Beginnings.{PureBeginning, IsOpening, BeginsExactly, OpensBare}
use Rattle.bi_beginnings.specs.Narrowly.{IsNarrowStart, OpensNarrow}
use Rattle.bi_beginnings.specs.Opening.{IsBareState, IsEnteredExactly, IsOpenedBy, IsQueryOf}
use Rattle.bi_beginnings.specs.View.{beginning_view}
use Rattle.bi_beginnings.proofs.opening.enter_each.Given as goal

abbrev pub invariant-loop-state : goal.invariant-loop-state
invariant-loop-state g l = record {
  counted : into_iter_len l.state-iterator ≡ length (into_iter_items l.state-iterator);
  rest : l.fn.states ≡ l.yielded ++ into_iter_items l.state-iterator;
  starts : Each (IsOpening g.M.SymMemory.stands g.M.SymMemory.terms g.M.SymMemory.kept (proc_view l.proc)) (paths_view l.opened.starts);
  cover : Each (λ s. IsOpenedBy g.M.SymMemory.stands s (IsSome l.opened.undecided) (paths_view l.opened.starts)) (states_view l.yielded);
  exact : (b : PureBeginning) → Each (IsEnteredExactly g.M.SymMemory.stands b) (states_view l.fn.states) → Each (BeginsExactly g.M.SymMemory.stands b) (paths_view l.opened.starts);
  undecided : IfSome l.opened.undecided (λ q. ¬ InFragment (atoms_view q.query));
  asked : IfSome l.opened.undecided (λ q. OneOf (λ s. IsQueryOf (beginning_view l.beginning) s q) (states_view l.fn.states));
  bare : Each (IsBareState g.M.SymMemory.stands g.M.SymMemory.terms) (states_view l.fn.states) → OpensBare g.M.SymMemory.stands g.M.SymMemory.plain (IsSome l.opened.undecided) (paths_view l.opened.starts);
  narrow : (n : ℕ) → n ≤ narrow_bound → Each (IsNarrowStart g.M.SymMemory.terms n) (states_view l.fn.states) → OpensNarrow g.M.SymMemory.terms n (IsSome l.opened.undecided) (paths_view l.opened.starts);
}
