use Rattle.std.proofs.Common.{◌≡◌, ◌+◌, [], ◌∷◌, ◌++◌, length, IsSome, append-nil, rules, sym, ap, subst, ◌∙◌, true≢false, arith}
use Rattle.std.specs.Vec.Iter.{into_iter_items}
use Rattle.gil_syntax.specs.View.{proc_view}
use Rattle.pure_terms.specs.Fragment.{InFragment}
use Rattle.pure_terms.specs.View.{atoms_view}
use Rattle.sym_engine.proofs.Settled.{rest_more, over_next}
use Rattle.sym_paths.specs.View.{paths_view}
use Rattle.pure_terms.specs.declared.queries.Query.{Query}
use Rattle.sym_model.specs.Lists.{Each, OneOf}
use Rattle.sym_model.proofs.ListLaws.{each_to}
use Rattle.sym_states.specs.View.{state_view, states_view}
use Rattle.bi_beginnings.specs.Beginnings.{IsOpening, BeginsExactly, BeginsBare}
use Rattle.bi_beginnings.specs.Narrowly.{IsNarrowStart, BeginsNarrow}
use Rattle.bi_beginnings.specs.Opening.{IsEntryState, IsBareState, IsEnteredExactly, IsOpenedBy, IsQueryOf, starts_of, undecided_of}
use Rattle.bi_beginnings.specs.View.{beginning_view}
use Rattle.bi_beginnings.proofs.Covering.{opened_more, opened_last, some_first, some_second}
use Rattle.bi_beginnings.proofs.Narrowness.{narrow_further}
use Rattle.bi_beginnings.proofs.Openings.{each_further, first_of_both, if_some_to, one_among, bare_further}
use Rattle.bi_beginnings.proofs.Tables.{each_pushed, none_there}
use Rattle.bi_beginnings.proofs.opening.enter_each.Goals as goal

pub enter-requires-clause-entry : goal.enter-requires-clause-entry
enter-requires-clause-entry g c =
    over_next (IsEntryState g.M.SymMemory.stands g.M.SymMemory.terms g.M.SymMemory.kept (proc_view c.args.proc.now).params) state_view c.args.states c.loop-state.yielded
    (into_iter_items c.loop-state.state-iterator) (into_iter_items c.next.new.self) c.in-Some.state c.loop-state.invariant.rest c.in-Some.ensures.steps.0 c.requires.entries

pub loop-state-init : goal.loop-state-init
loop-state-init g c = record { counted = search rules; rest = search rules; starts = search rules; cover = search rules; exact = λ b all. subst (λ xs. Each (BeginsExactly g.M.SymMemory.stands b) (paths_view xs)) (sym c.new.ensures) tt; undecided = search rules; asked = search rules; bare = λ all. record { decided = λ some. true≢false (sym some); each_start = subst (λ xs. Each (BeginsBare g.M.SymMemory.stands g.M.SymMemory.plain) (paths_view xs)) (sym c.new.ensures) tt }; narrow = λ n within all. record { decided = λ some. true≢false (sym some); each_start = subst (λ xs. Each (BeginsNarrow g.M.SymMemory.terms n) (paths_view xs)) (sym c.new.ensures) tt } }

pub loop-state-preserved : goal.loop-state-preserved
loop-state-preserved g c = record {
  counted =
      let longer : length (into_iter_items c.loop-state.state-iterator) ≡ length (into_iter_items c.next.new.self) + 1 = ap length c.in-Some.ensures.steps.0 ∙ omega arith in
      omega (arith, longer, c.in-Some.ensures.steps.1, c.loop-state.invariant.counted);
  rest = rest_more c.args.states c.loop-state.yielded (into_iter_items c.loop-state.state-iterator) (into_iter_items c.next.new.self) c.in-Some.state c.loop-state.invariant.rest c.in-Some.ensures.steps.0;
  starts = each_further (IsOpening g.M.SymMemory.stands g.M.SymMemory.terms g.M.SymMemory.kept (proc_view c.args.proc.now)) (paths_view c.loop-state.opened.starts) (starts_of c.in_ok-opening.opening)
      (paths_view c.in_ok-opened.opened.starts) c.in_ok-opened.ensures.starts c.loop-state.invariant.starts c.in_ok-opening.ensures.starts;
  cover =
      let stands = g.M.SymMemory.stands in
      let before = paths_view c.loop-state.opened.starts in
      let after = paths_view c.in_ok-opened.opened.starts in
      let old = IsSome c.loop-state.opened.undecided in
      let now = IsSome c.in_ok-opened.opened.undecided in
      each_pushed (λ s. IsOpenedBy stands s now after) state_view c.loop-state.yielded c.in-Some.state
      (each_to (λ s. IsOpenedBy stands s old before) (λ s. IsOpenedBy stands s now after) (states_view c.loop-state.yielded)
      (λ s is. opened_more stands s old now before (starts_of c.in_ok-opening.opening) after
      (some_first c.loop-state.opened.undecided (undecided_of c.in_ok-opening.opening) c.in_ok-opened.opened.undecided c.in_ok-opened.ensures.undecided) c.in_ok-opened.ensures.starts is)
      c.loop-state.invariant.cover)
      (opened_last stands (state_view c.in-Some.state) (IsSome (undecided_of c.in_ok-opening.opening)) now before (starts_of c.in_ok-opening.opening) after
      (some_second c.loop-state.opened.undecided (undecided_of c.in_ok-opening.opening) c.in_ok-opened.opened.undecided c.in_ok-opened.ensures.undecided) c.in_ok-opened.ensures.starts c.in_ok-opening.ensures.cover);
  exact = λ b all.
      each_further (BeginsExactly g.M.SymMemory.stands b) (paths_view c.loop-state.opened.starts) (starts_of c.in_ok-opening.opening)
      (paths_view c.in_ok-opened.opened.starts) c.in_ok-opened.ensures.starts (c.loop-state.invariant.exact b all)
      (c.in_ok-opening.ensures.exact b
      (over_next (IsEnteredExactly g.M.SymMemory.stands b) state_view c.args.states c.loop-state.yielded
      (into_iter_items c.loop-state.state-iterator) (into_iter_items c.next.new.self) c.in-Some.state c.loop-state.invariant.rest c.in-Some.ensures.steps.0 all));
  undecided = first_of_both (λ q. ¬ InFragment (atoms_view q.query)) c.loop-state.opened.undecided (undecided_of c.in_ok-opening.opening) c.in_ok-opened.opened.undecided
      c.in_ok-opened.ensures.undecided c.loop-state.invariant.undecided c.in_ok-opening.ensures.undecided;
  asked =
      let Asked = λ (q : Query). OneOf (λ s. IsQueryOf (beginning_view c.args.beginning.now) s q) (states_view c.args.states) in
      let there : c.args.states ≡ c.loop-state.yielded ++ c.in-Some.state ∷ into_iter_items c.next.new.self =
      c.loop-state.invariant.rest ∙ ap (λ xs. c.loop-state.yielded ++ xs) c.in-Some.ensures.steps.0 in
      first_of_both Asked c.loop-state.opened.undecided (undecided_of c.in_ok-opening.opening) c.in_ok-opened.opened.undecided
      c.in_ok-opened.ensures.undecided c.loop-state.invariant.asked
      (if_some_to (IsQueryOf (beginning_view c.args.beginning.now) (state_view c.in-Some.state)) Asked (undecided_of c.in_ok-opening.opening)
      (λ q is. one_among (λ s. IsQueryOf (beginning_view c.args.beginning.now) s q) state_view c.args.states c.loop-state.yielded c.in-Some.state (into_iter_items c.next.new.self) there is)
      c.in_ok-opening.ensures.asked);
  bare = λ all.
      bare_further g.M.SymMemory.stands g.M.SymMemory.plain c.loop-state.opened.undecided (undecided_of c.in_ok-opening.opening) c.in_ok-opened.opened.undecided
      (paths_view c.loop-state.opened.starts) (starts_of c.in_ok-opening.opening) (paths_view c.in_ok-opened.opened.starts) c.in_ok-opened.ensures.undecided c.in_ok-opened.ensures.starts
      (c.loop-state.invariant.bare all)
      (c.in_ok-opening.ensures.bare
      (over_next (IsBareState g.M.SymMemory.stands g.M.SymMemory.terms) state_view c.args.states c.loop-state.yielded
      (into_iter_items c.loop-state.state-iterator) (into_iter_items c.next.new.self) c.in-Some.state c.loop-state.invariant.rest c.in-Some.ensures.steps.0 all));
  narrow = λ n within all.
      narrow_further g.M.SymMemory.terms n c.loop-state.opened.undecided (undecided_of c.in_ok-opening.opening) c.in_ok-opened.opened.undecided
      (paths_view c.loop-state.opened.starts) (starts_of c.in_ok-opening.opening) (paths_view c.in_ok-opened.opened.starts) c.in_ok-opened.ensures.undecided c.in_ok-opened.ensures.starts
      (c.loop-state.invariant.narrow n within all)
      (c.in_ok-opening.ensures.narrow n within
      (over_next (IsNarrowStart g.M.SymMemory.terms n) state_view c.args.states c.loop-state.yielded
      (into_iter_items c.loop-state.state-iterator) (into_iter_items c.next.new.self) c.in-Some.state c.loop-state.invariant.rest c.in-Some.ensures.steps.0 all));
}

pub returns-clause-cover : goal.returns-clause-cover
returns-clause-cover g c =
    let left = into_iter_items c.loop-state.state-iterator in
    let none : left ≡ [] = none_there left (sym c.loop-state.invariant.counted ∙ c.in-None.ensures.steps.0) in
    let all : c.args.states ≡ c.loop-state.yielded = c.loop-state.invariant.rest ∙ ap (λ xs. c.loop-state.yielded ++ xs) none ∙ append-nil c.loop-state.yielded in
    subst (λ ss. Each (λ s. IsOpenedBy g.M.SymMemory.stands s (IsSome c.loop-state.opened.undecided) (paths_view c.loop-state.opened.starts)) (states_view ss)) (sym all) c.loop-state.invariant.cover
