-- Paths beside facts as states, and back.
use Rattle.std.proofs.Common.{◌≡◌, ◌+◌, List, ◌++◌, sym, ap, subst}
use Rattle.gil_values.specs.Pure.{PureValue}
use Rattle.gil_machine.specs.State.{State}
use Rattle.mem_model.specs.Heaps.{Heap}
use Rattle.assert_logic.specs.LogicStates.{Fact}
use Rattle.pure_terms.specs.Meaning.{IsOver}
use Rattle.sym_model.specs.Lists.{Each}
use Rattle.sym_model.specs.Terms.{StateTerms, all_of, AreEachOver}
use Rattle.sym_paths.specs.Frames.{running_store}
use Rattle.sym_paths.specs.Meaning.{Stands, IsOverTable}
use Rattle.sym_paths.specs.Moves.{passing}
use Rattle.sym_paths.specs.Pure.{PurePath}
use Rattle.sym_paths.proofs.Moving.{advanced_frames, running_stands, running_each, advanced_each}
use Rattle.sym_states.specs.Meaning as states
use Rattle.sym_states.specs.Pure.{PureFact, PureState}
use Rattle.checked_rows.specs.States.{IsStateOf}

module _ {S : Type 0} (stands : S → List PureValue → Heap → Type 0) (terms : S → StateTerms) (path : PurePath S) (facts : List PureFact) (s : PureState S) (is : IsStateOf stands terms path facts s) where
  pub state_stands : (v : List PureValue) (m : State) (fs : List Fact) → Stands stands path v m → states.AreFacts v facts fs → states.Stands stands s v (record { heap = m.heap; facts = fs })
  state_stands v m fs stand are = subst (λ q. states.Stands stands q v (record { heap = m.heap; facts = fs })) (sym is.is) (record {
    proper = stand.proper;
    meets = stand.meets;
    memory = is.stands_for v m.heap stand.memory;
    facts = are;
  })

  pub state_over : IsOverTable terms path → Each (λ c. AreEachOver path.vars (c.ins ++ c.outs)) facts → states.IsOverTable terms s
  state_over over are = subst (states.IsOverTable terms) (sym is.is) (record {
    conds = over.conds;
    given = over.given;
    memory = subst (λ ts. AreEachOver path.vars (all_of ts)) (sym is.same_terms) over.memory;
    facts = are;
  })

  pub state_conds : s.conds ≡ path.conds
  state_conds = ap (λ (q : PureState S). q.conds) is.is

  pub state_vars : s.vars ≡ path.vars
  state_vars = ap (λ (q : PureState S). q.vars) is.is

-- ---- a path that passes a command

module _ {S : Type 0} (stands : S → List PureValue → Heap → Type 0) (terms : S → StateTerms) (path : PurePath S) where
  pub passing_stands : (v : List PureValue) (m : State) → Stands stands path v m → Stands stands (passing path) v (record m { current = record m.current { next = m.current.next + 1 } })
  passing_stands v m stand = record {
    proper = stand.proper;
    meets = stand.meets;
    frames = advanced_frames v path.stack m.current m.callers (running_store path.stack) m.current.store stand.frames (running_stands v path.stack m.current m.callers stand.frames);
    memory = stand.memory;
    symbols_below = stand.symbols_below;
    draws = stand.draws;
  }

  pub passing_over : IsOverTable terms path → IsOverTable terms (passing path)
  passing_over over = record {
    conds = over.conds;
    given = over.given;
    stores = advanced_each (IsOver path.vars) path.stack (running_store path.stack) over.stores (running_each (IsOver path.vars) path.stack over.stores);
    memory = over.memory;
    drawn = over.drawn;
    ending = over.ending;
  }
