-- A path with the state that a row leaves, at the next command.
use Rattle.std.proofs.Common.{◌≡◌, ℕ, ◌+◌, ◌≤◌, List, [], ◌++◌, false, Some, refl, sym, subst}
use Rattle.gil_values.specs.Pure.{PureValue}
use Rattle.gil_values.specs.Symbols.{AreBelow}
use Rattle.gil_values.proofs.OperatorSymbols.{none_contained}
use Rattle.gil_syntax.specs.Pure.{PureParts, PureNumberedCommand}
use Rattle.gil_syntax.specs.Valid.{ends_body, IsValid}
use Rattle.gil_machine.specs.State.{State}
use Rattle.gil_machine.specs.Step.{to_next}
use Rattle.mem_model.specs.declared.keys.MemoryName.{MemoryName}
use Rattle.mem_model.specs.Actions.{Actions}
use Rattle.mem_model.specs.Heaps.{Heap}
use Rattle.assert_logic.specs.LogicStates.{Fact, LogicState}
use Rattle.checked_runs.specs.Checked.{Checked, Outcome, Entry, moved, with_logic, stepped}
use Rattle.pure_terms.specs.declared.variables.Sort.{Sort}
use Rattle.pure_terms.specs.Meaning.{IsProper, IsOver}
use Rattle.pure_terms.specs.Pure.{term_of}
use Rattle.sym_model.specs.Laws.{IsMeaning}
use Rattle.sym_model.specs.Lists.{Each}
use Rattle.sym_model.specs.Terms.{StateTerms, AreEachOver}
use Rattle.sym_paths.specs.Meaning.{AreFrames, frames_of, Stands, OfEachName, IsOverTable, end_terms, command_of_path}
use Rattle.sym_paths.specs.Moves.{passing}
use Rattle.sym_paths.specs.Pure.{PurePath}
use Rattle.sym_paths.proofs.Growing.{path_over, path_stands}
use Rattle.sym_states.specs.Meaning as states
use Rattle.sym_states.specs.Pure.{PureFact, PureState}
use Rattle.checked_paths.proofs.Growing.{passed_by_over_more}
use Rattle.checked_paths.specs.Covering.{CoversOutcome, FollowsOn}
use Rattle.checked_paths.specs.Following.{GoesOnWith, IsAnswerTo}
use Rattle.checked_paths.specs.Meaning.{StandsForChecked, AreFactsOver, IsPassedOver, MayGoOn}
use Rattle.checked_paths.specs.Pure.{PureEntry, PureChecking, PureNext, further}
use Rattle.checked_rows.specs.Folding.{GoesOnIn}
use Rattle.checked_rows.specs.States.{with_state}
use Rattle.checked_rows.proofs.RowLaws.{passed_longer, goes_stands, goes_covers, goes_on_next, passed_there}
use Rattle.checked_rows.proofs.StateLaws.{passing_stands, passing_over}

pub none_below : (n : ℕ) → AreBelow n []
none_below n k occurs = absurd (none_contained k occurs)

module _ (p : PureParts) (memory : MemoryName) (m : Actions) {S : Type 0} (stands : S → List PureValue → Heap → Type 0) (terms : S → StateTerms) (meaning : IsMeaning memory stands terms) (e : PureEntry) (x : PureChecking S) (may : MayGoOn p terms e x)
    (s : PureState S) (facts : List PureFact) (k : PureNext S) (goes : GoesOnIn stands terms x s facts k) (sorts : List Sort) (vars : s.vars ≡ x.path.vars ++ sorts) where
  abbrev next : PurePath S
  next = passing (with_state x.path s)

  pub answer : (y : PureChecking S) × ((k ≡ further y) × GoesOnWith stands terms facts x.passed next y)
  answer = subst (λ o. IsAnswerTo stands terms facts x.passed next o k) may.no_end goes

  module _ (v w more : List PureValue) (entry : Entry) (c : Checked) (l : LogicState) (fs : List Fact) (counter : ℕ) (longer : w ≡ v ++ more) (stand : StandsForChecked stands e x v entry c) (is : states.Stands stands s w l)
      (higher : c.machine.counter ≤ counter) (below : AreBelow counter more) where
    abbrev later : Checked
    later = with_logic (record { heap = l.heap; facts = fs }) counter c

    abbrev advanced : State
    advanced = record later.machine { current = record later.machine.current { next = later.machine.current.next + 1 } }

    path_there : Stands stands (with_state x.path s) w later.machine
    path_there =
        let proper : IsProper (x.path.vars ++ sorts) (v ++ more) = subst (IsProper (x.path.vars ++ sorts)) longer (subst (λ vs. IsProper vs w) vars is.proper) in
        let grown = path_stands memory stands terms meaning x.path v c.machine sorts more counter may.over.path stand.path proper higher below in
        record {
          proper = is.proper;
          meets = is.meets;
          frames = subst (λ u. AreFrames u x.path.stack (frames_of later.machine)) (sym longer) grown.frames;
          memory = is.memory;
          symbols_below = subst (AreBelow counter) (sym longer) grown.symbols_below;
          draws = stand.path.draws;
        }

    -- so the path that goes on stands for that state, at the next command
    pub state_there : states.AreFacts w facts fs → StandsForChecked stands e answer.0 w entry (moved later advanced)
    state_there are =
        goes_stands memory stands terms meaning e x may.over next facts x.passed answer.0 answer.1.1 v w more entry c later advanced longer stand
        (passing_stands stands terms (with_state x.path s) w later.machine path_there) are (passed_longer memory stands terms meaning e x may.over v w more entry c longer stand)

  -- The state stands for a logic state under a longer valuation, and the counter is above its new values: so the path stands for the
  -- checked state with this logic state and counter, at the next command.
  pub state_covers : (v w more : List PureValue) (entry : Entry) (c : Checked) (l : LogicState) (fs : List Fact) (counter : ℕ) (out : Outcome) → w ≡ v ++ more → StandsForChecked stands e x v entry c → states.Stands stands s w l → states.AreFacts w facts fs
      → c.machine.counter ≤ counter → AreBelow counter more
      → out ≡ stepped p memory m entry (with_logic (record { heap = l.heap; facts = fs }) counter c) (to_next (with_logic (record { heap = l.heap; facts = fs }) counter c).machine) → CoversOutcome stands e entry v out k
  state_covers v w more entry c l fs counter out longer stand is are higher below leads =
      let (y, (same, with_it)) = answer in
      let d : Checked = with_logic (record { heap = l.heap; facts = fs }) counter c in
      let there = path_there v w more entry c l fs counter longer stand is higher below in
      subst (CoversOutcome stands e entry v out) (sym same)
      (goes_covers memory stands terms meaning e x may.over next facts x.passed y with_it v w more entry c d (record d.machine { current = record d.machine.current { next = d.machine.current.next + 1 } }) out longer stand
      (passing_stands stands terms (with_state x.path s) w d.machine there) are (passed_longer memory stands terms meaning e x may.over v w more entry c longer stand) leads)

  pub state_follows : (n : PureNumberedCommand) → IsValid p → command_of_path p x.path ≡ Some n → ends_body n.command ≡ false → states.IsOverTable terms s → AreFactsOver s.vars facts → FollowsOn p terms e x k
  state_follows n valid at stays over facts_over =
      let (y, (same, with_it)) = answer in
      let grown = path_over terms x.path sorts may.over.path in
      let there : IsOverTable terms (with_state x.path s) = record {
        conds = over.conds;
        given = subst (λ vs. Each (λ a. IsOver vs (term_of a)) x.path.given) (sym vars) grown.given;
        stores = subst (λ vs. Each (λ f. OfEachName (IsOver vs) f.store) x.path.stack) (sym vars) grown.stores;
        memory = over.memory;
        drawn = subst (λ vs. AreEachOver vs x.path.drawn) (sym vars) grown.drawn;
        ending = subst (λ vs. AreEachOver vs (end_terms x.path.ending)) (sym vars) grown.ending;
      } in
      subst (FollowsOn p terms e x) (sym same)
      (goes_on_next memory stands terms meaning e x may.over next facts x.passed y with_it p sorts may.no_end (passed_there p x.path n valid at stays may.placed) (passing_over stands terms (with_state x.path s) there) facts_over
      (subst (λ vs. Each (Each (IsPassedOver terms vs)) x.passed) (sym vars) (passed_by_over_more x.path.vars sorts terms x.passed may.over.passed)) vars refl)
