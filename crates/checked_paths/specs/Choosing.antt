-- The choice that a step of a checked run makes: the side that a guard takes, what an action comes to, the number of the case that is
-- unfolded, or that of the postcondition with which a call by specification comes back, the ok ones counted first.
use Rattle.std.proofs.Common.{inl, inr}
use Rattle.std.specs.Prelude.{◌≡◌, ℕ, ◌+◌, List, [], ◌++◌, map, length, Bool, true, false, Option, Some, None, Ok}
use Rattle.gil_values.specs.declared.places.Place.{Place}
use Rattle.gil_values.specs.Pure.{PureValue}
use Rattle.gil_syntax.specs.Evaluation.{Outcomes, evaluate_all}
use Rattle.gil_syntax.specs.Programs.{find_spec, find_pred}
use Rattle.gil_syntax.specs.Pure.{PureCommand, call, unfold_use, PureNumberedCommand, PureSpec, PurePredDef, PureParts}
use Rattle.gil_machine.specs.Choices.{choice_at}
use Rattle.gil_machine.specs.State.{State, Step, goes_on, ends}
use Rattle.gil_machine.specs.Step.{command_at, do_command}
use Rattle.mem_model.specs.declared.cores.Core.{Core}
use Rattle.mem_model.specs.declared.keys.MemoryName.{MemoryName}
use Rattle.mem_model.specs.Actions.{Actions}
use Rattle.mem_model.specs.CoreNames.{core_of}
use Rattle.assert_logic.specs.Matching.{Matching, matched, stops, FoundFact, match_assertion, first_fact, fits_fact}
use Rattle.checked_runs.specs.Checked.{Checked, Outcome, Entry, logic_state, moved, names_at, Called, CalledIfFit, Entered, Calls, UnfoldsFound, UnfoldsBy, LeadsBy, LeadsAt}
use Rattle.checked_runs.specs.Specifications.{entry_store, fit_params}

module _ (p : PureParts) (memory : MemoryName) (m : Actions) (entry : Entry) where
  -- ---- of a call by specification

  abbrev pub choice_of_called : (spec : PureSpec) (args : List PureValue) (here : Place) (r : Matching) (c : Checked) (out : Outcome)
      → Called p memory m entry spec args here r c out → Option ℕ
  choice_of_called spec args here (stops n) c out leads = None
  choice_of_called spec args here (matched found) c out (inl comes) = Some comes.number
  choice_of_called spec args here (matched found) c out (inr comes) = Some (length spec.posts + comes.number)

  abbrev pub choice_if_fit : (fits : Bool) (spec : PureSpec) (args : List PureValue) (here : Place) (c : Checked) (out : Outcome)
      → CalledIfFit p memory m entry fits spec args here c out → Option ℕ
  choice_if_fit false spec args here c out leads = None
  choice_if_fit true spec args here c out leads =
      choice_of_called spec args here
      (match_assertion p.preds (spec.params ++ spec.logicals) spec.pre (entry_store spec args []) (logic_state c)) c out leads

  abbrev pub choice_of_entered : (spec : Option PureSpec) (args : Outcomes) (here : Place) (c : Checked) (s : State) (out : Outcome)
      → Entered p memory m entry spec args here c s out → Option ℕ
  choice_of_entered (Some spec) (Ok args) here c s out leads = choice_if_fit (fit_params spec.params args) spec args here (moved c s) out leads
  choice_of_entered _ args here c s out leads = None

  abbrev pub choice_of_call : (args : Outcomes) (here : Place) (c : Checked) (r : Step) (out : Outcome)
      → Calls p memory m entry args here c r out → Option ℕ
  choice_of_call args here c (goes_on s) out leads = choice_of_entered (find_spec p.specs s.current.procedure) args here c s out leads
  choice_of_call args here c (ends e) out leads = None

  -- ---- of unfolding

  abbrev pub choice_of_case : (found : Option FoundFact) (d : Option PurePredDef) (c : Checked) (out : Outcome)
      → UnfoldsFound p memory m entry found d c out → Option ℕ
  choice_of_case (Some found) (Some d) c out unfolds = Some unfolds.number
  choice_of_case _ _ c out leads = None

  abbrev pub choice_of_unfolding : (core : Option Core) (x : List ℕ) (ins outs : Outcomes) (c : Checked) (out : Outcome)
      → UnfoldsBy p memory m entry core x ins outs c out → Option ℕ
  choice_of_unfolding None x (Ok ins) (Ok outs) c out leads =
      choice_of_case (first_fact (fits_fact x ins (map Some outs)) c.facts) (find_pred p.preds x) c out leads
  choice_of_unfolding _ x ins outs c out leads = None

  -- ---- of each command

  abbrev pub choice_by : (k : PureCommand) (here : Place) (c : Checked) (out : Outcome) → LeadsBy p memory m entry k here c out → Option ℕ
  choice_by (call x e es handler) here c out leads =
      choice_of_call (evaluate_all es c.machine.current.store) here c (do_command p m [] (call x e es handler) here c.machine) out leads
  choice_by (unfold_use u) here c out leads =
      choice_of_unfolding (core_of u.pred) u.pred (evaluate_all u.ins (names_at entry c)) (evaluate_all u.outs (names_at entry c)) c out leads
  choice_by _ here c out leads = choice_at p m c.machine

  -- A state makes this choice, and its step leads to the outcome.
  abbrev pub LeadsAlongBy : PureCommand → Place → Checked → Option ℕ → Outcome → Type 0
  LeadsAlongBy k here c chosen out = (leads : LeadsBy p memory m entry k here c out) × (choice_by k here c out leads ≡ chosen)

  abbrev pub LeadsAlongAt : Option PureNumberedCommand → Checked → Option ℕ → Outcome → Type 0
  LeadsAlongAt (Some n) c chosen out = LeadsAlongBy n.command (record { proc = c.machine.current.procedure; at = n.at }) c chosen out
  LeadsAlongAt None c chosen out = LeadsAt p memory m entry None c out × (chosen ≡ None)

  abbrev pub LeadsAlong : Checked → Option ℕ → Outcome → Type 0
  LeadsAlong c chosen out = LeadsAlongAt (command_at p c.machine.current) c chosen out
