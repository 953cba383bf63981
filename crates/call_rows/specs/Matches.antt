-- What a call by specification comes to, from where the called procedure begins.
use Rattle.std.specs.Prelude.{◌≡◌, ◌⊎◌, ℕ, List, [], ◌++◌, length, None, ⊤}
use Rattle.gil_values.specs.declared.places.Place.{Place}
use Rattle.gil_values.specs.Pure.{PureValue}
use Rattle.gil_syntax.specs.declared.assertions.Param.{Param}
use Rattle.gil_syntax.specs.Evaluation.{Store}
use Rattle.gil_syntax.specs.Pure.{PureParts, PureSpec}
use Rattle.mem_model.specs.Actions.{Actions}
use Rattle.mem_model.specs.declared.keys.MemoryName.{MemoryName}
use Rattle.mem_model.specs.Heaps.{Heap}
use Rattle.assert_logic.specs.LogicStates.{LogicState}
use Rattle.assert_logic.specs.Matching.{stops, match_assertion}
use Rattle.checked_runs.specs.Checked.{Checked, Outcome, Entry, CalledIfFit}
use Rattle.checked_runs.specs.Specifications.{fit_params}
use Rattle.footprint.specs.Consuming.{Matches}
use Rattle.footprint.specs.Leaves.{AreAll}
use Rattle.footprint.specs.Pure.{PureMatch}
use Rattle.pure_terms.specs.Meaning.{IsOver}
use Rattle.pure_terms.specs.Pure.{PureAtom, term_of}
use Rattle.sym_evaluation.specs.Meaning.{IsStoreOver}
use Rattle.sym_model.specs.Lists.{Each, OneOf}
use Rattle.sym_model.specs.Terms.{StateTerms}
use Rattle.sym_paths.specs.Frames.{running_store}
use Rattle.sym_states.specs.Meaning.{Serves, IsOverTable}
use Rattle.sym_states.specs.Pure.{PureState}
use Rattle.checked_paths.specs.Covering.{CoversOutcome}
use Rattle.checked_paths.specs.Meaning.{StandsForChecked, IsEntryOver, MayGoOn}
use Rattle.checked_paths.specs.Pure.{PureEntry, PureChecking, PureNext, further, over, caused}
use Rattle.checked_paths.specs.declared.nexts.FaultKind.{FaultKind}
use Rattle.checked_rows.specs.Doubts.{PureDoubt, IsDoubtAlone, DoubtsAlone}
use Rattle.checked_rows.specs.States.{IsStateOf}
use Rattle.call_rows.specs.declared.leaving.Completion.{Completion}
use Rattle.call_rows.specs.Arguments.{HasArguments, FitParams, IsUnfitDoubt}
use Rattle.call_rows.specs.Gathering.{GathersNexts}
use Rattle.call_rows.specs.Posts.{PureReady, IsReady, IsReadyIfAny, AnswersPosts}

abbrev pub scope_of : PureSpec → List Param
scope_of used = used.params ++ used.logicals

-- a path that goes on may make its next step, and has done no further one
abbrev pub StaysAt : {S : Type 0} → PureParts → (S → StateTerms) → PureEntry → PureChecking S → PureNext S → Type 0
StaysAt p terms e y (further z) = MayGoOn p terms e z × (z.path.steps ≡ y.path.steps)
StaysAt p terms e y over = ⊤
StaysAt p terms e y (caused cause) = ⊤

-- what a match, the entry and what was assumed name is in the table of the match's state
pub record MatchOver {S : Type 0} (terms : S → StateTerms) (e : PureEntry) (given : List PureAtom) (m : PureMatch S) : Type 0 where
  pub state : IsOverTable terms m.state
  pub store : IsStoreOver m.state.vars m.store
  pub entry : IsEntryOver m.state.vars e
  pub assumed : Each (λ a. IsOver m.state.vars (term_of a)) given

module _ {S : Type 0} (p : PureParts) (memory : MemoryName) (m : Actions) (stands : S → List PureValue → Heap → Type 0) (terms : S → StateTerms)
    (e : PureEntry) (used : PureSpec) (y : PureChecking S) where
  -- Whatever the checked states lead to by the specification for which the path stands, and in which the procedure has these arguments,
  -- some answer covers.
  pub record AreCalled (ks : List (PureNext S)) : Type 0 where
    pub cover : (v : List PureValue) (entry : Entry) (c : Checked) (args : List PureValue) (here : Place) (out : Outcome)
        → StandsForChecked stands e y v entry c → HasArguments used args c
        → CalledIfFit p memory m entry (fit_params used.params args) used args here c out → OneOf (CoversOutcome stands e entry v out) ks
    pub follow : Each (StaysAt p terms e y) ks

module _ {S : Type 0} (p : PureParts) (memory : MemoryName) (stands : S → List PureValue → Heap → Type 0) (terms : S → StateTerms)
    (kept : S → Type 0) (e : PureEntry) (used : PureSpec) (y : PureChecking S) (here : Place) where
  -- each postcondition is added, and then each error postcondition, where the result can have its name
  abbrev pub AnswersReady : PureReady S → List (PureNext S) → Type 0
  AnswersReady ready ks =
      (returned : List (PureNext S)) × ((thrown : List (PureNext S))
      × (AnswersPosts p memory stands terms kept e y here (scope_of used) ready Completion.Returns 0 used.posts returned
      × AnswersPosts p memory stands terms kept e y here (scope_of used) ready Completion.Throws (length used.posts) used.errors thrown
      × (ks ≡ returned ++ thrown)))

  abbrev pub AnswersMatch : PureMatch S → List (PureNext S) → Type 0
  AnswersMatch m ks =
      (IsReadyIfAny (scope_of used) m None × (ks ≡ []))
      ⊎ ((ready : PureReady S) × (IsReady (scope_of used) m ready × AnswersReady ready ks))

  -- the state where the procedure begins, the terms of its variables, and matches of the precondition with answers
  pub record AnswersMatches (ks : List (PureNext S)) : Type 0 where
    pub state : PureState S
    pub is_state : IsStateOf stands terms y.path y.facts state
    pub matches : List (PureMatch S)
    pub all : AreAll stands terms kept state (Serves stands terms state (running_store y.path.stack))
        (Matches p.preds (scope_of used) used.pre) matches
    pub nexts : GathersNexts AnswersMatch matches ks

  -- under the valuation the precondition isn't matched, whatever the state stands for
  abbrev pub MatchFails : PureState S → List PureValue → Type 0
  MatchFails s v =
      (t : Store) (l : LogicState) → Serves stands terms s (running_store y.path.stack) v t l
      → (n : ℕ) × (match_assertion p.preds (scope_of used) used.pre t l ≡ stops n)

  -- a doubt of the match alone
  abbrev pub DoubtsMatch : List (PureNext S) → Type 0
  DoubtsMatch ks =
      (s : PureState S) × (IsStateOf stands terms y.path y.facts s × DoubtsAlone FaultKind.CallPrecondition here y s (MatchFails s) ks)

  abbrev pub AnswersFitting : List (PureNext S) → Type 0
  AnswersFitting ks = DoubtsMatch ks ⊎ AnswersMatches ks

  -- a doubt of the sorts of an argument alone
  abbrev pub DoubtsArguments : List (PureNext S) → Type 0
  DoubtsArguments ks =
      (doubt : PureDoubt) × (IsUnfitDoubt y.path.vars y.path.conds (running_store y.path.stack) used.params doubt
      × IsDoubtAlone FaultKind.CallPrecondition here y.path doubt ks)

  -- that, or the same of the match where the values of the terms have the sorts of the parameters
  abbrev pub AnswersCall : List (PureNext S) → Type 0
  AnswersCall ks =
      DoubtsArguments ks
      ⊎ (FitParams y.path.vars y.path.conds (running_store y.path.stack) used.params used.params × AnswersFitting ks)
