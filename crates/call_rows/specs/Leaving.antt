-- How a called procedure ends by its specification, and what is answered of a path on which it has ended.
use Rattle.std.specs.Prelude.{◌≡◌, ◌⊎◌, ℕ, List, [], ◌∷◌, ◌++◌, false}
use Rattle.gil_values.specs.declared.places.Place.{Place}
use Rattle.gil_values.specs.Pure.{PureValue}
use Rattle.gil_machine.specs.State.{Frame, State, Step}
use Rattle.gil_machine.specs.Step.{leave, throw_to, handling}
use Rattle.gil_syntax.specs.Pure.{PureParts}
use Rattle.mem_model.specs.Heaps.{Heap}
use Rattle.pure_terms.specs.declared.deciders.Reason.{Reason}
use Rattle.pure_terms.specs.Meaning.{Satisfies, IsUnsatisfiable, IsOver}
use Rattle.pure_terms.specs.Pure.{PureTerm, PureAtom, term_of}
use Rattle.sym_paths.specs.Asking.{IsOutside}
use Rattle.sym_leaving.specs.Leaving.{IsLeft, IsThrown, PureThrown, caught, uncaught}
use Rattle.sym_model.specs.Meaning.{has_open}
use Rattle.sym_model.specs.Lists.{Each}
use Rattle.sym_model.specs.Terms.{StateTerms, all_of, AreEachOver}
use Rattle.sym_paths.specs.Pure.{PurePath}
use Rattle.sym_states.specs.Meaning.{IsOverTable}
use Rattle.sym_states.specs.Pure.{PureFact, PureState}
use Rattle.checked_paths.specs.Following.{IsAnswered}
use Rattle.checked_paths.specs.declared.nexts.FaultKind.{FaultKind}
use Rattle.checked_paths.specs.Meaning.{AreFactsOver, IsEntryOver}
use Rattle.checked_paths.specs.Pure.{PureEntry, PureChecking, PureNext, over}
use Rattle.checked_rows.specs.Doubts.{beyond, IsDoubtNext}
use Rattle.checked_rows.specs.Ending.{Finishes, FinishesExactly}
use Rattle.checked_rows.specs.States.{IsStateOf, with_state}
use Rattle.call_rows.specs.declared.leaving.Completion.{Completion}

-- what the machine does with the value: the call that waits gets it, or a handler
abbrev pub after : Completion → Place → List Frame → PureValue → State → Step
after Completion.Returns here callers = leave callers
after Completion.Throws here callers = λ v. throw_to (handling callers) v here

-- what the state, the entry, what was assumed and the result name is in the state's table
pub record MayComplete {S : Type 0} (terms : S → StateTerms) (e : PureEntry) (given : List PureAtom) (t : PureTerm) (r : PureState S)
    : Type 0 where
  pub over : IsOverTable terms r
  pub entry : IsEntryOver r.vars e
  pub assumed : Each (λ a. IsOver r.vars (term_of a)) given
  pub result : IsOver r.vars t

-- what a path that ends the entry, its facts, the entry and the result name is in its table
pub record EndsOver {S : Type 0} (terms : S → StateTerms) (e : PureEntry) (t : PureTerm) (facts : List PureFact) (path : PurePath S)
    : Type 0 where
  pub conds : Each (λ a. IsOver path.vars (term_of a)) path.conds
  pub given : Each (λ a. IsOver path.vars (term_of a)) path.given
  pub memory : AreEachOver path.vars (all_of (terms path.memory))
  pub facts_over : AreFactsOver path.vars facts
  pub entry : IsEntryOver path.vars e
  pub result : IsOver path.vars t

-- where the path ends with these facts, an error postcondition of the entry is matched with nothing left; or there is a doubt of it
abbrev pub EndsEntry : {S : Type 0} → PureParts → (S → List PureValue → Heap → Type 0) → (S → StateTerms) → PureEntry → Place → List PureFact
    → PureTerm → PurePath S → PureNext S → Type 0
EndsEntry {S} p stands terms e here facts t path k =
    (q : PureState S) × (IsStateOf stands terms path facts q × Finishes p stands e e.spec.errors t q k
    × FinishesExactly p stands e e.spec.errors t here path q k)

-- the state with a choice more
abbrev pub with_number : {S : Type 0} → PureState S → ℕ → PureState S
with_number r number = record r { path = r.path ++ number ∷ [] }

module _ {S : Type 0} (p : PureParts) (stands : S → List PureValue → Heap → Type 0) (terms : S → StateTerms) (e : PureEntry)
    (y : PureChecking S) (here : Place) where
  -- a handler catches what is thrown, or it ends the entry
  abbrev pub AnswersThrown : PureTerm → PureState S → PureThrown S → PureNext S → Type 0
  AnswersThrown t r (caught next) k = IsAnswered stands terms r.facts y.passed next k
  AnswersThrown t r (uncaught next) k = EndsEntry p stands terms e here r.facts t next k

  -- the path of the state goes on where the procedure has ended so
  abbrev pub GoesOnAfter : Completion → PureTerm → PureState S → PureNext S → Type 0
  GoesOnAfter Completion.Returns t r k =
      (next : PurePath S) × (IsLeft stands terms (with_state y.path r) t next × IsAnswered stands terms r.facts y.passed next k)
  GoesOnAfter Completion.Throws t r k =
      (thrown : PureThrown S) × (IsThrown stands terms (with_state y.path r) t thrown × AnswersThrown t r thrown k)

  -- Some valuation meets the conditions of the state, none of which needs a literal form, and its path goes on with the number of the
  -- postcondition as its choice; or no valuation meets them; or they aren't decided.
  abbrev pub IsCompleted : Completion → ℕ → PureTerm → PureState S → PureNext S → Type 0
  IsCompleted how number t r k =
      (((w : List PureValue) × Satisfies r.vars w r.conds) × (has_open r.conds ≡ false) × GoesOnAfter how t (with_number r number) k)
      ⊎ (((k ≡ over) × IsUnsatisfiable r.vars r.conds)
      ⊎ ((reason : Reason) × (IsOutside r.conds reason
      × IsDoubtNext FaultKind.CallPrecondition here (with_state y.path (with_number r number)) (beyond r.conds reason) k)))
