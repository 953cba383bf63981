-- What is answered of the next paths at a call.
use Rattle.std.specs.Prelude.{◌≡◌, ℕ, ℤ, List, [], ◌∷◌, Option, Some, None, IsTrue, ⊤}
use Rattle.gil_values.specs.declared.places.Place.{Place}
use Rattle.gil_values.specs.Pure.{PureValue, procedure}
use Rattle.gil_syntax.specs.Programs.{find_spec}
use Rattle.gil_syntax.specs.Pure.{PureParts, PureExpr, literal, PureCommand, call, PureNumberedCommand, PureSpec}
use Rattle.gil_syntax.specs.Valid.{is_among}
use Rattle.mem_model.specs.declared.keys.MemoryName.{MemoryName}
use Rattle.mem_model.specs.Heaps.{Heap}
use Rattle.sym_leaving.specs.Leaving.{HasCaller}
use Rattle.sym_model.specs.Lists.{Each}
use Rattle.sym_model.specs.Terms.{StateTerms}
use Rattle.sym_paths.specs.Meaning.{IsOverTable, command_of_path}
use Rattle.sym_paths.specs.Pure.{PureFrame, PureEnd, PurePath}
use Rattle.sym_states.specs.Pure.{PureFact}
use Rattle.checked_paths.specs.Causes.{ShowsEnd}
use Rattle.checked_paths.specs.Following.{IsAnswered}
use Rattle.checked_paths.specs.Meaning.{AreFactsOver, IsEntryOver, IsPassedOver}
use Rattle.checked_paths.specs.Pure.{PureEntry, PurePassed, PureChecking, PureNext, further, over, caused}
use Rattle.call_rows.specs.Gathering.{GathersNexts}
use Rattle.call_rows.specs.Matches.{AnswersCall}

-- the specification of the procedure that runs
abbrev pub spec_there : PureParts → List PureFrame → Option PureSpec
spec_there p [] = None
spec_there p (f ∷ fs) = find_spec p.specs f.procedure

-- the one by which a next path is called: its procedure isn't gone into
abbrev pub called_by : PureParts → Option PureEnd → List PureFrame → Option PureSpec
called_by p None fs = spec_there p fs
called_by p (Some how) fs = None

abbrev pub name_of : Option PureSpec → List (List ℕ)
name_of None = []
name_of (Some used) = used.name ∷ []

-- the specification is one of the program
abbrev pub IsSpecOf : PureParts → PureSpec → Type 0
IsSpecOf p used = find_spec p.specs used.name ≡ Some used

-- the path stands at a call whose expression is a literal, which names no procedure with a specification
pub record CallsUnspecified {S : Type 0} (p : PureParts) (path : PurePath S) : Type 0 where
  pub numbered : PureNumberedCommand
  pub there : command_of_path p path ≡ Some numbered
  pub variable : List ℕ
  pub value : PureValue
  pub args : List PureExpr
  pub handler : Option ℤ
  pub command : numbered.command ≡ call variable (literal value) args handler
  pub unspecified : (callee : List ℕ) → value ≡ procedure callee → find_spec p.specs callee ≡ None

abbrev pub IsCall : PureCommand → Type 0
IsCall (call x e es handler) = ⊤
IsCall command = ⊥

abbrev pub IsAtCall : {S : Type 0} → PureParts → PurePath S → Type 0
IsAtCall p path = (n : PureNumberedCommand) × ((command_of_path p path ≡ Some n) × IsCall n.command)

-- the specification by which a next path is called has one of these names
abbrev pub IsNamedNext : {S : Type 0} → PureParts → List (List ℕ) → PurePath S → Type 0
IsNamedNext p names next =
    (used : PureSpec) → called_by p next.ending next.stack ≡ Some used → IsTrue (is_among names used.name)

abbrev pub AreNamed : {S : Type 0} → PureParts → List (List ℕ) → List (PurePath S) → Type 0
AreNamed p names nexts = Each (IsNamedNext p names) nexts

-- the next path isn't called by a specification
abbrev pub IsUnspecified : {S : Type 0} → PureParts → PurePath S → Type 0
IsUnspecified p next = called_by p next.ending next.stack ≡ None

-- what a next path, facts and passed invariants name is in its table, and where it goes on a call waits
pub record IsNextOver {S : Type 0} (terms : S → StateTerms) (e : PureEntry) (facts : List PureFact) (passed : List (List (PurePassed S)))
    (next : PurePath S) : Type 0 where
  pub entry : IsEntryOver next.vars e
  pub path : IsOverTable terms next
  pub facts_over : AreFactsOver next.vars facts
  pub passed_over : Each (Each (IsPassedOver terms next.vars)) passed
  pub waits : next.ending ≡ None → HasCaller next.stack

module _ {S : Type 0} (p : PureParts) (memory : MemoryName) (stands : S → List PureValue → Heap → Type 0) (terms : S → StateTerms)
    (kept : S → Type 0) (e : PureEntry) (here : Place) where
  -- a path that goes on is the one answer, unless it is called by a specification
  abbrev pub AnswersFurther : Option PureSpec → PureChecking S → List (PureNext S) → Type 0
  AnswersFurther None y ks = ks ≡ further y ∷ []
  AnswersFurther (Some used) y ks = AnswersCall p memory stands terms kept e used y here ks

  abbrev pub AnswersNext : Option PureSpec → PureNext S → List (PureNext S) → Type 0
  AnswersNext o (further y) ks = AnswersFurther o y ks
  AnswersNext o over ks = ks ≡ over ∷ []
  AnswersNext o (caused cause) ks = ks ≡ caused cause ∷ []

  module _ (facts : List PureFact) (passed : List (List (PurePassed S))) where
    abbrev pub IsCalled : PurePath S → List (PureNext S) → Type 0
    IsCalled next ks =
        (k : PureNext S) × (IsAnswered stands terms facts passed next k × ShowsEnd here next k
        × AnswersNext (called_by p next.ending next.stack) k ks)

    abbrev pub EachIsCalled : List (PurePath S) → List (PureNext S) → Type 0
    EachIsCalled nexts ks = GathersNexts IsCalled nexts ks
