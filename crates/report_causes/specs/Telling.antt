-- Which reported cause tells a cause that a check met: its place and its choices, and the values of its terms under the valuation that is
-- shown; or its conditions, where they aren't decided or a value can't be reported.
use Rattle.std.specs.Prelude.{◌≡◌, ◌⊎◌, ℕ, List, [], ◌∷◌, ◌++◌, Option, Some, ⊤}
use Rattle.std.specs.Option.{option_and_then}
use Rattle.gil_values.specs.Pure.{PureValue}
use Rattle.gil_syntax.specs.Pure.{PureSpec}
use Rattle.gil_syntax.specs.Valid.{param_names}
use Rattle.pure_terms.specs.Meaning.{value}
use Rattle.pure_terms.specs.Pure.{PureTerm}
use Rattle.sym_evaluation.specs.Pure.{PureStore, term_at}
use Rattle.checked_paths.specs.Causes.{PureShown, PureCause, failure, fault, bound, undecided}
use Rattle.checked_paths.specs.declared.nexts.FaultKind.{FaultKind}
use Rattle.checked_paths.specs.Pure.{PureEntry}
use Rattle.gil_report.specs.declared.answers.Lack.{Lack}
use Rattle.gil_report.specs.Pure.{PureBinding, PureQuestion, PureWitness}
use Rattle.gil_report.specs.Pure as report
use Rattle.report_causes.specs.Causes.{binding_of, bindings_by, question_shown, wide_question, entry_terms, AreTooWide}
use Rattle.report_causes.specs.Names.{own_variables, place_of}

-- ---- values

-- the value of a name's term
abbrev pub value_at : List PureValue → PureStore → List ℕ → Option PureValue
value_at v bs x = option_and_then (value v) (term_at bs x)

-- each name with the value of the term at its place, as far as there are both
abbrev pub told_arguments : List PureValue → List (List ℕ) → List PureTerm → List PureBinding
told_arguments v xs [] = []
told_arguments v [] (t ∷ ts) = []
told_arguments v (x ∷ xs) (t ∷ ts) = binding_of x (value v t) ++ told_arguments v xs ts

-- the values of the entry's terms, by the names of the parameters and of the declared variables that the precondition names
abbrev pub told_values : List PureValue → PureSpec → PureEntry → List PureBinding
told_values v s e = told_arguments v (param_names s.params) e.args ++ bindings_by (value_at v e.variables) (own_variables s)

-- ---- what is told

-- the same place and choices, and the values of the entry under this valuation
pub record TellsPath (s : PureSpec) (e : PureEntry) (shown : PureShown) (v : List PureValue) (told : PureWitness) : Type 0 where
  pub place : told.place ≡ shown.place
  pub path : told.path ≡ shown.choices
  pub values : told.with ≡ told_values v s e

-- the same under the valuation that is shown
pub record TellsShown (s : PureSpec) (e : PureEntry) (shown : PureShown) (told : PureWitness) : Type 0 where
  pub valuation : List PureValue
  pub is_shown : shown.valuation ≡ Some valuation
  pub tells : TellsPath s e shown valuation told

-- it is asked whether these terms have a form, since under the valuation that is shown some of them are too wide
pub record AsksOfWide (ts : List PureTerm) (shown : PureShown) (q : PureQuestion) : Type 0 where
  pub valuation : List PureValue
  pub is_shown : shown.valuation ≡ Some valuation
  pub wide : AreTooWide valuation ts
  pub asked : q ≡ wide_question shown ts

-- the reported cause asks that
abbrev pub IsAskedOfWide : List PureTerm → PureShown → report.PureCause → Type 0
IsAskedOfWide ts shown (report.undecided_cause q) = AsksOfWide ts shown q
IsAskedOfWide ts shown (report.fails r told) = ⊥
IsAskedOfWide ts shown (report.lacks lack told) = ⊥
IsAskedOfWide ts shown (report.depends name) = ⊥

-- what a path lacks that has such a fault
abbrev pub lack_of : FaultKind → Lack
lack_of FaultKind.Missing = Lack.Missing
lack_of FaultKind.Post = Lack.Post
lack_of FaultKind.Invariant = Lack.Invariant
lack_of FaultKind.CallPrecondition = Lack.CallPre
lack_of FaultKind.FoldBody = Lack.FoldBody

abbrev pub TellsFailure : PureTerm → PureSpec → PureEntry → PureShown → report.PureCause → Type 0
TellsFailure t s e shown (report.fails r told) = (tells : TellsShown s e shown told) × (value tells.valuation t ≡ Some r)
TellsFailure t s e shown (report.undecided_cause q) = AsksOfWide (t ∷ []) shown q ⊎ AsksOfWide (entry_terms s e) shown q
TellsFailure t s e shown (report.lacks lack told) = ⊥
TellsFailure t s e shown (report.depends name) = ⊥

abbrev pub TellsLack : Lack → PureSpec → PureEntry → PureShown → report.PureCause → Type 0
TellsLack lack s e shown (report.lacks other told) = (other ≡ lack) × TellsShown s e shown told
TellsLack lack s e shown (report.undecided_cause q) = AsksOfWide (entry_terms s e) shown q
TellsLack lack s e shown (report.fails r told) = ⊥
TellsLack lack s e shown (report.depends name) = ⊥

abbrev pub TellsOpen : ℕ → PureShown → report.PureCause → Type 0
TellsOpen place shown (report.undecided_cause q) = q ≡ question_shown shown place
TellsOpen place shown (report.fails r told) = ⊥
TellsOpen place shown (report.lacks lack told) = ⊥
TellsOpen place shown (report.depends name) = ⊥

-- the reported cause tells the one that was met, with the terms of the specification's entry
abbrev pub TellsCause : PureSpec → PureEntry → PureCause → report.PureCause → Type 0
TellsCause s e (failure t shown) told = TellsFailure t s e shown told
TellsCause s e (fault kind shown) told = TellsLack (lack_of kind) s e shown told
TellsCause s e (bound shown) told = TellsLack Lack.Cut s e shown told
TellsCause s e (undecided reason shown) told = TellsOpen (place_of reason) shown told

-- ---- what can be told

-- a valuation is shown, and the term has a value under it
pub record HasShownValue (t : PureTerm) (shown : PureShown) : Type 0 where
  pub valuation : List PureValue
  pub is_shown : shown.valuation ≡ Some valuation
  pub result : PureValue
  pub has : value valuation t ≡ Some result

abbrev pub IsShownUnder : PureShown → Type 0
IsShownUnder shown = (v : List PureValue) × (shown.valuation ≡ Some v)

-- where something is decided, the valuation that it takes is shown
abbrev pub CanBeTold : PureCause → Type 0
CanBeTold (failure t shown) = HasShownValue t shown
CanBeTold (fault kind shown) = IsShownUnder shown
CanBeTold (bound shown) = IsShownUnder shown
CanBeTold (undecided reason shown) = ⊤
