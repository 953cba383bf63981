-- The laws of matching on terms: wherever terms have values, what is answered says what matching on these values gives.
use Rattle.std.specs.Prelude.{◌≡◌, ℕ, List, Bool, Option, Some}
use Rattle.std.specs.Result.{result_ok}
use Rattle.gil_values.specs.Equality.{same_elements}
use Rattle.gil_values.specs.Pure.{PureValue}
use Rattle.gil_syntax.specs.declared.assertions.Param.{Param}
use Rattle.gil_syntax.specs.Evaluation.{Store}
use Rattle.gil_syntax.specs.Pure.{PureExpr, PurePredDef}
use Rattle.assert_logic.specs.Matching.{match_values, match_pure, known_outs, all_agree, case_store, values_of}
use Rattle.assert_logic.specs.Sorts.{fits_sorts}
use Rattle.pure_terms.specs.declared.variables.Sort.{Sort}
use Rattle.pure_terms.specs.Meaning.{value, IsProper, IsOver}
use Rattle.pure_terms.specs.Pure.{PureTerm}
use Rattle.sym_evaluation.specs.Meaning.{StandsFor, Serves, HaveValues, IsStoreOver}
use Rattle.sym_evaluation.specs.Pure.{PureStore}
use Rattle.sym_evaluation.specs.Questions.{AreEachOver}
use Rattle.sym_matching.specs.Meaning.{SaysTest, SaysSplit, IsTestOver, IsSplitOver, AreOuts, AreOutsOver, AreTermsOfAll, AreEachOverIfAny}
use Rattle.sym_matching.specs.Pure.{PureTest, PureSplit, PureOuts}

-- ---- tests

-- whether the value of a term is such a one
abbrev pub TestsTerm : (PureValue → Bool) → PureTerm → PureTest → Type 0
TestsTerm f t test =
    (vars : List Sort) (v : List PureValue) (w : PureValue) → IsProper vars v → IsOver vars t → value v t ≡ Some w
    → SaysTest v test (f w)

abbrev pub TestsSorts : List Param → List ℕ → PureTerm → PureTest → Type 0
TestsSorts scope x t test = TestsTerm (fits_sorts scope x) t test

-- whether the values of two lists of terms are equal, one after another
abbrev pub TestsElements : List PureTerm → List PureTerm → PureTest → Type 0
TestsElements ss ts test =
    (vars : List Sort) (v us ws : List PureValue) → IsProper vars v → AreEachOver vars ss → AreEachOver vars ts
    → HaveValues v ss us → HaveValues v ts ws → SaysTest v test (same_elements us ws)

-- whether the known outs are these
abbrev pub TestsOuts : PureOuts → List PureTerm → PureTest → Type 0
TestsOuts known ts test =
    (vars : List Sort) (v : List PureValue) (os : List (Option PureValue)) (ws : List PureValue) → IsProper vars v
    → AreOutsOver vars known → AreEachOver vars ts → AreOuts v known os → HaveValues v ts ws → SaysTest v test (all_agree os ws)

-- ---- splits

-- the stores after matching expressions with terms
abbrev pub SplitsValues : List Param → List PureExpr → List PureTerm → PureStore → PureSplit PureStore → Type 0
SplitsValues scope es ts bs split =
    (vars : List Sort) (v : List PureValue) (s : Store) (ws : List PureValue) → Serves vars v bs s → AreEachOver vars ts
    → HaveValues v ts ws → SaysSplit v (StandsFor v) split (match_values scope es ws s)

-- the stores after matching a pure item
abbrev pub SplitsPure : List Param → PureExpr → PureStore → PureSplit PureStore → Type 0
SplitsPure scope e bs split =
    (vars : List Sort) (v : List PureValue) (s : Store) → Serves vars v bs s → SaysSplit v (StandsFor v) split (match_pure scope e s)

-- the outs that are known
abbrev pub SplitsOuts : PureStore → List PureExpr → PureSplit PureOuts → Type 0
SplitsOuts bs es split =
    (vars : List Sort) (v : List PureValue) (s : Store) → Serves vars v bs s → SaysSplit v (AreOuts v) split (result_ok (known_outs s es))

-- the stores at the beginning of a case
abbrev pub SplitsCase : PurePredDef → List PureTerm → PureOuts → PureSplit PureStore → Type 0
SplitsCase d ins outs split =
    (vars : List Sort) (v ws : List PureValue) (os : List (Option PureValue)) → IsProper vars v → AreEachOver vars ins
    → AreOutsOver vars outs → HaveValues v ins ws → AreOuts v outs os → SaysSplit v (StandsFor v) split (case_store d ws os)

-- the terms of names
abbrev pub AreTermsAt : PureStore → List (List ℕ) → Option (List PureTerm) → Type 0
AreTermsAt bs xs o = (v : List PureValue) (s : Store) → StandsFor v bs s → AreTermsOfAll v o (values_of s xs)

-- ---- what is named: where store and terms name only variables of a table, all that is answered does

abbrev pub StoresStayOver : PureStore → List PureTerm → PureSplit PureStore → Type 0
StoresStayOver bs ts split =
    (vars : List Sort) → IsStoreOver vars bs → AreEachOver vars ts → IsSplitOver (IsStoreOver vars) vars split

abbrev pub OutsStayOver : PureStore → PureSplit PureOuts → Type 0
OutsStayOver bs split = (vars : List Sort) → IsStoreOver vars bs → IsSplitOver (AreOutsOver vars) vars split

abbrev pub CaseStaysOver : List PureTerm → PureOuts → PureSplit PureStore → Type 0
CaseStaysOver ins outs split =
    (vars : List Sort) → AreEachOver vars ins → AreOutsOver vars outs → IsSplitOver (IsStoreOver vars) vars split

abbrev pub TermStaysOver : PureTerm → PureTest → Type 0
TermStaysOver t test = (vars : List Sort) → IsOver vars t → IsTestOver vars test

abbrev pub ElementsStayOver : List PureTerm → List PureTerm → PureTest → Type 0
ElementsStayOver ss ts test = (vars : List Sort) → AreEachOver vars ss → AreEachOver vars ts → IsTestOver vars test

abbrev pub AgreementStaysOver : PureOuts → List PureTerm → PureTest → Type 0
AgreementStaysOver known ts test = (vars : List Sort) → AreOutsOver vars known → AreEachOver vars ts → IsTestOver vars test

abbrev pub TermsStayOver : PureStore → Option (List PureTerm) → Type 0
TermsStayOver bs o = (vars : List Sort) → IsStoreOver vars bs → AreEachOverIfAny vars o
