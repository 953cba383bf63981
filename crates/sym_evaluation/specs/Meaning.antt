-- What stores, cases and sides stand for under a valuation.
use Rattle.std.specs.Prelude.{◌≡◌, ℕ, List, Bool, true, false, Option, Some, None, Result, Ok, Err, IsTrue, ⊤}
use Rattle.gil_values.specs.Operators.{Fault}
use Rattle.gil_values.specs.Pure.{PureValue, boolean}
use Rattle.gil_syntax.specs.Evaluation.{Store, value_of, evaluate, evaluate_all}
use Rattle.gil_syntax.specs.Pure.{PureExpr}
use Rattle.pure_terms.specs.declared.variables.Sort.{Sort}
use Rattle.pure_terms.specs.Meaning.{value, values, all_true, IsProper, IsOver}
use Rattle.pure_terms.specs.Pure.{PureTerm, PureAtom, from_list}
use Rattle.sym_evaluation.specs.Pure.{PureStore, term_at, PureFaultCase, PureGoodCase, PureCases, PureSides}
use Rattle.sym_model.specs.Lists.{Each, OneOf}

-- a name has no term and no value, or a term with this value
abbrev pub AreSame : List PureValue → Option PureTerm → Option PureValue → Type 0
AreSame v (Some t) (Some w) = value v t ≡ Some w
AreSame v None None = ⊤
AreSame v _ _ = ⊥

-- Under the valuation each name has the value of its term.
abbrev pub StandsFor : List PureValue → PureStore → Store → Type 0
StandsFor v bs s = (x : List ℕ) → AreSame v (term_at bs x) (value_of s x)

-- the term of each name names only variables of the table
abbrev pub IsStoreOver : List Sort → PureStore → Type 0
IsStoreOver vars bs = (x : List ℕ) (t : PureTerm) → term_at bs x ≡ Some t → IsOver vars t

-- a valuation that is proper for a table with all the variables of a store, under which it stands for another store
pub record Serves (vars : List Sort) (v : List PureValue) (bs : PureStore) (s : Store) : Type 0 where
  pub proper : IsProper vars v
  pub over : IsStoreOver vars bs
  pub stands : StandsFor v bs s

-- ---- cases

abbrev pub IsTaken : List PureValue → PureFaultCase → Type 0
IsTaken v c = IsTrue (all_true v c.conds)

-- the conditions, where there are any, are not all true
abbrev pub IsClosed : {X : Type 0} → List PureValue → Option (PureGoodCase X) → Type 0
IsClosed v None = ⊤
IsClosed v (Some g) = all_true v g.conds ≡ false

-- there is a result, its conditions are true, and it is as it should be
abbrev pub IsGood : {X : Type 0} → List PureValue → (X → Type 0) → Option (PureGoodCase X) → Type 0
IsGood v Is None = ⊥
IsGood v Is (Some g) = IsTrue (all_true v g.conds) × Is g.result

-- Under the valuation the cases say exactly what the outcome is: a value is that of the result, whose conditions alone are true;
-- a fault is that of each case whose conditions are true, of which there is one, and there is no result.
abbrev pub SayOutcome : {X A : Type 0} → List PureValue → (X → A → Type 0) → Result A Fault → PureCases X → Type 0
SayOutcome v Is (Ok a) cases = IsGood v (λ x. Is x a) cases.good × Each (λ c. all_true v c.conds ≡ false) cases.faults
SayOutcome v Is (Err f) cases =
    IsClosed v cases.good × OneOf (IsTaken v) cases.faults × Each (λ c. IsTaken v c → c.fault ≡ f) cases.faults

abbrev pub HasValue : List PureValue → PureTerm → PureValue → Type 0
HasValue v t w = value v t ≡ Some w

abbrev pub HaveValues : List PureValue → List PureTerm → List PureValue → Type 0
HaveValues v ts ws = values v (from_list ts) ≡ Some ws

-- the cases say what the expression comes to, wherever the store stands for another
abbrev pub AreCasesOf : PureStore → PureExpr → PureCases PureTerm → Type 0
AreCasesOf bs e cases =
    (vars : List Sort) (v : List PureValue) (s : Store) → Serves vars v bs s → SayOutcome v (HasValue v) (evaluate e s) cases

abbrev pub AreCasesOfAll : PureStore → List PureExpr → PureCases (List PureTerm) → Type 0
AreCasesOfAll bs es cases =
    (vars : List Sort) (v : List PureValue) (s : Store) → Serves vars v bs s → SayOutcome v (HaveValues v) (evaluate_all es s) cases

-- ---- guards

-- the side is there with true conditions exactly where this is true
abbrev pub IsSideWhere : List PureValue → Bool → Option (List PureAtom) → Type 0
IsSideWhere v true None = ⊥
IsSideWhere v true (Some conds) = IsTrue (all_true v conds)
IsSideWhere v false None = ⊤
IsSideWhere v false (Some conds) = all_true v conds ≡ false

abbrev pub is_true : PureValue → Bool
is_true (boolean b) = b
is_true _ = false

abbrev pub is_false : PureValue → Bool
is_false (boolean true) = false
is_false (boolean false) = true
is_false _ = false

abbrev pub is_no_boolean : PureValue → Bool
is_no_boolean (boolean b) = false
is_no_boolean _ = true

-- The sides say which way a guard goes, wherever its term has a value.
abbrev pub AreSidesOf : PureTerm → PureSides → Type 0
AreSidesOf t sides =
    (vars : List Sort) (v : List PureValue) (w : PureValue) → IsProper vars v → IsOver vars t → value v t ≡ Some w
    → IsSideWhere v (is_true w) sides.when_true × IsSideWhere v (is_false w) sides.when_false × IsSideWhere v (is_no_boolean w) sides.when_no_boolean
