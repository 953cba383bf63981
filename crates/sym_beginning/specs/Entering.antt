-- The terms of the values with which a specification is entered.
use Rattle.std.specs.Prelude.{◌≡◌, ◌⊎◌, ℕ, List, [], ◌∷◌, length, Option, Some, None, IsSome, IsTrue, ⊤}
use Rattle.gil_values.specs.Pure.{PureValue}
use Rattle.gil_syntax.specs.Evaluation.{Store, value_of}
use Rattle.gil_syntax.specs.Pure.{PureSpec}
use Rattle.assert_logic.specs.Modes.{is_variable_of}
use Rattle.checked_runs.specs.Specifications.{IsEntry, entry_store}
use Rattle.pure_terms.specs.declared.variables.Sort.{Sort}
use Rattle.pure_terms.specs.Meaning.{IsProper}
use Rattle.pure_terms.specs.Pure.{PureTerm}
use Rattle.sym_evaluation.specs.Meaning.{HaveValues, StandsFor, IsStoreOver}
use Rattle.sym_evaluation.specs.Pure.{PureStore, term_at}
use Rattle.sym_model.specs.Lists.{Each, IsAmong}
use Rattle.sym_model.specs.Terms.{AreEachOver}

-- the terms of these names, in order
abbrev pub AreTermsAt : PureStore → List (List ℕ) → List PureTerm → Type 0
AreTermsAt bs [] [] = ⊤
AreTermsAt bs (x ∷ xs) (t ∷ ts) = (term_at bs x ≡ Some t) × AreTermsAt bs xs ts
AreTermsAt bs _ _ = ⊥

-- the table, the terms of parameters and variables, and the store of both
pub record PureEntryTerms : Type 0 where
  pub vars : List Sort
  pub args : List PureTerm
  pub variables : PureStore
  pub store : PureStore

-- the values with which the specification is entered, where each variable that its precondition names has one
pub record IsFullEntry (s : PureSpec) (args : List PureValue) (variables : Store) : Type 0 where
  pub entered : IsEntry s args variables
  pub known : (x : List ℕ) → IsTrue (is_variable_of s x) → IsSome (value_of variables x)

-- under the valuation the terms have these values
pub record AreEntryValues (e : PureEntryTerms) (s : PureSpec) (v : List PureValue) (args : List PureValue) (variables : Store) : Type 0 where
  pub args_are : HaveValues v e.args args
  pub variables_are : StandsFor v e.variables variables
  pub store_is : StandsFor v e.store (entry_store s args variables)

-- a value is one of an argument, or of a variable
abbrev pub IsValueOfEntry : List PureValue → Store → PureValue → Type 0
IsValueOfEntry args variables w = IsAmong w args ⊎ ((x : List ℕ) × (value_of variables x ≡ Some w))

-- Each entry is one under some valuation, whose values are those of the entry; and each valuation gives one.
pub record Enters (s : PureSpec) (e : PureEntryTerms) : Type 0 where
  pub cover : (args : List PureValue) (variables : Store) → IsFullEntry s args variables
      → (v : List PureValue) × (IsProper e.vars v × (AreEntryValues e s v args variables × Each (IsValueOfEntry args variables) v))
  pub exact : (v : List PureValue) → IsProper e.vars v
      → (args : List PureValue) × ((variables : Store) × (IsEntry s args variables × AreEntryValues e s v args variables))
  pub as_many : length e.args ≡ length s.params
  pub args_over : AreEachOver e.vars e.args
  pub variables_over : IsStoreOver e.vars e.variables
  pub store_over : IsStoreOver e.vars e.store

-- where there are no terms, there is no entry
abbrev pub EntersIfAny : PureSpec → Option PureEntryTerms → Type 0
EntersIfAny s (Some e) = Enters s e
EntersIfAny s None = (args : List PureValue) (variables : Store) → ¬ IsFullEntry s args variables
