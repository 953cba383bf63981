-- What the named forms of terms, atoms and uses mean: what these mean where the names have the values of the variables.
use Rattle.std.specs.Prelude.{◌≡◌, ◌↔◌, ◌⊎◌, ℕ, List, ◌++◌, length, slice_get, false, Ok, Some, IsSome, IsTrue}
use Rattle.std.specs.List.{Contains}
use Rattle.gil_values.specs.Pure.{PureValue}
use Rattle.gil_syntax.specs.Evaluation.{Store, Agrees, evaluate}
use Rattle.gil_syntax.specs.Pure.{PurePredDef}
use Rattle.gil_syntax.specs.WellMade.{is_program_name, is_well_made_assertion}
use Rattle.gil_syntax.specs.Valid.{has_twice}
use Rattle.mem_model.specs.CoreNames.{core_of}
use Rattle.mem_model.specs.Heaps.{Heap}
use Rattle.assert_logic.specs.Meets.{Meets, HoldsSomewhere}
use Rattle.assert_logic.specs.Names.{named_by_items}
use Rattle.pure_terms.specs.declared.variables.Sort.{Sort}
use Rattle.pure_terms.specs.declared.variables.Var.{Var}
use Rattle.pure_terms.specs.Meaning.{value, all_true, IsOver}
use Rattle.pure_terms.specs.Pure.{PureTerm, PureAtom, term_of, variables}
use Rattle.sym_model.specs.Listing.{AreUnion}
use Rattle.sym_model.specs.Lists.{Each, OneOf}
use Rattle.sym_model.specs.Pure.{PureUse}
use Rattle.sym_model.specs.Terms.{AreEachOver}
use Rattle.assertion_terms.specs.Named.{table_names, expr_of, assertion_of}
use Rattle.std.specs.List.{list_all}

-- Each variable of the table has a name and a value, and the store gives the names the values.
pub record NamesValues (vars : List Sort) (names : List (List ℕ)) (v : List PureValue) (store : Store) : Type 0 where
  pub names_each : length names ≡ length vars
  pub values_each : length v ≡ length vars
  pub agrees : Agrees store names v

-- uses of core predicates over the table
abbrev pub AreUsesOver : List Sort → List PureUse → Type 0
AreUsesOver vars us = Each (λ u. IsSome (core_of u.core) × AreEachOver vars (u.ins ++ u.outs)) us

abbrev pub AreAtomsOver : List Sort → List PureAtom → Type 0
AreAtomsOver vars conds = Each (λ a. IsOver vars (term_of a)) conds

-- the name is that of a variable which the term, a use or an atom names
abbrev pub IsNameIn : List (List ℕ) → List ℕ → PureTerm → Type 0
IsNameIn names x t = (y : Var) × (Contains (variables t) y × (slice_get names y.number ≡ Some x))

abbrev pub IsNameAmong : List (List ℕ) → List ℕ → List PureUse → List PureAtom → Type 0
IsNameAmong names x us conds = OneOf (λ u. OneOf (IsNameIn names x) (u.ins ++ u.outs)) us ⊎ OneOf (λ a. IsNameIn names x (term_of a)) conds

-- What named forms mean.
--   values_are: an expression has the value of the term, or none where that has none;
--   meets: a heap meets the assertion exactly where it has what the uses say and nothing else, and the atoms are true.
pub record NamedFormsMean (vars : List Sort) (names : List (List ℕ)) (v : List PureValue) (store : Store) : Type 0 where
  pub values_are : (t : PureTerm) (w : PureValue) → IsOver vars t → (evaluate (expr_of names t) store ≡ Ok w) ↔ (value v t ≡ Some w)
  pub meets : (preds : List PurePredDef) (us : List PureUse) (conds : List PureAtom) (h : Heap)
      → AreUsesOver vars us → AreAtomsOver vars conds
      → Meets (HoldsSomewhere preds) store (assertion_of names us conds) h ↔ (AreUnion v us h × IsTrue (all_true v conds))

abbrev pub NamedFormsAreRight : Type 0
NamedFormsAreRight =
    (vars : List Sort) (names : List (List ℕ)) (v : List PureValue) (store : Store)
    → NamesValues vars names v store → NamedFormsMean vars names v store

-- The names that stand in the assertion are those of the variables of its terms.
abbrev pub NamesAreOfVariables : Type 0
NamesAreOfVariables =
    (vars : List Sort) (names : List (List ℕ)) (us : List PureUse) (conds : List PureAtom) (x : List ℕ)
    → length names ≡ length vars → AreUsesOver vars us → AreAtomsOver vars conds
    → IsTrue (named_by_items (assertion_of names us conds) x) ↔ IsNameAmong names x us conds

-- The assertion is well made. No two variables have the same name, where no two parameters have, which are names of programs.
pub record NamesAreWellMade (params : List (List ℕ)) (others : ℕ) : Type 0 where
  pub well_made : (us : List PureUse) (conds : List PureAtom) → IsTrue (is_well_made_assertion (assertion_of (table_names params others) us conds))
  pub distinct : IsTrue (list_all is_program_name params) → has_twice params ≡ false → has_twice (table_names params others) ≡ false

abbrev pub TablesAreNamed : Type 0
TablesAreNamed = (params : List (List ℕ)) (others : ℕ) → NamesAreWellMade params others
