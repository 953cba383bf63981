-- Values that surely have the sorts that are declared for their names.
use Rattle.std.specs.Prelude.{◌≡◌, ℕ, List, ◌++◌, Some, false, IsTrue}
use Rattle.gil_values.specs.Pure.{PureValue}
use Rattle.gil_syntax.specs.declared.assertions.Param.{Param}
use Rattle.gil_syntax.specs.Evaluation.{Store, value_of}
use Rattle.assert_logic.specs.Sorts.{fits_sorts}
use Rattle.pure_terms.specs.declared.variables.Sort.{Sort}
use Rattle.pure_terms.specs.Meaning.{all_true, IsProper, IsUnsatisfiable, Satisfies}
use Rattle.pure_terms.specs.Pure.{PureAtom}
use Rattle.sym_model.specs.Alternatives.{Alternatives}
use Rattle.sym_evaluation.specs.Meaning.{StandsFor}
use Rattle.sym_evaluation.specs.Pure.{PureStore}
use Rattle.sym_model.specs.Lists.{Each, OneOf}
use Rattle.checked_runs.specs.Checked.{known_fit}
use Rattle.checked_paths.specs.Pure.{PureEntry, PureChecking}
use Rattle.checked_rows.specs.Doubts.{PureDoubt, always, under, beyond, IsToldThere}
use Rattle.checked_rows.specs.Names.{AreNames}
use Rattle.footprint.specs.Leaves.{IsLonger}
use Rattle.sym_paths.specs.Asking.{IsOutside}

-- the conditions and those of an alternative are never met together
abbrev pub NeverMet : List Sort → List PureAtom → Alternatives → Type 0
NeverMet vars conds x = Each (λ more. IsUnsatisfiable vars (conds ++ more)) x

-- this is the doubt of one of the alternatives
abbrev pub DoubtsOne : List Sort → List PureAtom → Alternatives → PureDoubt → Type 0
DoubtsOne vars conds x doubt = OneOf (λ more. IsToldThere vars conds more doubt) x

module _ (ps : List Param) (vars : List Sort) (conds : List PureAtom) (bs : PureStore) where
  -- where the conditions are met, a value that the name has is of all its sorts
  abbrev pub SurelyFits : List ℕ → Type 0
  SurelyFits x =
      (v : List PureValue) (t : Store) (w : PureValue) → Satisfies vars v conds → StandsFor v bs t → value_of t x ≡ Some w
      → IsTrue (fits_sorts ps x w)

  abbrev pub AllFit : List Param → Type 0
  AllFit qs = Each (λ q. SurelyFits q.name) qs

  -- Wherever these conditions are true, which the valuation meets, some name has a value that isn't of its sort; or they aren't decided.
  abbrev pub DoubtsSorts : PureDoubt → Type 0
  DoubtsSorts always = ⊥
  DoubtsSorts (under atoms u) =
      IsLonger conds atoms × Satisfies vars u atoms
      × ((v : List PureValue) (t : Store) → IsProper vars v → IsTrue (all_true v atoms) → StandsFor v bs t → known_fit t ps ≡ false)
  DoubtsSorts (beyond atoms reason) = IsLonger conds atoms × IsOutside atoms reason

-- the declared names of logic commands surely have their sorts where the checked path stands
abbrev pub SortsFit : {S : Type 0} → List Param → PureEntry → PureChecking S → Type 0
SortsFit ps e x = (bs : PureStore) × (AreNames x.path.stack e.variables bs × AllFit ps x.path.vars x.path.conds bs ps)
