-- The arguments of a call have the sorts of the parameters.
use Rattle.std.specs.Prelude.{◌≡◌, List, length, false, Some, IsTrue}
use Rattle.gil_values.specs.Pure.{PureValue}
use Rattle.gil_machine.specs.Step.{bind_all}
use Rattle.gil_syntax.specs.declared.assertions.Param.{Param}
use Rattle.gil_syntax.specs.Evaluation.{Store, value_of}
use Rattle.gil_syntax.specs.Pure.{PureSpec}
use Rattle.gil_syntax.specs.Valid.{param_names}
use Rattle.assert_logic.specs.Sorts.{fits_sorts}
use Rattle.checked_runs.specs.Checked.{Checked}
use Rattle.pure_terms.specs.declared.variables.Sort.{Sort}
use Rattle.pure_terms.specs.Meaning.{all_true, IsProper, Satisfies}
use Rattle.pure_terms.specs.Pure.{PureAtom}
use Rattle.sym_evaluation.specs.Meaning.{StandsFor, IsStoreOver}
use Rattle.sym_evaluation.specs.Pure.{PureStore}
use Rattle.sym_paths.specs.Asking.{IsOutside}
use Rattle.sym_model.specs.Lists.{Each, OneOf}
use Rattle.footprint.specs.Leaves.{IsLonger}
use Rattle.checked_rows.specs.Doubts.{PureDoubt, always, under, beyond}

-- the frame that runs has these arguments for the parameters of the specification
pub record HasArguments (used : PureSpec) (args : List PureValue) (c : Checked) : Type 0 where
  pub as_many : length used.params ≡ length args
  pub bound : c.machine.current.store ≡ bind_all (param_names used.params) args

module _ (vars : List Sort) (conds : List PureAtom) (bs : PureStore) (scope : List Param) where
  -- Under each valuation that meets the conditions the parameter has a value, which has each sort that is declared for its name.
  abbrev pub FitsParam : Param → Type 0
  FitsParam q =
      (v : List PureValue) (s : Store) → Satisfies vars v conds → IsStoreOver vars bs → StandsFor v bs s
      → (w : PureValue) × ((value_of s q.name ≡ Some w) × IsTrue (fits_sorts scope q.name w))

  abbrev pub FitParams : List Param → Type 0
  FitParams qs = Each FitsParam qs

  -- under the valuation the parameter has no value that has each sort that is declared for its name
  abbrev pub IsUnfit : Param → List PureValue → Type 0
  IsUnfit q v =
      (s : Store) (w : PureValue) → IsProper vars v → IsStoreOver vars bs → StandsFor v bs s → value_of s q.name ≡ Some w
      → fits_sorts scope q.name w ≡ false

-- The conditions begin with these, and wherever they are true, this fails; or they aren't decided. The valuation meets them.
abbrev pub IsDoubtOver : List Sort → List PureAtom → (List PureValue → Type 0) → PureDoubt → Type 0
IsDoubtOver vars conds Fails always = (v : List PureValue) → IsTrue (all_true v conds) → Fails v
IsDoubtOver vars conds Fails (under atoms u) =
    IsLonger conds atoms × Satisfies vars u atoms × ((v : List PureValue) → IsTrue (all_true v atoms) → Fails v)
IsDoubtOver vars conds Fails (beyond atoms reason) = IsLonger conds atoms × IsOutside atoms reason

-- one of the parameters is unfit wherever the doubt is told
abbrev pub IsUnfitDoubt : List Sort → List PureAtom → PureStore → List Param → PureDoubt → Type 0
IsUnfitDoubt vars conds bs qs doubt = OneOf (λ q. IsDoubtOver vars conds (IsUnfit vars conds bs qs q) doubt) qs
