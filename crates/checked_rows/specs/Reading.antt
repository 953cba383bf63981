-- Reading expressions in a state: the terms of their values, and the conditions under which there are some.
use Rattle.std.specs.Prelude.{◌≡◌, List, ◌++◌, Option, Some, None, Ok, Err}
use Rattle.gil_values.specs.Operators.{Fault}
use Rattle.gil_values.specs.Pure.{PureValue}
use Rattle.gil_syntax.specs.Evaluation.{Store, evaluate_all}
use Rattle.gil_syntax.specs.Pure.{PureExpr}
use Rattle.mem_model.specs.Heaps.{Heap}
use Rattle.assert_logic.specs.LogicStates.{LogicState}
use Rattle.pure_terms.specs.declared.variables.Sort.{Sort}
use Rattle.pure_terms.specs.Meaning.{IsUnsatisfiable}
use Rattle.pure_terms.specs.Pure.{PureTerm, PureAtom}
use Rattle.sym_evaluation.specs.Meaning.{HaveValues}
use Rattle.sym_evaluation.specs.Pure.{PureStore, PureFaultCase, PureGoodCase}
use Rattle.sym_model.specs.Lists.{Each, OneOf}
use Rattle.sym_model.specs.Terms.{StateTerms, AreEachOver}
use Rattle.sym_states.specs.Meaning.{Stands, Serves, IsOverTable}
use Rattle.sym_states.specs.Pure.{PureState}
use Rattle.footprint.specs.Leaves.{IsLonger}
use Rattle.checked_rows.specs.Doubts.{PureDoubt, IsDoubtIn, IsToldThere}

-- this is the doubt of one of the faults
abbrev pub DoubtsFault : List Sort → List PureAtom → List PureFaultCase → PureDoubt → Type 0
DoubtsFault vars conds faults doubt = OneOf (λ f. IsToldThere vars conds f.conds doubt) faults

-- the conditions and those of a fault are never met together
abbrev pub NeverTaken : List Sort → List PureAtom → List PureFaultCase → Type 0
NeverTaken vars conds faults = Each (λ f. IsUnsatisfiable vars (conds ++ f.conds)) faults

-- terms in a state; that there is no such state; or a doubt
pub data PureReading (S : Type 0) : Type 0 where
  values : PureState S → List PureTerm → PureReading S
  never : PureReading S
  doubted : PureDoubt → PureReading S

-- the state under the conditions of the result, if there is one
abbrev pub taken : {S : Type 0} → PureState S → Option (PureGoodCase (List PureTerm)) → PureReading S
taken s (Some g) = values (record s { conds = s.conds ++ g.conds }) g.result
taken s None = never

module _ {S : Type 0} (stands : S → List PureValue → Heap → Type 0) (terms : S → StateTerms) (s : PureState S) (bs : PureStore)
    (es : List PureExpr) where
  -- The expressions have values, which are those of the terms, and the state stands for the same with further conditions.
  pub record AreRead (r : PureState S) (ts : List PureTerm) : Type 0 where
    pub same_else : r ≡ record s { conds = r.conds }
    pub longer : IsLonger s.conds r.conds
    pub over : IsOverTable terms r
    pub terms_over : AreEachOver s.vars ts
    pub have : (v : List PureValue) (t : Store) (l : LogicState) → Serves stands terms s bs v t l
        → (ws : List PureValue) × ((evaluate_all es t ≡ Ok ws) × HaveValues v ts ws × Stands stands r v l)

  -- the expressions have no values
  abbrev pub AreUnread : List PureValue → Type 0
  AreUnread v = (t : Store) (l : LogicState) → Serves stands terms s bs v t l → (f : Fault) × (evaluate_all es t ≡ Err f)

  abbrev pub Reads : PureReading S → Type 0
  Reads (values r ts) = AreRead r ts
  Reads never = (v : List PureValue) (t : Store) (l : LogicState) → ¬ Serves stands terms s bs v t l
  Reads (doubted doubt) = IsDoubtIn s AreUnread doubt
