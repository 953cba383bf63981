-- Matching the outs of a use in the state that is left.
use Rattle.std.proofs.Common.{◌≡◌, ℕ, List, Some, None, refl, sym, ◌∙◌}
use Rattle.gil_values.specs.Pure.{PureValue}
use Rattle.gil_syntax.specs.declared.assertions.Param.{Param}
use Rattle.gil_syntax.specs.Evaluation.{Store}
use Rattle.gil_syntax.specs.Pure.{PureExpr}
use Rattle.mem_model.specs.Heaps.{Heap}
use Rattle.assert_logic.specs.LogicStates.{LogicState}
use Rattle.assert_logic.specs.Matching.{match_values}
use Rattle.pure_terms.specs.Pure.{PureTerm}
use Rattle.sym_evaluation.specs.Meaning.{HaveValues, IsStoreOver}
use Rattle.sym_evaluation.specs.Pure.{PureStore}
use Rattle.sym_matching.specs.Matching.{SplitsValues, StoresStayOver}
use Rattle.sym_matching.specs.Pure.{PureSplit}
use Rattle.sym_model.specs.Terms.{StateTerms, AreEachOver}
use Rattle.sym_model.proofs.ListLaws.{same_some}
use Rattle.sym_states.specs.Meaning.{Serves, IsOverTable}
use Rattle.sym_states.specs.Pure.{PureState}
use Rattle.footprint.specs.Leaves.{Giving, Stopping, AreLeaves}
use Rattle.footprint.specs.Spreading.{spread}
use Rattle.footprint.proofs.Parts.{spread_leaves}

pub same_values : (v : List PureValue) (ts : List PureTerm) (us ws : List PureValue) → HaveValues v ts us → HaveValues v ts ws → us ≡ ws
same_values v ts us ws first second = same_some (sym first ∙ second)

-- a state, and the values of terms
pub record Holding {S : Type 0} (stands : S → List PureValue → Heap → Type 0) (terms : S → StateTerms) (q : PureState S) (bs : PureStore) (ts : List PureTerm) (v : List PureValue) (t : Store) (l : LogicState) : Type 0 where
  pub serves : Serves stands terms q bs v t l
  pub us : List PureValue
  pub have : HaveValues v ts us

-- the expressions are matched with these values, or not
abbrev pub OutsGive : List Param → List PureExpr → List PureTerm → Giving
OutsGive scope es ts v t l t' l' = (us : List PureValue) × (HaveValues v ts us × (match_values scope es us t ≡ Some t') × (l' ≡ l))

abbrev pub OutsStop : ℕ → List Param → List PureExpr → List PureTerm → Stopping
OutsStop n scope es ts v t l k = (k ≡ n) × ((us : List PureValue) × (HaveValues v ts us × (match_values scope es us t ≡ None)))

pub outs_leaves : {S : Type 0} (stands : S → List PureValue → Heap → Type 0) (terms : S → StateTerms) (kept : S → Type 0) (n : ℕ) (scope : List Param) (es : List PureExpr) (q : PureState S) (bs : PureStore)
    (ts : List PureTerm) (x : PureSplit PureStore) → IsOverTable terms q → IsStoreOver q.vars bs → AreEachOver q.vars ts → SplitsValues scope es ts bs x → StoresStayOver bs ts x
    → AreLeaves stands terms kept q (Holding stands terms q bs ts) (OutsGive scope es ts) (OutsStop n scope es ts) (spread n q x)
outs_leaves stands terms kept n scope es q bs ts x over store_over ts_over says names =
    spread_leaves stands terms kept n q (Holding stands terms q bs ts) (OutsGive scope es ts) (OutsStop n scope es ts) over x (names q.vars store_over ts_over)
    (λ v t l is. record {
      outcome = match_values scope es is.us t;
      says = says q.vars v t is.us (record { proper = is.serves.state.proper; over = store_over; stands = is.serves.store }) ts_over is.have;
      state = is.serves.state;
      gives = λ y found. (is.us, (is.have, found, refl));
      stops = λ none. (refl, (is.us, (is.have, none)));
    })
