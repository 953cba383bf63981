-- What matching a pure item gives.
use Rattle.std.proofs.Common.{ℕ, List, [], refl}
use Rattle.gil_values.specs.Pure.{PureValue}
use Rattle.gil_syntax.specs.declared.assertions.Param.{Param}
use Rattle.gil_syntax.specs.Pure.{PureExpr}
use Rattle.mem_model.specs.Heaps.{Heap}
use Rattle.assert_logic.specs.Matching.{match_pure}
use Rattle.sym_evaluation.specs.Meaning.{IsStoreOver}
use Rattle.sym_evaluation.specs.Pure.{PureStore}
use Rattle.sym_matching.specs.Matching.{SplitsPure, StoresStayOver}
use Rattle.sym_matching.specs.Pure.{PureSplit}
use Rattle.sym_model.specs.Terms.{StateTerms}
use Rattle.sym_states.specs.Meaning.{Serves, IsOverTable}
use Rattle.sym_states.specs.Pure.{PureState}
use Rattle.footprint.specs.Items.{PureGives, PureStops}
use Rattle.footprint.specs.Leaves.{AreLeaves}
use Rattle.footprint.specs.Spreading.{spread}
use Rattle.footprint.proofs.Parts.{spread_leaves}

pub guard_leaves : {S : Type 0} (stands : S → List PureValue → Heap → Type 0) (terms : S → StateTerms) (kept : S → Type 0) (n : ℕ) (scope : List Param) (e : PureExpr) (s : PureState S) (bs : PureStore)
    (x : PureSplit PureStore) → IsOverTable terms s → IsStoreOver s.vars bs → SplitsPure scope e bs x → StoresStayOver bs [] x
    → AreLeaves stands terms kept s (Serves stands terms s bs) (PureGives scope e) (PureStops n scope e) (spread n s x)
guard_leaves stands terms kept n scope e s bs x over store_over says names =
    spread_leaves stands terms kept n s (Serves stands terms s bs) (PureGives scope e) (PureStops n scope e) over x (names s.vars store_over tt)
    (λ v t l serves. record {
      outcome = match_pure scope e t;
      says = says s.vars v t (record { proper = serves.state.proper; over = store_over; stands = serves.store });
      state = serves.state;
      gives = λ u found. (found, refl);
      stops = λ none. (refl, none);
    })
