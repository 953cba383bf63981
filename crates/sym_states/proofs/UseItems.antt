-- What adding a use of a predicate gives.
use Rattle.std.proofs.Common.{◌≡◌, List, [], ◌∷◌, Option, Some, None, sym, subst}
use Rattle.gil_values.specs.Pure.{PureValue}
use Rattle.gil_syntax.specs.Pure.{PurePredUse, uses}
use Rattle.mem_model.specs.declared.cores.Core.{Core}
use Rattle.mem_model.specs.declared.keys.MemoryName.{MemoryName}
use Rattle.mem_model.specs.CoreNames.{core_of}
use Rattle.mem_model.specs.Heaps.{Heap}
use Rattle.sym_evaluation.specs.Pure.{PureStore}
use Rattle.sym_model.specs.Terms.{StateTerms}
use Rattle.sym_states.specs.Producing.{AreArguments, AddsToEach, AddsByName, PureProduction}
use Rattle.sym_states.specs.Pure.{PureState, PureArguments}
use Rattle.sym_states.proofs.CoreItems.{adds_key}
use Rattle.sym_states.proofs.FactItems.{adds_fact}

pub adds_use : {S : Type 0} (memory : MemoryName) (stands : S → List PureValue → Heap → Type 0) (terms : S → StateTerms) (kept : S → Type 0) (keeps narrows : Type 0) (bs : PureStore) (u : PurePredUse) (s : PureState S)
    (a : PureArguments) → AreArguments bs u a → (p : PureProduction S) (o : Option Core) → core_of u.pred ≡ o → AddsByName memory stands terms kept keeps narrows o u.pred s a p
    → AddsToEach memory stands terms kept keeps narrows bs (uses u) (s ∷ []) p
adds_use memory stands terms kept keeps narrows bs u s a are p (Some core) named key =
    subst (AddsToEach memory stands terms kept keeps narrows bs (uses u) (s ∷ [])) (sym key.are) (adds_key memory stands terms kept keeps narrows bs u s core named a are key.branches key.laws key.forms key.still_kept key.still_plain key.still_narrow)
adds_use memory stands terms kept keeps narrows bs u s a are p None named is = subst (AddsToEach memory stands terms kept keeps narrows bs (uses u) (s ∷ [])) (sym is) (adds_fact memory stands terms kept keeps narrows bs u s named a are)
