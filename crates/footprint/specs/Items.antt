-- What matching one item gives, on values and on terms.
use Rattle.std.specs.Prelude.{◌≡◌, ℕ, List, [], Some, None}
use Rattle.gil_values.specs.Pure.{PureValue}
use Rattle.gil_syntax.specs.declared.assertions.Param.{Param}
use Rattle.gil_syntax.specs.Evaluation.{Store}
use Rattle.gil_syntax.specs.Pure.{PureExpr, PurePredUse, PureItem}
use Rattle.mem_model.specs.CoreNames.{core_of}
use Rattle.mem_model.specs.Heaps.{Heap}
use Rattle.assert_logic.specs.LogicStates.{LogicState}
use Rattle.assert_logic.specs.Matching.{Taken, Cases, no_cases, match_pure, match_use, match_item}
use Rattle.pure_terms.specs.Pure.{PureTerm, list_of, to_list}
use Rattle.sym_evaluation.specs.Meaning.{HaveValues}
use Rattle.sym_evaluation.specs.Pure.{PureStore}
use Rattle.sym_matching.specs.Matching.{SplitsValues, StoresStayOver}
use Rattle.sym_matching.specs.Origins.{ValuesComeFrom}
use Rattle.sym_matching.specs.Plainly.{TermsStayPlain}
use Rattle.sym_matching.specs.Pure.{PureSplit}
use Rattle.sym_model.specs.Pure.{PureResult, done, failed, missed, PureBranch}
use Rattle.sym_model.specs.Terms.{StateTerms}
use Rattle.sym_states.specs.Meaning.{Serves}
use Rattle.sym_states.specs.Pure.{PureState}
use Rattle.footprint.specs.Leaves.{Giving, Stopping}
use Rattle.footprint.specs.Pure.{PureLeaves}
use Rattle.footprint.specs.Spreading.{with_conds, spread, all_stop}

-- ---- one item

abbrev pub ItemGives : Cases → List Param → PureItem → Giving
ItemGives cases scope item v t l t' l' =
    (taken : Taken) × (match_item cases scope item t l ≡ Some (record { store = t'; state = l'; taken = taken }))

abbrev pub ItemStops : ℕ → Cases → List Param → PureItem → Stopping
ItemStops n cases scope item v t l k = (k ≡ n) × (match_item cases scope item t l ≡ None)

-- ---- pure items

abbrev pub PureGives : List Param → PureExpr → Giving
PureGives scope e v t l t' l' = (match_pure scope e t ≡ Some t') × (l' ≡ l)

abbrev pub PureStops : ℕ → List Param → PureExpr → Stopping
PureStops n scope e v t l k = (k ≡ n) × (match_pure scope e t ≡ None)

-- ---- the outs of a use

-- the leaves are those of matching the outs with terms
abbrev pub SpreadsValues : {S : Type 0} → ℕ → List Param → List PureExpr → PureStore → PureState S → List PureTerm → PureLeaves S → Type 0
SpreadsValues n scope es bs s ts leaves =
    (x : PureSplit PureStore) × (SplitsValues scope es ts bs x × StoresStayOver bs ts x × TermsStayPlain es ts bs x
    × ValuesComeFrom scope es ts bs x × (leaves ≡ spread n s x))

abbrev pub MatchesDone : {S : Type 0} → ℕ → List Param → List PureExpr → PureStore → PureState S → PureTerm → PureLeaves S → Type 0
MatchesDone n scope es bs s (list_of ts) leaves = SpreadsValues n scope es bs s (to_list ts) leaves
MatchesDone n scope es bs s t leaves = leaves ≡ all_stop n s

abbrev pub MatchesResult : {S : Type 0} → ℕ → List Param → List PureExpr → PureStore → PureState S → PureResult → PureLeaves S → Type 0
MatchesResult n scope es bs s (done t) leaves = MatchesDone n scope es bs s t leaves
MatchesResult n scope es bs s (failed t) leaves = leaves ≡ all_stop n s
MatchesResult n scope es bs s (missed k) leaves = leaves ≡ all_stop n s

-- the state as a branch of consumption leaves it
abbrev pub branch_state : {S : Type 0} → PureState S → PureBranch S → PureState S
branch_state s b = record (with_conds s b.conds) { memory = b.state }

abbrev pub MatchesBranch : {S : Type 0} → ℕ → List Param → List PureExpr → PureStore → PureState S → PureBranch S → PureLeaves S → Type 0
MatchesBranch n scope es bs s b leaves = MatchesResult n scope es bs (branch_state s b) b.result leaves

-- ---- uses

-- a state, and the values of the ins of a use
pub record AsksIns {S : Type 0} (stands : S → List PureValue → Heap → Type 0) (terms : S → StateTerms) (s : PureState S) (bs : PureStore)
    (ins : List PureTerm) (v : List PureValue) (t : Store) (l : LogicState) : Type 0 where
  pub serves : Serves stands terms s bs v t l
  pub ws : List PureValue
  pub have_ins : HaveValues v ins ws

-- the core predicate is matched, or not
abbrev pub CoreGives : List Param → PurePredUse → List PureTerm → Giving
CoreGives scope u ins v t l t' l' =
    (ws : List PureValue) × (HaveValues v ins ws × ((taken : Taken)
    × (match_use no_cases scope (core_of u.pred) u ws [] t l ≡ Some (record { store = t'; state = l'; taken = taken }))))

abbrev pub CoreStops : ℕ → List Param → PurePredUse → List PureTerm → Stopping
CoreStops n scope u ins v t l k =
    (k ≡ n) × ((ws : List PureValue) × (HaveValues v ins ws × (match_use no_cases scope (core_of u.pred) u ws [] t l ≡ None)))
