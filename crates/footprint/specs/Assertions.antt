-- Matching assertions and uses of user predicates, on values and on terms.
use Rattle.std.specs.Prelude.{◌≡◌, ◌⊎◌, ℕ, zero, suc, List, [], ◌∷◌, Option, Some, None}
use Rattle.gil_values.specs.Pure.{PureValue}
use Rattle.gil_syntax.specs.declared.assertions.Param.{Param}
use Rattle.gil_syntax.specs.Evaluation.{Store}
use Rattle.gil_syntax.specs.Programs.{find_pred}
use Rattle.gil_syntax.specs.Pure.{PurePredUse, PureItem, PurePredDef}
use Rattle.mem_model.specs.declared.cores.Core.{Core}
use Rattle.mem_model.specs.Heaps.{Heap}
use Rattle.assert_logic.specs.LogicStates.{LogicState}
use Rattle.assert_logic.specs.Matching.{Taken, Cases, no_cases, matched, stops, match_from, match_use, match_case, try_pred}
use Rattle.pure_terms.specs.declared.deciders.Reason.{Reason}
use Rattle.pure_terms.specs.declared.variables.Sort.{Sort}
use Rattle.pure_terms.specs.Meaning.{IsUnsatisfiable}
use Rattle.sym_paths.specs.Asking.{IsOutside}
use Rattle.sym_evaluation.specs.Meaning.{IsStoreOver}
use Rattle.sym_evaluation.specs.Pure.{PureStore}
use Rattle.sym_matching.specs.Meaning.{AreOutsOver}
use Rattle.sym_model.specs.Terms.{StateTerms, AreEachOver}
use Rattle.sym_states.specs.Meaning.{Serves, IsOverTable}
use Rattle.sym_states.specs.Pure.{PureState}
use Rattle.footprint.specs.Items.{ItemGives, ItemStops}
use Rattle.footprint.specs.Leaves.{Giving, Stopping, AreLeaves}
use Rattle.footprint.specs.Plainly.{ItemStaysPlain}
use Rattle.footprint.specs.Pure.{PureMatch, PureLeaves}
use Rattle.footprint.specs.Spreading.{no_leaves, joined, Gathers}
use Rattle.footprint.specs.Uses.{PureAsked, AskedValues, AreAsked, AsksUse}

-- how deep cases are tried: in a case one level less
abbrev pub cases_at : List PurePredDef → ℕ → Cases
cases_at preds zero = no_cases
cases_at preds (suc n) = λ x ins outs s. try_pred (cases_at preds n) (find_pred preds x) ins outs s

-- ---- assertions

abbrev pub ItemsGive : Cases → List Param → List PureItem → Giving
ItemsGive cases scope items v t l t' l' =
    (taken : List Taken) × (match_from cases scope 0 items t l ≡ matched (record { store = t'; state = l'; taken = taken }))

abbrev pub ItemsStop : Cases → List Param → List PureItem → Stopping
ItemsStop cases scope items v t l n = match_from cases scope 0 items t l ≡ stops n

-- state and store name only variables of the state's table
pub record IsMatchable {S : Type 0} (terms : S → StateTerms) (m : PureMatch S) : Type 0 where
  pub over : IsOverTable terms m.state
  pub store_over : IsStoreOver m.state.vars m.store

module _ {S : Type 0} (stands : S → List PureValue → Heap → Type 0) (terms : S → StateTerms) (kept : S → Type 0) where
  -- the leaves of one item after a match; of the memories that are plain
  abbrev pub MatchesItem : (ℕ → S → Type 0) → ℕ → Cases → List Param → PureItem → PureMatch S → PureLeaves S → Type 0
  MatchesItem Plain n cases scope item m leaves =
      AreLeaves stands terms kept m.state (Serves stands terms m.state m.store) (ItemGives cases scope item) (ItemStops n cases scope item) leaves
      × ItemStaysPlain Plain item m leaves

  -- what becomes of a match when a decider is asked of its conditions: it stays, no valuation meets them, or they aren't decided
  abbrev pub PrunesMatch : PureMatch S → PureLeaves S → Type 0
  PrunesMatch m leaves =
      (leaves ≡ record { matched = m ∷ []; stopped = []; undecided = [] })
      ⊎ (((leaves ≡ no_leaves) × IsUnsatisfiable m.state.vars m.state.conds)
      ⊎ ((reason : Reason) × ((leaves ≡ record { matched = []; stopped = []; undecided = record { conds = m.state.conds; reason = reason } ∷ [] })
      × IsOutside m.state.conds reason)))

  abbrev pub Prunes : PureLeaves S → PureLeaves S → Type 0
  Prunes before after =
      (pruned : PureLeaves S) × (Gathers PrunesMatch before.matched pruned
      × (after ≡ joined (record { matched = []; stopped = before.stopped; undecided = before.undecided }) pruned))

  -- what stopped or isn't decided stays, and each match goes on with the item
  abbrev pub NextMatched : (ℕ → S → Type 0) → ℕ → Cases → List Param → PureItem → PureLeaves S → PureLeaves S → Type 0
  NextMatched Plain n cases scope item before after =
      (next : PureLeaves S) × ((pruned : PureLeaves S) × (Gathers (MatchesItem Plain n cases scope item) before.matched next
      × Prunes next pruned × (after ≡ joined (record { matched = []; stopped = before.stopped; undecided = before.undecided }) pruned)))

-- ---- uses

-- ins and known outs name only variables of the table
abbrev pub AreAskedOver : List Sort → PureAsked → Type 0
AreAskedOver vars a = AreEachOver vars a.ins × AreOutsOver vars a.known

-- the use is matched, with these values of its ins and known outs, or not; of the core predicate that its name is, if it is one
pub record UseGives (cases : Cases) (scope : List Param) (core : Option Core) (u : PurePredUse) (a : PureAsked) (v : List PureValue) (t : Store)
    (l : LogicState) (t' : Store) (l' : LogicState) : Type 0 where
  pub values : AskedValues
  pub are : AreAsked v a values
  pub taken : Taken
  pub is : match_use cases scope core u values.0 values.1 t l ≡ Some (record { store = t'; state = l'; taken = taken })

pub record UseStops (n : ℕ) (cases : Cases) (scope : List Param) (core : Option Core) (u : PurePredUse) (a : PureAsked) (v : List PureValue)
    (t : Store) (l : LogicState) (k : ℕ) : Type 0 where
  pub number : k ≡ n
  pub values : AskedValues
  pub are : AreAsked v a values
  pub is : match_use cases scope core u values.0 values.1 t l ≡ None

-- some case of its predicate is matched, or none
pub record CaseGives (cases : Cases) (scope : List Param) (u : PurePredUse) (a : PureAsked) (v : List PureValue) (t : Store) (l : LogicState)
    (t' : Store) (l' : LogicState) : Type 0 where
  pub values : AskedValues
  pub are : AreAsked v a values
  pub taken : Taken
  pub is : match_case scope u.outs (cases u.pred values.0 values.1 l) t ≡ Some (record { store = t'; state = l'; taken = taken })

pub record CaseStops (n : ℕ) (cases : Cases) (scope : List Param) (u : PurePredUse) (a : PureAsked) (v : List PureValue) (t : Store)
    (l : LogicState) (k : ℕ) : Type 0 where
  pub number : k ≡ n
  pub values : AskedValues
  pub are : AreAsked v a values
  pub is : match_case scope u.outs (cases u.pred values.0 values.1 l) t ≡ None

-- a state in which cases may be tried
pub record IsOpen {S : Type 0} (terms : S → StateTerms) (bs : PureStore) (a : PureAsked) (s : PureState S) : Type 0 where
  pub over : IsOverTable terms s
  pub store_over : IsStoreOver s.vars bs
  pub asked_over : AreAskedOver s.vars a

module _ {S : Type 0} (stands : S → List PureValue → Heap → Type 0) (terms : S → StateTerms) (kept : S → Type 0) where
  abbrev pub CasesMatched : ℕ → Cases → List Param → PurePredUse → PureStore → PureAsked → PureState S → PureLeaves S → Type 0
  CasesMatched n cases scope u bs a s leaves =
      AreLeaves stands terms kept s (AsksUse stands terms s bs a) (CaseGives cases scope u a) (CaseStops n cases scope u a) leaves
