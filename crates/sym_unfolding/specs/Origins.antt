-- Where the conditions of adding assertions, and of unfolding, come from.
use Rattle.std.specs.Prelude.{◌≡◌, ◌⊎◌, ℕ, List, [], ◌++◌, map, slice_get, Some, IsTrue}
use Rattle.gil_syntax.specs.Pure.{PureItem, PurePredDef}
use Rattle.pure_terms.specs.declared.variables.Sort.{Sort}
use Rattle.pure_terms.specs.declared.variables.Var.{Var}
use Rattle.pure_terms.specs.Pure.{PureTerm, variable, PureAtom}
use Rattle.sym_evaluation.specs.Pure.{PureStore}
use Rattle.sym_matching.specs.Origins.{AsksElements, AsksOuts, AsksCase, AddsOnlyTo, IsStoreOfCase}
use Rattle.sym_matching.specs.Pure.{PureOuts}
use Rattle.sym_model.specs.Lists.{Each, OneOf, IsAmong}
use Rattle.sym_model.specs.Meaning.{has_open}
use Rattle.sym_model.specs.Terms.{StateTerms}
use Rattle.sym_states.specs.Producing.{IsOwnTo, IsProduced, added_conds}
use Rattle.sym_states.specs.Pure.{PureFact, PureState}
use Rattle.sym_unfolding.specs.Unfolding.{PureUnfoldedCase, PureUnfolding, unfolded, unmatched, unknown}

-- a name that gets a term is a new variable
abbrev pub IsVariableOf : List ℕ → PureTerm → Type 0
IsVariableOf x t = (v : Var) × (t ≡ variable v)

-- The condition is own to one of the items, which is added where names have the terms of the store or new variables.
abbrev pub AsksAdding : PureStore → List PureItem → PureAtom → Type 0
AsksAdding bs items a =
    (after : PureStore) × ((held : StateTerms) × (AddsOnlyTo IsVariableOf bs after × OneOf (λ item. IsOwnTo after item held a) items))

-- The state comes of adding the items to this one: all of them, or those up to one at which a literal form is needed.
pub record IsProducedUpTo {S : Type 0} (terms : S → StateTerms) (bs : PureStore) (s : PureState S) (items : List PureItem) (r : PureState S)
    : Type 0 where
  pub done : List PureItem
  pub later : List PureItem
  pub are : items ≡ done ++ later
  pub produced : IsProduced terms bs s done r
  pub whole : (later ≡ []) ⊎ IsTrue (has_open (added_conds s r))

-- The state comes of adding the items, under these conditions besides, to the state over a table of its own.
abbrev pub IsAddedFrom : {S : Type 0} → (S → StateTerms) → PureStore → List PureAtom → List PureItem → PureState S → PureState S → Type 0
IsAddedFrom terms bs conds items s r =
    (after : PureStore) × ((vars : List Sort) × (AddsOnlyTo IsVariableOf bs after
    × IsProducedUpTo terms after (record s { vars = vars; conds = s.conds ++ conds }) items r))

-- that a fact has these ins, and the outs that are known
abbrev pub AsksFact : List PureTerm → PureOuts → PureAtom → PureFact → Type 0
AsksFact ins known a c = AsksElements c.ins ins a ⊎ AsksOuts known c.outs a

-- that one of the facts of this name does
abbrev pub AsksSearch : List ℕ → List PureTerm → PureOuts → List PureFact → PureAtom → Type 0
AsksSearch x ins known facts a = OneOf (λ c. (c.pred ≡ x) × AsksFact ins known a c) facts

-- What taking a fact of the predicate asks: of facts, whether they have the ins and outs; and of the terms of the one that is taken, whether
-- the parameters may be given them.
abbrev pub AsksTaking : PurePredDef → List PureTerm → List PureTerm → List PureFact → PureAtom → Type 0
AsksTaking d ins outs facts a =
    AsksSearch d.name ins (map Some outs) facts a ⊎ OneOf (λ c. (c.pred ≡ d.name) × AsksCase d c.ins (map Some c.outs) a) facts

-- What unfolding asks: what taking a fact does, and what adding a case in its place does, where the parameters have the fact's terms.
abbrev pub AsksUnfolding : PurePredDef → List PureTerm → List PureTerm → List PureFact → PureAtom → Type 0
AsksUnfolding d ins outs facts a =
    AsksTaking d ins outs facts a
    ⊎ OneOf (λ c. (c.pred ≡ d.name) × ((bs : PureStore) × (IsStoreOfCase d c.ins (map Some c.outs) bs
    × OneOf (λ items. AsksAdding bs items a) d.cases))) facts

-- conditions that are these with such ones behind them
abbrev pub AddsSuch : (PureAtom → Type 0) → List PureAtom → List PureAtom → Type 0
AddsSuch P conds longer = (more : List PureAtom) × ((longer ≡ conds ++ more) × Each P more)

-- a case with its number, added to the state without a fact of the predicate, where the parameters have the fact's terms
pub record IsUnfoldedFrom {S : Type 0} (terms : S → StateTerms) (d : PurePredDef) (ins outs : List PureTerm) (s : PureState S)
    (r : PureUnfoldedCase S) : Type 0 where
  pub fact : PureFact
  pub among : IsAmong fact s.facts
  pub of_pred : fact.pred ≡ d.name
  pub others : List PureFact
  pub some_facts : Each (λ c. IsAmong c s.facts) others
  pub items : List PureItem
  pub case : slice_get d.cases r.number ≡ Some items
  pub store : PureStore
  pub store_is : IsStoreOfCase d fact.ins (map Some fact.outs) store
  pub taken : List PureAtom
  pub asked : Each (AsksTaking d ins outs s.facts) taken
  pub added : IsAddedFrom terms store taken items (record s { facts = others }) r.state

abbrev pub UnfoldingComesFrom : {S : Type 0} → (S → StateTerms) → PurePredDef → List PureTerm → List PureTerm → PureState S
    → PureUnfolding S → Type 0
UnfoldingComesFrom terms d ins outs s (unfolded rs) = Each (IsUnfoldedFrom terms d ins outs s) rs
UnfoldingComesFrom terms d ins outs s (unmatched conds v) = AddsSuch (AsksTaking d ins outs s.facts) s.conds conds
UnfoldingComesFrom terms d ins outs s (unknown conds reason) = AddsSuch (AsksTaking d ins outs s.facts) s.conds conds
