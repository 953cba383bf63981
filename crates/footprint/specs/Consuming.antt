-- What consuming assertions, and folding, gives.
use Rattle.std.specs.Prelude.{◌≡◌, ℕ, [], List, map, Bool, true, false, Some, None}
use Rattle.std.specs.List.{list_any}
use Rattle.gil_values.specs.Pure.{PureValue}
use Rattle.gil_syntax.specs.declared.assertions.Param.{Param}
use Rattle.gil_syntax.specs.Evaluation.{Store}
use Rattle.gil_syntax.specs.Programs.{find_pred}
use Rattle.gil_syntax.specs.Pure.{PureItem, PurePredDef}
use Rattle.mem_model.specs.declared.keys.MemoryName.{MemoryName}
use Rattle.mem_model.specs.Heaps.{Heap}
use Rattle.assert_logic.specs.LogicStates.{LogicState}
use Rattle.assert_logic.specs.Matching.{Taken, matched, stops, CaseMatch, match_assertion, match_fold}
use Rattle.checked_runs.specs.Checked.{leaves_nothing}
use Rattle.pure_terms.specs.Pure.{PureTerm}
use Rattle.sym_evaluation.specs.Meaning.{HaveValues}
use Rattle.sym_model.specs.Lists.{Each}
use Rattle.sym_model.specs.Terms.{StateTerms}
use Rattle.sym_states.specs.Meaning.{Serves}
use Rattle.sym_states.specs.Producing.{MayAdd}
use Rattle.sym_states.specs.Pure.{PureState}
use Rattle.footprint.specs.Leaves.{Giving, Stopping}
use Rattle.footprint.specs.Uses.{PureAsked}

-- what items must be, so that they can be matched on states of this memory
abbrev pub MayMatch : MemoryName → List PureItem → Type 0
MayMatch memory items = Each (MayAdd memory) items

-- and the cases of each predicate that a name finds
abbrev pub CasesMayMatch : MemoryName → List PurePredDef → Type 0
CasesMayMatch memory preds = (d : PurePredDef) (x : List ℕ) → find_pred preds x ≡ Some d → Each (MayMatch memory) d.cases

-- ---- assertions

-- the assertion is matched, with this store and this logic state
abbrev pub Matches : List PurePredDef → List Param → List PureItem → Giving
Matches preds scope items v t l t' l' =
    (taken : List Taken) × (match_assertion preds scope items t l ≡ matched (record { store = t'; state = l'; taken = taken }))

abbrev pub StopsAt : List PurePredDef → List Param → List PureItem → Stopping
StopsAt preds scope items v t l n = match_assertion preds scope items t l ≡ stops n

-- ---- the first of several assertions that leaves nothing

abbrev pub some_match : List PurePredDef → List Param → List (List PureItem) → Store → LogicState → Bool
some_match preds scope posts t l = list_any (λ items. leaves_nothing (match_assertion preds scope items t l)) posts

abbrev pub MatchesWhole : List PurePredDef → List Param → List (List PureItem) → Giving
MatchesWhole preds scope posts v t l t' l' = some_match preds scope posts t l ≡ true

abbrev pub MatchesNone : List PurePredDef → List Param → List (List PureItem) → Stopping
MatchesNone preds scope posts v t l n = some_match preds scope posts t l ≡ false

-- ---- folding

-- what is asked of a predicate whose ins and outs all have terms
abbrev pub asked_all : List PureTerm → List PureTerm → PureAsked
asked_all ins outs = record { ins = ins; known = map Some outs }

-- a state and the values of ins and outs
pub record IsFolding {S : Type 0} (stands : S → List PureValue → Heap → Type 0) (terms : S → StateTerms) (s : PureState S)
    (ins outs : List PureTerm) (v : List PureValue) (t : Store) (l : LogicState) : Type 0 where
  pub serves : Serves stands terms s [] v t l
  pub ws : List PureValue
  pub us : List PureValue
  pub have_ins : HaveValues v ins ws
  pub have_outs : HaveValues v outs us

-- a case of the predicate is matched with these ins and outs, and leaves this logic state
pub record Folds (preds : List PurePredDef) (name : List ℕ) (ins outs : List PureTerm) (v : List PureValue) (t : Store) (l : LogicState)
    (t' : Store) (l' : LogicState) : Type 0 where
  pub ws : List PureValue
  pub us : List PureValue
  pub have_ins : HaveValues v ins ws
  pub have_outs : HaveValues v outs us
  pub found : CaseMatch
  pub folds : match_fold preds name ws us l ≡ Some found
  pub left : found.state ≡ l'

abbrev pub FoldsNever : List PurePredDef → List ℕ → List PureTerm → List PureTerm → Stopping
FoldsNever preds name ins outs v t l n =
    (ws us : List PureValue) → HaveValues v ins ws → HaveValues v outs us → match_fold preds name ws us l ≡ None
