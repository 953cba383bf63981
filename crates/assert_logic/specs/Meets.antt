-- The meaning of assertions: which heaps meet one under a logical store, and of what user predicates hold. The items of an
-- assertion share the heap without overlap, as by the separating conjunction of Reynolds, LICS 2002; predicates are those of
-- Gillian, Part II (CAV 2021).
use Rattle.std.specs.Prelude.{◌≡◌, ℕ, zero, suc, List, [], ◌∷◌, ◌++◌, length, true, Option, Some, None, Ok, slice_get}
use Rattle.std.specs.FinMap.{empty}
use Rattle.gil_values.specs.Pure.{PureValue, boolean}
use Rattle.gil_syntax.specs.Pure.{PurePredUse, PureItem, pure, uses, PurePredDef}
use Rattle.gil_syntax.specs.Programs.{find_pred}
use Rattle.gil_syntax.specs.Valid.{param_names}
use Rattle.gil_syntax.specs.Evaluation.{Store, Agrees, evaluate, evaluate_all}
use Rattle.mem_model.specs.declared.cores.Core.{Core}
use Rattle.mem_model.specs.CoreNames.{core_of}
use Rattle.mem_model.specs.Cores.{core_heap}
use Rattle.mem_model.specs.Heaps.{Heap}
use Rattle.assert_logic.specs.Sorts.{HasSorts}
use Rattle.assert_logic.specs.Unions.{IsUnion}

-- of which names, values of ins, values of outs and heaps predicates hold
abbrev pub Predicates : Type 1
Predicates = List ℕ → List PureValue → List PureValue → Heap → Type 0

-- a core predicate holds of the heap of its one key, and any other name of what these predicates say
abbrev pub UseHolds : Predicates → Option Core → List ℕ → List PureValue → List PureValue → Heap → Type 0
UseHolds holds (Some core) name ins outs h = core_heap name (ins ++ outs) ≡ Some h
UseHolds holds None name ins outs h = holds name ins outs h

module _ (holds : Predicates) (store : Store) where
  -- ins and outs have values of which the predicate holds
  pub record UseMeets (u : PurePredUse) (h : Heap) : Type 0 where
    pub ins : List PureValue
    pub outs : List PureValue
    pub ins_are : evaluate_all u.ins store ≡ Ok ins
    pub outs_are : evaluate_all u.outs store ≡ Ok outs
    pub holds_there : UseHolds holds (core_of u.pred) u.pred ins outs h

  -- an expression is defined and true, of the empty heap
  abbrev pub ItemMeets : PureItem → Heap → Type 0
  ItemMeets (pure e) h = (evaluate e store ≡ Ok (boolean true)) × (h ≡ empty)
  ItemMeets (uses u) h = UseMeets u h

  -- The heap is the union of disjoint parts, one for each item. That it is well formed is asked of the whole, where it counts.
  abbrev pub Meets : List PureItem → Heap → Type 0
  Meets [] h = h ≡ empty
  Meets (item ∷ items) h =
      (part : Heap) × ((rest : Heap) × (IsUnion h part rest × (ItemMeets item part × Meets items rest)))

-- Some case of the predicate is met under some values of its variables. Ins and outs are the values of its parameters; a name
-- that stands among both has one value, and each value has its name's sort.
pub record CaseHolds (preds : List PurePredDef) (holds : Predicates) (name : List ℕ) (ins outs : List PureValue) (h : Heap) : Type 0 where
  pub pred : PurePredDef
  pub found : find_pred preds name ≡ Some pred
  pub number : ℕ
  pub items : List PureItem
  pub case : slice_get pred.cases number ≡ Some items
  pub store : Store
  pub ins_agree : Agrees store (param_names pred.ins) ins
  pub outs_agree : Agrees store (param_names pred.outs) outs
  pub as_many_ins : length pred.ins ≡ length ins
  pub as_many_outs : length pred.outs ≡ length outs
  pub sorts : HasSorts (pred.ins ++ pred.outs ++ pred.logicals) store
  pub meets : Meets holds store items h

-- At rank 0 no predicate holds. At the next rank it holds where some case is met with the predicates at the rank before.
abbrev pub HoldsAt : List PurePredDef → ℕ → Predicates
HoldsAt preds zero name ins outs h = ⊥
HoldsAt preds (suc k) name ins outs h = CaseHolds preds (HoldsAt preds k) name ins outs h

-- a predicate holds where it does at some rank
abbrev pub HoldsSomewhere : List PurePredDef → Predicates
HoldsSomewhere preds name ins outs h = (k : ℕ) × HoldsAt preds k name ins outs h
