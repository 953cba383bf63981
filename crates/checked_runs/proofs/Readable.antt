-- What can be read in a program with modes: its cases, and the values under which one is met.
use Rattle.std.proofs.Common.{◌≡◌, ⊎_elim, inl, inr, ℕ, zero, suc, ◌<◌, List, [], ◌∷◌, Bool, true, false, ◌&&◌, ◌||◌, length, Option, Some, None, slice_get, Ok, refl, sym, ap, subst, ◌∙◌, true≢false, arith}
use Rattle.std.specs.Option.{option_and_then}
use Rattle.std.specs.Str.{bytes_eq}
use Rattle.std.proofs.lemmas.Slice.Eq.{bytes_eq-Decides}
use Rattle.std.specs.List.{list_all, flat_map}
use Rattle.std.proofs.lemmas.Bool.{and_parts}
use Rattle.std.proofs.lemmas.List.Folds.{list_all-append}
use Rattle.gil_values.specs.Pure.{PureValue}
use Rattle.gil_values.specs.Symbols.{OccursIn, IsBelow, AreBelow}
use Rattle.gil_syntax.specs.declared.assertions.Param.{Param}
use Rattle.gil_syntax.specs.Pure.{PureItem, PurePredDef, PureParts}
use Rattle.gil_syntax.specs.Evaluation.{Store, Outcomes, Agrees}
use Rattle.gil_syntax.specs.Programs.{find_pred}
use Rattle.gil_syntax.specs.Subexpressions.{exprs_of_item}
use Rattle.gil_syntax.specs.Valid.{param_names, is_among}
use Rattle.gil_syntax.specs.WellMade.{is_well_made, is_well_made_expr, is_well_made_assertion}
use Rattle.gil_syntax.proofs.Symbols.{Holds as HoldsOfSymbols, HoldsOfAll, each_of_all}
use Rattle.mem_model.specs.declared.keys.MemoryName.{MemoryName}
use Rattle.mem_model.specs.Heaps.{Heap, OccursInHeap}
use Rattle.gil_machine.proofs.Proper.{Below}
use Rattle.assert_logic.specs.Meets.{Meets, HoldsSomewhere}
use Rattle.assert_logic.specs.declared.checking.ModeItem.TheVariants.{Pred}
use Rattle.assert_logic.specs.declared.checking.ModeKind.{ModeKind}
use Rattle.assert_logic.specs.Laws.{IsKnownSymbol}
use Rattle.assert_logic.specs.Names.{named_by_items}
use Rattle.assert_logic.specs.Modes.{case, either, first_fault, assertion_fault, case_fault, pred_fault, HasModes}
use Rattle.assert_logic.proofs.InventionLaws.{HeapHolds, KnownHold, found_at, meeting_invents_nothing}
use Rattle.assert_logic.proofs.MatchedValues.{cases_made}
use Rattle.checked_runs.proofs.Stores.{same_some, all_at, no_value}

-- ---- what can be read

pub either_none : (o later : Option ModeKind) → either o later ≡ None → (o ≡ None) × (later ≡ None)
either_none (Some why) later is = no_value why (sym is)
either_none None later is = (refl, is)

pub first_fault_at : {X : Type 0} (fault : X → Option ModeKind) (xs : List X) (i : ℕ) (x : X) → first_fault fault xs ≡ None → slice_get xs i ≡ Some x → fault x ≡ None
first_fault_at fault [] i x none at = no_value x at
first_fault_at fault (y ∷ ys) zero x none at = ap fault (sym (same_some at)) ∙ (either_none (fault y) (first_fault fault ys) none).0
first_fault_at fault (y ∷ ys) (suc i) x none at = first_fault_at fault ys i x (either_none (fault y) (first_fault fault ys) none).1 at

pub place_of : (xs : List (List ℕ)) (y : List ℕ) → is_among xs y ≡ true → (i : ℕ) × (slice_get xs i ≡ Some y)
place_of [] y is = absurd (true≢false (sym is))
place_of (x ∷ xs) y is = by (bytes_eq y x) refl is (place_of xs y)
  where
    by : (b : Bool) → bytes_eq y x ≡ b → (b || is_among xs y) ≡ true → (is_among xs y ≡ true → (i : ℕ) × (slice_get xs i ≡ Some y)) → (i : ℕ) × (slice_get (x ∷ xs) i ≡ Some y)
    by true same any later = (0, ap Some (sym ((bytes_eq-Decides y x).0 same)))
    by false other any later = let (i, at) = later any in (suc i, at)

pub value_at_place : (P : ℕ → Type 0) (xs : List (List ℕ)) (vs : List PureValue) (i : ℕ) (y : List ℕ) → length xs ≡ length vs → slice_get xs i ≡ Some y → HoldsOfAll P vs → (v : PureValue) × ((slice_get vs i ≡ Some v) × HoldsOfSymbols P v)
value_at_place P [] vs i y as_many at h = no_value y at
value_at_place P (x ∷ xs) [] i y as_many at h = absurd (cc)
value_at_place P (x ∷ xs) (v ∷ vs) zero y as_many at h = (v, (refl, h.0))
value_at_place P (x ∷ xs) (v ∷ vs) (suc i) y as_many at h = value_at_place P xs vs i y (omega (arith, as_many)) at h.1

pub names_length : (ps : List Param) → length (param_names ps) ≡ length ps
names_length [] = refl
names_length (q ∷ qs) = ap suc (names_length qs)

pub in_heap_below : (counter : ℕ) (h : Heap) → HeapHolds (Below counter) h → (n : ℕ) → OccursInHeap n h → n < counter
in_heap_below counter h below n (k, (v, (holds, inl at))) = subst (Below counter) at (below k v holds).0
in_heap_below counter h below n (k, (v, (holds, inr within))) = (below k v holds).1 n within

pub same_ok : (vs ws : List PureValue) → ◌≡◌ {A = Outcomes} (Ok vs) (Ok ws) → vs ≡ ws
same_ok vs ws is = cc

-- an assertion is well made where its expressions are
pub items_made : (items : List PureItem) → list_all is_well_made_expr (flat_map exprs_of_item items) ≡ true → is_well_made_assertion items ≡ true
items_made [] well = refl
items_made (item ∷ items) well =
    let (here, there) = and_parts (list_all is_well_made_expr (exprs_of_item item)) (list_all is_well_made_expr (flat_map exprs_of_item items)) (sym (list_all-append is_well_made_expr (exprs_of_item item) (flat_map exprs_of_item items)) ∙ well) in
    ap (λ b. b && is_well_made_assertion items) here ∙ items_made items there

pub all_below_one : (counter : ℕ) (v : PureValue) → IsBelow counter v → AreBelow counter (v ∷ [])
all_below_one counter v below = each_of_all (Below counter) (v ∷ []) (below, tt)

-- a case can be read
pub case_reads : (p : PureParts) (memory : MemoryName) → is_well_made p ≡ true → HasModes p memory → (x : List ℕ) (d : PurePredDef) (i : ℕ) (items : List PureItem) → find_pred p.preds x ≡ Some d → slice_get d.cases i ≡ Some items
    → (is_well_made_assertion items ≡ true) × (assertion_fault memory (case d) items ≡ None)
case_reads p memory made modes x d i items finds at =
    let (j, there) = found_at p.preds x d finds in
    let reads : pred_fault memory d ≡ None = sym (ap (option_and_then (pred_fault memory)) there) ∙ modes (Pred j) in (
      all_at is_well_made_assertion d.cases i items at (cases_made p made x d finds),
      (either_none (assertion_fault memory (case d) items) _ (first_fault_at (case_fault memory d) d.cases i items reads at)).0,
    )

-- what a case is met under is below the counter, where the ins and the heap are
pub case_values : (p : PureParts) (memory : MemoryName) → is_well_made p ≡ true → HasModes p memory → (counter : ℕ) (d : PurePredDef) (ins : List PureValue) (items : List PureItem) (store : Store) (part : Heap) → is_well_made_assertion items ≡ true → assertion_fault memory (case d) items ≡ None
    → Meets (HoldsSomewhere p.preds) store items part → Agrees store (param_names d.ins) ins → length d.ins ≡ length ins → HoldsOfAll (Below counter) ins → HeapHolds (Below counter) part → KnownHold (Below counter) (named_by_items items) store
case_values p memory made modes counter d ins items store part well reads meets agree as_many ins_below part_below x v named at n occurs =
    ⊎_elim known_below (λ is. in_heap_below counter part part_below n is) (meeting_invents_nothing p memory made modes (case d) items store part x v n well reads meets named at occurs)
  where
    known_below : IsKnownSymbol (case d) store n → n < counter
    known_below (y, (w, (known, (value, within)))) =
        let (i, name) = place_of (param_names d.ins) y known in
        let (u, (in_ins, below)) = value_at_place (Below counter) (param_names d.ins) ins i y (names_length d.ins ∙ as_many) name ins_below in
        below n (subst (OccursIn n) (same_some (sym value ∙ agree i y u name in_ins)) within)
