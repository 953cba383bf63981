-- What folding gives, from the cases of the predicate.
use Rattle.std.proofs.Common.{◌≡◌, ℕ, List, [], ◌∷◌, map, Bool, true, false, if◌then◌else◌, Some, None, IsTrue, refl, sym, ap, subst, ◌∙◌}
use Rattle.std.specs.Str.{bytes_eq}
use Rattle.gil_values.specs.Pure.{PureValue}
use Rattle.gil_syntax.specs.Programs.{find_pred}
use Rattle.gil_syntax.specs.Pure.{PurePredDef}
use Rattle.mem_model.specs.Heaps.{Heap}
use Rattle.assert_logic.specs.Matching.{Cases, try_pred, once}
use Rattle.pure_terms.specs.declared.variables.Sort.{Sort}
use Rattle.pure_terms.specs.Meaning.{value, values, all_true}
use Rattle.pure_terms.specs.Pure.{PureTerm, from_list}
use Rattle.sym_evaluation.specs.Meaning.{HaveValues}
use Rattle.sym_matching.specs.Meaning.{AreOuts, IsOutOver, AreOutsOver}
use Rattle.sym_model.specs.Lists.{Each}
use Rattle.sym_model.specs.Terms.{StateTerms, AreEachOver}
use Rattle.sym_model.proofs.Asking.{both_parts}
use Rattle.sym_model.proofs.ListLaws.{same_some, not_none, each_map}
use Rattle.sym_states.specs.Meaning.{IsOverTable}
use Rattle.sym_states.specs.Pure.{PureState}
use Rattle.footprint.specs.Assertions.{cases_at}
use Rattle.footprint.specs.Cases.{AsksPred, PredGives, PredStops, PredTried}
use Rattle.footprint.specs.Consuming.{IsFolding, Folds, FoldsNever, asked_all}
use Rattle.footprint.specs.Leaves.{Premise, AreLeaves}
use Rattle.footprint.specs.Pure.{PureLeaves}
use Rattle.footprint.specs.Spreading.{all_stop}
use Rattle.footprint.specs.Uses.{AreAsked}
use Rattle.footprint.proofs.AssertionLaws.{same_asked, said_otherwise}
use Rattle.footprint.proofs.Parts.{part_leaves, all_stop_part}

-- cases of a predicate in a case of another one match facts alone
once_same : (preds : List PurePredDef) → cases_at preds 1 ≡ once preds
once_same preds = refl

outs_known : (v : List PureValue) (ts : List PureTerm) (ws : List PureValue) → HaveValues v ts ws → AreOuts v (map Some ts) (map Some ws)
outs_known v [] ws is = subst (λ us. AreOuts v [] (map Some us)) (same_some is) tt
outs_known v (t ∷ ts) ws is =
    let (w, (us, (first, rest, whole))) = both_parts (value v t) (values v (from_list ts)) ws is in
    subst (λ xs. AreOuts v (map Some (t ∷ ts)) (map Some xs)) (sym whole) (first, outs_known v ts us rest)

module _ {S : Type 0} (stands : S → List PureValue → Heap → Type 0) (terms : S → StateTerms) (kept : S → Type 0) (n : ℕ) (preds : List PurePredDef) (name : List ℕ) (ins outs : List PureTerm) (s : PureState S)
    (over : IsOverTable terms s) where
  abbrev FoldIf : Premise
  FoldIf = IsFolding stands terms s ins outs

  -- there is no such predicate
  pub folds_nothing : find_pred preds name ≡ None → AreLeaves stands terms kept s FoldIf (Folds preds name ins outs) (FoldsNever preds name ins outs) (all_stop n s)
  folds_nothing none =
      part_leaves stands terms kept s FoldIf (Folds preds name ins outs) (FoldsNever preds name ins outs) (λ v t l. IsTrue (all_true v s.conds)) (all_stop n s)
      (all_stop_part stands terms kept n s FoldIf (FoldsNever preds name ins outs) over (Folds preds name ins outs)
      (λ v t l holds met ws us have_ws have_us. ap (λ o. try_pred (once preds) o ws (map Some us) l) none)) (λ v t l holds. holds.serves.state.meets)

  folds_pred : (d : PurePredDef) (leaves : PureLeaves S) → find_pred preds name ≡ Some d → PredTried stands terms kept n (once preds) d (asked_all ins outs) s leaves
      → AreLeaves stands terms kept s FoldIf (Folds preds name ins outs) (FoldsNever preds name ins outs) leaves
  folds_pred d leaves is_d are =
      said_otherwise stands terms kept s FoldIf (AsksPred stands terms kept s (asked_all ins outs)) (Folds preds name ins outs) (PredGives (once preds) d (asked_all ins outs)) (FoldsNever preds name ins outs) (PredStops n (once preds) d (asked_all ins outs)) leaves over
      (λ v t l holds. holds.serves.state.meets)
      (λ v t l holds. record { over = over; state = holds.serves.state; values = (holds.ws, map Some holds.us); are = (holds.have_ins, outs_known v outs holds.us holds.have_outs) })
      (λ v t l u k holds g.
      let asked : AreAsked v (asked_all ins outs) (holds.ws, map Some holds.us) = (holds.have_ins, outs_known v outs holds.us holds.have_outs) in
      record {
        ws = holds.ws;
        us = holds.us;
        have_ins = holds.have_ins;
        have_outs = holds.have_outs;
        found = record { outs = g.outs; state = k; taken = g.taken };
        folds = (λ i. try_pred (once preds) (is_d i) (same_asked v (asked_all ins outs) (holds.ws, map Some holds.us) g.values asked g.are i).0 (same_asked v (asked_all ins outs) (holds.ws, map Some holds.us) g.values asked g.are i).1 l) ∙ g.found;
        left = refl;
      })
      (λ v t l k holds g ws us have_ws have_us.
      let asked : AreAsked v (asked_all ins outs) (ws, map Some us) = (have_ws, outs_known v outs us have_us) in
      (λ i. try_pred (once preds) (is_d i) (same_asked v (asked_all ins outs) (ws, map Some us) g.values asked g.are i).0 (same_asked v (asked_all ins outs) (ws, map Some us) g.values asked g.are i).1 l) ∙ g.none)
      are

  pub folds_at : (d : PurePredDef) (leaves : PureLeaves S) → find_pred preds name ≡ Some d → PredTried stands terms kept n (cases_at preds 1) d (asked_all ins outs) s leaves
      → AreLeaves stands terms kept s FoldIf (Folds preds name ins outs) (FoldsNever preds name ins outs) leaves
  folds_at d leaves is_d are = folds_pred d leaves is_d (subst (λ (cases : Cases). PredTried stands terms kept n cases d (asked_all ins outs) s leaves) (once_same preds) are)

-- ---- what is handed in

pub all_over : (vars : List Sort) (ts : List PureTerm) → AreEachOver vars ts → AreOutsOver vars (map Some ts)
all_over vars ts over = each_map (IsOutOver vars) Some ts over

pub found_each : (P : PurePredDef → Type 0) (preds : List PurePredDef) (x : List ℕ) (d : PurePredDef) → find_pred preds x ≡ Some d → Each P preds → P d
found_each P [] x d is all = not_none is
found_each P (e ∷ preds) x d is all = by (bytes_eq e.name x) is (λ later. found_each P preds x d later all.1)
  where
    by : (b : Bool) → (if b then Some e else find_pred preds x) ≡ Some d → (find_pred preds x ≡ Some d → P d) → P d
    by true found later = subst P (same_some found) all.0
    by false found later = later found
