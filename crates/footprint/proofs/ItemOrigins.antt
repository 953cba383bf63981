-- Where the leaves of items come from, which are matched from left to right.
use Rattle.std.proofs.Common.{◌≡◌, inl, inr, List, [], ◌∷◌, ◌++◌, Some, sym, ap, subst, ◌∙◌}
use Rattle.gil_values.specs.Pure.{PureValue}
use Rattle.gil_syntax.specs.declared.assertions.Param.{Param}
use Rattle.gil_syntax.specs.Programs.{find_pred}
use Rattle.gil_syntax.specs.Pure.{PureExpr, PurePredUse, PureItem, pure, PurePredDef}
use Rattle.mem_model.specs.Heaps.{Heap}
use Rattle.pure_terms.specs.Pure.{PureAtom}
use Rattle.sym_evaluation.specs.Pure.{PureStore}
use Rattle.sym_model.specs.Lists.{IsAmong}
use Rattle.sym_model.specs.Terms.{StateTerms}
use Rattle.sym_model.proofs.ListLaws.{each_left, each_right}
use Rattle.sym_states.specs.Pure.{PureState}
use Rattle.footprint.specs.Assertions.{PrunesMatch, Prunes}
use Rattle.footprint.specs.Coming.{GuardComesFrom, CoreComesFrom, ItemComesFrom, ItemsComeFrom, NextComesFrom, UseComesFrom, PredComesFrom}
use Rattle.footprint.specs.Origins.{Origin, MatchComesFrom, LeavesComeFrom}
use Rattle.footprint.specs.Pure.{PureMatch, PureLeaves}
use Rattle.footprint.specs.Spreading.{joined, Gathers}
use Rattle.footprint.specs.Uses.{PureAsked}
use Rattle.footprint.proofs.OriginLaws.{none_add, both_add, gathered_add, match_adds, rest_adds, all_from, itself}

module _ {S : Type 0} (terms : S → StateTerms) (preds : List PurePredDef) (scope : List Param) where
  -- ---- one item

  pub guard_item_from : (e : PureExpr) (bs : PureStore) (s : PureState S) (leaves : PureLeaves S) → GuardComesFrom terms scope e bs s leaves
      → ItemComesFrom terms preds scope (pure e) (record { state = s; store = bs }) leaves
  guard_item_from e bs s leaves come o whole same facts among reached = come o whole facts among reached

  pub core_use_from : (u : PurePredUse) (bs : PureStore) (a : PureAsked) (s : PureState S) (leaves : PureLeaves S) → CoreComesFrom terms scope u a.ins bs s leaves → UseComesFrom terms preds scope u bs a s leaves
  core_use_from u bs a s leaves come o whole same facts among are reached = come o whole facts among are.ins_are reached

  -- this is the predicate of the use
  pub pred_use_from : (u : PurePredUse) (bs : PureStore) (a : PureAsked) (s : PureState S) (d : PurePredDef) (leaves : PureLeaves S) → find_pred preds u.pred ≡ Some d → PredComesFrom terms preds scope d u bs a s leaves
      → UseComesFrom terms preds scope u bs a s leaves
  pred_use_from u bs a s d leaves found come o whole same facts among are reached =
      come o whole same facts among (ap (λ (ds : List PurePredDef). find_pred ds u.pred) same ∙ found) are reached

  -- ---- several

  pub items_begin_from : (m : PureMatch S) → ItemsComeFrom terms preds scope [] m (record { matched = m ∷ []; stopped = []; undecided = [] })
  items_begin_from m o whole same facts all reached =
      match_adds o m.state.conds (MatchComesFrom terms o scope whole m.state.conds) m (itself terms o scope whole m facts reached)

  pub items_more_from : (items : List PureItem) (item : PureItem) (m : PureMatch S) (before after : PureLeaves S) → ItemsComeFrom terms preds scope items m before → NextComesFrom terms preds scope item before after
      → ItemsComeFrom terms preds scope (items ++ item ∷ []) m after
  items_more_from items item m before after come next o whole same facts all reached =
      next o whole m.state.conds same (each_right (λ (i : PureItem). IsAmong i whole) items (item ∷ []) all).0
      (come o whole same facts (each_left (λ (i : PureItem). IsAmong i whole) items (item ∷ []) all) reached)

  -- ---- going on

  module _ (stands : S → List PureValue → Heap → Type 0) (kept : S → Type 0) (o : Origin) (whole : List PureItem) (conds : List PureAtom) where
    abbrev IsFrom : PureMatch S → Type 0
    IsFrom m = MatchComesFrom terms o scope whole conds m

    pruned_one : (m : PureMatch S) (leaves : PureLeaves S) → IsFrom m → PrunesMatch stands terms kept m leaves → LeavesComeFrom terms o scope whole conds leaves
    pruned_one m leaves from (inl stays) = subst (LeavesComeFrom terms o scope whole conds) (sym stays) (match_adds o conds IsFrom m from)
    pruned_one m leaves from (inr (inl (none, unmet))) = subst (LeavesComeFrom terms o scope whole conds) (sym none) (none_add o conds IsFrom)
    pruned_one m leaves from (inr (inr (reason, (here, out)))) =
        subst (LeavesComeFrom terms o scope whole conds) (sym here) (record { matched = tt; stopped = tt; undecided = (from.own, tt) })

    rest_with : (leaves more : PureLeaves S) → LeavesComeFrom terms o scope whole conds leaves → LeavesComeFrom terms o scope whole conds more
        → LeavesComeFrom terms o scope whole conds (joined (record { matched = []; stopped = leaves.stopped; undecided = leaves.undecided }) more)
    rest_with leaves more first second =
        both_add o conds IsFrom (record { matched = []; stopped = leaves.stopped; undecided = leaves.undecided }) more (rest_adds o conds IsFrom IsFrom leaves first) second

    pruned_from : (before after : PureLeaves S) → LeavesComeFrom terms o scope whole conds before → Prunes stands terms kept before after → LeavesComeFrom terms o scope whole conds after
    pruned_from before after are (pruned, (gathers, is)) =
        subst (LeavesComeFrom terms o scope whole conds) (sym is)
        (rest_with before pruned are (gathered_add o conds IsFrom (PrunesMatch stands terms kept) IsFrom pruned_one before.matched pruned are.matched gathers))

  pub next_from : (stands : S → List PureValue → Heap → Type 0) (kept : S → Type 0) (item : PureItem) (before next pruned after : PureLeaves S) → Gathers (ItemComesFrom terms preds scope item) before.matched next
      → Prunes stands terms kept next pruned → after ≡ joined (record { matched = []; stopped = before.stopped; undecided = before.undecided }) pruned → NextComesFrom terms preds scope item before after
  next_from stands kept item before next pruned after gathers prunes is o whole conds same among are =
      let went : LeavesComeFrom terms o scope whole conds next =
      gathered_add o conds (MatchComesFrom terms o scope whole conds) (ItemComesFrom terms preds scope item) (MatchComesFrom terms o scope whole conds)
      (λ m leaves from come. all_from terms o scope whole conds m.state.conds from.own leaves (come o whole same from.facts among from.reached)) before.matched next are.matched gathers in
      subst (LeavesComeFrom terms o scope whole conds) (sym is) (rest_with stands kept o whole conds before pruned are (pruned_from stands kept o whole conds next pruned went prunes))
