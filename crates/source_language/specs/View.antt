-- The pure data of what the trees of every source language have.
use Rattle.std.specs.Prelude.{map, Option, Some, None}
use Rattle.gil_syntax.specs.View.{pred_use_view, assertion_view, spec_view, pred_def_view}
use Rattle.source_language.specs.Pure.{PureLogic, fold_use, unfold_use, assert_that, invariant_by_itself, PureInvariant, PureFunction, PureSource}
use Rattle.source_language.specs.declared.trees.Logic.{Logic}
use Rattle.source_language.specs.declared.trees.Invariant.{Invariant}
use Rattle.source_language.specs.declared.trees.Function.{Function}
use Rattle.source_language.specs.declared.trees.SourceParts.{SourceParts}

abbrev pub invariant_view : Invariant → PureInvariant
invariant_view i = record { names = i.names; logicals = i.logicals; items = assertion_view i.assertion }

abbrev pub logic_view : Logic → PureLogic
logic_view (Logic.Fold u) = fold_use (pred_use_view u)
logic_view (Logic.Unfold u) = unfold_use (pred_use_view u)
logic_view (Logic.Assert items) = assert_that (assertion_view items)
logic_view (Logic.Invariant i) = invariant_by_itself (invariant_view i)

abbrev pub invariants_view : Option Invariant → Option PureInvariant
invariants_view None = None
invariants_view (Some i) = Some (invariant_view i)

-- of bodies that are seen by view
abbrev pub function_view : {B P : Type 0} → (B → P) → Function B → PureFunction P
function_view view f = record { name = f.name; params = f.params; body = view f.body; at = f.at }

-- of functions that are seen by view
abbrev pub source_parts_view : {F P : Type 0} → (F → P) → SourceParts F → PureSource P
source_parts_view view s = record { functions = map view s.functions; specs = map spec_view s.specs; preds = map pred_def_view s.preds }
