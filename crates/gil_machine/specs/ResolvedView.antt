-- What expressions, commands and bodies over slots stand for, by the names of the slots.
use Rattle.std.specs.Prelude.{◌<◌, List, length, ⊤}
use Rattle.gil_values.specs.View.{value_view}
use Rattle.gil_syntax.specs.Pure.{PureExpr, literal, name, logical, list_of, unary_of, binary_of, from_list, PureCommand, assign, call, act, usym, isym, ifgoto, return, fail, throw, vanish, fold_use, unfold_use, assert_that, loop_invariant, PureNumberedCommand}
use Rattle.gil_syntax.specs.View.{pred_use_view, assertion_view}
use Rattle.gil_machine.specs.declared.resolved.Resolved.{Resolved, fold-Resolved}
use Rattle.gil_machine.specs.declared.resolved.ResolvedList.{ResolvedList, fold-ResolvedList}
use Rattle.gil_machine.specs.declared.resolved.Resolved.TheOpen.{Resolved-F, ResolvedList-F}
use Rattle.gil_machine.specs.declared.resolved.ResolvedCommand.{ResolvedCommand}
use Rattle.gil_machine.specs.declared.resolved.ResolvedNumbered.{ResolvedNumbered}
use Rattle.gil_machine.specs.SlotNames.{Names, name_at}

-- one level of an expression, with each part already seen
abbrev pub resolved_step : Names → Resolved-F PureExpr (List PureExpr) → PureExpr
resolved_step names (Resolved-F.Lit v) = literal (value_view v)
resolved_step names (Resolved-F.Name i) = name (name_at names i)
resolved_step names (Resolved-F.Logical i) = logical (name_at names i)
resolved_step names (Resolved-F.List es) = list_of (from_list es)
resolved_step names (Resolved-F.Op1 op e) = unary_of op e.value
resolved_step names (Resolved-F.Op2 op d e) = binary_of op d.value e.value

abbrev pub resolved_list_step : ResolvedList-F PureExpr (List PureExpr) → List PureExpr
resolved_list_step es = es.items.items

abbrev pub resolved_view : Names → Resolved → PureExpr
resolved_view names = fold-Resolved PureExpr (List PureExpr) (resolved_step names) resolved_list_step

abbrev pub resolved_list_view : Names → ResolvedList → List PureExpr
resolved_list_view names = fold-ResolvedList PureExpr (List PureExpr) (resolved_step names) resolved_list_step

abbrev pub resolved_command_view : Names → ResolvedCommand → PureCommand
resolved_command_view names (ResolvedCommand.Assign i e) = assign (name_at names i) (resolved_view names e)
resolved_command_view names (ResolvedCommand.Call i e es handler) = call (name_at names i) (resolved_view names e) (resolved_list_view names es) handler
resolved_command_view names (ResolvedCommand.Act i a es) = act (name_at names i) a.now (resolved_list_view names es)
resolved_command_view names (ResolvedCommand.Usym i) = usym (name_at names i)
resolved_command_view names (ResolvedCommand.Isym i k) = isym (name_at names i) k
resolved_command_view names (ResolvedCommand.IfGoto e i) = ifgoto (resolved_view names e) i
resolved_command_view names (ResolvedCommand.Return e) = return (resolved_view names e)
resolved_command_view names (ResolvedCommand.Fail e) = fail (resolved_view names e)
resolved_command_view names (ResolvedCommand.Throw e) = throw (resolved_view names e)
resolved_command_view names ResolvedCommand.Vanish = vanish
resolved_command_view names (ResolvedCommand.Fold u) = fold_use (pred_use_view u.now)
resolved_command_view names (ResolvedCommand.Unfold u) = unfold_use (pred_use_view u.now)
resolved_command_view names (ResolvedCommand.AssertThat items) = assert_that (assertion_view items.now)
resolved_command_view names (ResolvedCommand.LoopInvariant xs ps items) = loop_invariant xs.now ps.now (assertion_view items.now)

abbrev pub resolved_numbered_view : Names → ResolvedNumbered → PureNumberedCommand
resolved_numbered_view names c = record { command = resolved_command_view names c.command; at = c.at }

-- the variable that a command assigns, if any, is one of the slots
abbrev pub AssignsSlot : Names → ResolvedCommand → Type 0
AssignsSlot names (ResolvedCommand.Assign i e) = i < length names
AssignsSlot names (ResolvedCommand.Call i e es handler) = i < length names
AssignsSlot names (ResolvedCommand.Act i a es) = i < length names
AssignsSlot names (ResolvedCommand.Usym i) = i < length names
AssignsSlot names (ResolvedCommand.Isym i k) = i < length names
AssignsSlot names (ResolvedCommand.IfGoto e i) = ⊤
AssignsSlot names (ResolvedCommand.Return e) = ⊤
AssignsSlot names (ResolvedCommand.Fail e) = ⊤
AssignsSlot names (ResolvedCommand.Throw e) = ⊤
AssignsSlot names ResolvedCommand.Vanish = ⊤
AssignsSlot names (ResolvedCommand.Fold u) = ⊤
AssignsSlot names (ResolvedCommand.Unfold u) = ⊤
AssignsSlot names (ResolvedCommand.AssertThat items) = ⊤
AssignsSlot names (ResolvedCommand.LoopInvariant xs ps items) = ⊤

abbrev pub IsOverSlots : Names → ResolvedNumbered → Type 0
IsOverSlots names c = AssignsSlot names c.command
