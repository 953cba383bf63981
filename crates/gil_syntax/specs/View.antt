-- The pure data of the syntax.
use Rattle.std.specs.Prelude.{List, map}
use Rattle.gil_values.specs.View.{value_view}
use Rattle.gil_syntax.specs.Pure.{PureExpr, literal, name, logical, list_of, unary_of, binary_of, from_list, PurePredUse, PureItem, pure, uses, PureCommand, assign, call, act, usym, isym, ifgoto, return, fail, throw, vanish, fold_use, unfold_use, assert_that, loop_invariant, PureNumberedCommand, PureProc, PureSpec, PurePredDef, PureParts}
use Rattle.gil_syntax.specs.declared.expressions.Expr.{Expr, fold-Expr}
use Rattle.gil_syntax.specs.declared.expressions.Exprs.{Exprs, fold-Exprs}
use Rattle.gil_syntax.specs.declared.expressions.Expr.TheOpen.{Expr-F, Exprs-F}
use Rattle.gil_syntax.specs.declared.assertions.PredUse.{PredUse}
use Rattle.gil_syntax.specs.declared.assertions.Item.{Item}
use Rattle.gil_syntax.specs.declared.commands.Command.{Command}
use Rattle.gil_syntax.specs.declared.commands.NumberedCommand.{NumberedCommand}
use Rattle.gil_syntax.specs.declared.parts.Proc.{Proc}
use Rattle.gil_syntax.specs.declared.parts.Spec.{Spec}
use Rattle.gil_syntax.specs.declared.parts.PredDef.{PredDef}
use Rattle.gil_syntax.specs.declared.parts.Parts.{Parts}

-- one level of an expression, with each part already seen as its pure data
abbrev pub expr_step : Expr-F PureExpr (List PureExpr) → PureExpr
expr_step (Expr-F.Lit v) = literal (value_view v)
expr_step (Expr-F.Name t) = name t
expr_step (Expr-F.Logical t) = logical t
expr_step (Expr-F.List es) = list_of (from_list es)
expr_step (Expr-F.Op1 op e) = unary_of op e.value
expr_step (Expr-F.Op2 op d e) = binary_of op d.value e.value

abbrev pub exprs_step : Exprs-F PureExpr (List PureExpr) → List PureExpr
exprs_step es = es.items.items

abbrev pub expr_view : Expr → PureExpr
expr_view = fold-Expr PureExpr (List PureExpr) expr_step exprs_step

abbrev pub exprs_view : Exprs → List PureExpr
exprs_view = fold-Exprs PureExpr (List PureExpr) expr_step exprs_step

abbrev pub pred_use_view : PredUse → PurePredUse
pred_use_view u = record { pred = u.pred; ins = exprs_view u.ins; outs = exprs_view u.outs }

abbrev pub item_view : Item → PureItem
item_view (Item.Pure e) = pure (expr_view e)
item_view (Item.Uses u) = uses (pred_use_view u)

abbrev pub assertion_view : List Item → List PureItem
assertion_view items = map item_view items

abbrev pub command_view : Command → PureCommand
command_view (Command.Assign x e) = assign x (expr_view e)
command_view (Command.Call x e es handler) = call x (expr_view e) (exprs_view es) handler
command_view (Command.Act x a es) = act x a (exprs_view es)
command_view (Command.Usym x) = usym x
command_view (Command.Isym x k) = isym x k
command_view (Command.IfGoto e i) = ifgoto (expr_view e) i
command_view (Command.Return e) = return (expr_view e)
command_view (Command.Fail e) = fail (expr_view e)
command_view (Command.Throw e) = throw (expr_view e)
command_view Command.Vanish = vanish
command_view (Command.Fold u) = fold_use (pred_use_view u)
command_view (Command.Unfold u) = unfold_use (pred_use_view u)
command_view (Command.AssertThat items) = assert_that (assertion_view items)
command_view (Command.LoopInvariant xs ps items) = loop_invariant xs ps (assertion_view items)

abbrev pub numbered_command_view : NumberedCommand → PureNumberedCommand
numbered_command_view c = record { command = command_view c.command; at = c.at }

abbrev pub proc_view : Proc → PureProc
proc_view q = record { name = q.name; params = q.params; body = map numbered_command_view q.body }

abbrev pub spec_view : Spec → PureSpec
spec_view s =
    record {
      name = s.name;
      params = s.params;
      logicals = s.logicals;
      pre = assertion_view s.pre;
      posts = map assertion_view s.posts;
      errors = map assertion_view s.errors;
    }

abbrev pub pred_def_view : PredDef → PurePredDef
pred_def_view d = record { name = d.name; ins = d.ins; outs = d.outs; logicals = d.logicals; cases = map assertion_view d.cases }

abbrev pub parts_view : Parts → PureParts
parts_view p = record { procs = map proc_view p.procs; specs = map spec_view p.specs; preds = map pred_def_view p.preds }
