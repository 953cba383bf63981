-- Annotations as data.
use Rattle.gil_syntax.specs.View.{expr_view, command_view, spec_view, pred_def_view}
use Rattle.gil_grammar.specs.Annotations.{PureAnnotation, specification, predicate, logic, expression}
use Rattle.gil_text.specs.declared.annotations.Annotation.{Annotation}
use Rattle.gil_text.specs.declared.annotations.Annotation.TheVariants as the

abbrev pub annotation_view : Annotation → PureAnnotation
annotation_view (the.Spec s) = specification (spec_view s)
annotation_view (the.Pred d) = predicate (pred_def_view d)
annotation_view (the.Logic c) = logic (command_view c)
annotation_view (the.Expr e) = expression (expr_view e)
