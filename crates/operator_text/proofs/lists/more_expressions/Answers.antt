use Rattle.std.proofs.Common.{sym, ◌∙◌, ◌≡◌, ◌∷◌, [], ◌++◌, map}
use Rattle.std.proofs.lemmas.Result.{err_from_is_err_and}
use Rattle.std.proofs.lemmas.List.{map_push}
use Rattle.gil_lexer.specs.declared.signs.Sign.TheVariants as signs
use Rattle.gil_lexemes.proofs.ListReading.{more_goes_on, more_stops, more_ends, more_is_done}
use Rattle.source_operators.specs.View.{expression_view}
use Rattle.operator_text.specs.PieceReading.{whole_at}
use Rattle.operator_text.proofs.lists.more_expressions.Goals as goal

pub returns-then-not-is_at : goal.returns-then-not-is_at
returns-then-not-is_at g c =
    more_ends (whole_at g.L.OperatorLanguage.signs) (map expression_view c.loop.list) c.left-most.result c.loop.counter signs.Comma c.loop.rest _
    c.loop-test.true (sym c.is_at.ensures ∙ c.if-not-is_at.true) c.loop.invariant

pub returns-in_err-expression : goal.returns-in_err-expression
returns-in_err-expression g c =
    let p = err_from_is_err_and c.from_residual.result c.from_residual.ensures.1 in
    rw (p.1, p.2) (more_stops (whole_at g.L.OperatorLanguage.signs) (map expression_view c.loop.list) c.left-most.result c.loop.counter signs.Comma c.loop.rest _
    c.in_err-expression.field-0.0 c.loop-test.true (sym c.is_at.ensures ∙ c.if-not-is_at.false) (rw c.behind.ensures at c.in_err-expression.ensures) c.loop.invariant)

pub loop-preserved : goal.loop-preserved
loop-preserved g c =
    let e : map expression_view c.push.new.self ≡ map expression_view c.loop.list ++ expression_view c.in_ok-expression.expression ∷ [] = rw c.in_ok-push.ensures.ok (map_push expression_view c.loop.list _) in
    rw e (more_goes_on (whole_at g.L.OperatorLanguage.signs) (map expression_view c.loop.list) c.left-most.result c.loop.counter signs.Comma c.loop.rest _
    (expression_view c.in_ok-expression.expression) c.in_ok-expression.behind c.loop-test.true (sym c.is_at.ensures ∙ c.if-not-is_at.false) (rw c.behind.ensures at c.in_ok-expression.ensures) c.loop.invariant)

pub returns : goal.returns
returns g c = more_is_done (whole_at g.L.OperatorLanguage.signs) (map expression_view c.loop.list) c.left-most.result c.loop.counter signs.Comma c.loop.rest _ c.loop-test.false c.loop.invariant
