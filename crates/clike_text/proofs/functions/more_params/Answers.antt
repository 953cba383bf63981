use Rattle.std.proofs.Common.{sym, ◌∙◌, ◌≡◌, ◌∷◌, [], ◌++◌}
use Rattle.std.proofs.lemmas.Result.{err_from_is_err_and}
use Rattle.gil_lexer.specs.declared.signs.Sign.TheVariants as signs
use Rattle.gil_lexemes.proofs.ListReading.{more_goes_on, more_stops, more_ends, more_is_done}
use Rattle.clike_grammar.specs.Functions.{param_at}
use Rattle.clike_text.proofs.functions.more_params.Goals as goal

pub returns-then-not-is_at : goal.returns-then-not-is_at
returns-then-not-is_at c =
    more_ends param_at c.loop.list c.left-most.result c.loop.counter signs.Comma c.loop.rest _
    c.loop-test.true (sym c.is_at.ensures ∙ c.if-not-is_at.true) c.loop.invariant

pub returns-in_err-param : goal.returns-in_err-param
returns-in_err-param c =
    let p = err_from_is_err_and c.from_residual.result c.from_residual.ensures.1 in
    rw (p.1, p.2) (more_stops param_at c.loop.list c.left-most.result c.loop.counter signs.Comma c.loop.rest _
    c.in_err-param.field-0.0 c.loop-test.true (sym c.is_at.ensures ∙ c.if-not-is_at.false) (rw c.behind.ensures at c.in_err-param.ensures) c.loop.invariant)

pub loop-preserved : goal.loop-preserved
loop-preserved c =
    let e : c.push.new.self ≡ c.loop.list ++ c.in_ok-param.param ∷ [] = c.in_ok-push.ensures.ok in
    rw e (more_goes_on param_at c.loop.list c.left-most.result c.loop.counter signs.Comma c.loop.rest _
    c.in_ok-param.param c.in_ok-param.behind c.loop-test.true (sym c.is_at.ensures ∙ c.if-not-is_at.false) (rw c.behind.ensures at c.in_ok-param.ensures) c.loop.invariant)

pub returns : goal.returns
returns c = more_is_done param_at c.loop.list c.left-most.result c.loop.counter signs.Comma c.loop.rest _ c.loop-test.false c.loop.invariant
