use Rattle.std.proofs.Common.{sym, ◌∙◌, ◌≡◌, ◌∷◌, [], ◌++◌}
use Rattle.std.proofs.lemmas.Result.{err_from_is_err_and}
use Rattle.gil_lexer.specs.declared.signs.Sign.TheVariants as signs
use Rattle.gil_lexemes.proofs.ListReading.{more_goes_on, more_stops, more_ends, more_is_done}
use Rattle.atom_text.specs.Reading.{declaration_at}
use Rattle.atom_text.proofs.reading.more_declarations.Goals as goal

pub returns-then-not-is_at : goal.returns-then-not-is_at
returns-then-not-is_at c =
    more_ends (declaration_at c.args.tokens.now) c.loop.list c.left-most.result c.loop.counter signs.Comma c.loop.rest _
    c.loop-test.true (sym c.is_at.ensures ∙ c.if-not-is_at.true) c.loop.invariant

pub returns-in_err-declaration : goal.returns-in_err-declaration
returns-in_err-declaration c =
    let p = err_from_is_err_and c.from_residual.result c.from_residual.ensures.1 in
    rw (p.1, p.2) (more_stops (declaration_at c.args.tokens.now) c.loop.list c.left-most.result c.loop.counter signs.Comma c.loop.rest _
    c.in_err-declaration.field-0.0 c.loop-test.true (sym c.is_at.ensures ∙ c.if-not-is_at.false) (rw c.behind.ensures at c.in_err-declaration.ensures) c.loop.invariant)

pub loop-preserved : goal.loop-preserved
loop-preserved c =
    let e : c.push.new.self ≡ c.loop.list ++ c.in_ok-declaration.declaration ∷ [] = c.in_ok-push.ensures.ok in
    rw e (more_goes_on (declaration_at c.args.tokens.now) c.loop.list c.left-most.result c.loop.counter signs.Comma c.loop.rest _
    c.in_ok-declaration.declaration c.in_ok-declaration.behind c.loop-test.true (sym c.is_at.ensures ∙ c.if-not-is_at.false) (rw c.behind.ensures at c.in_ok-declaration.ensures) c.loop.invariant)

pub returns : goal.returns
returns c = more_is_done (declaration_at c.args.tokens.now) c.loop.list c.left-most.result c.loop.counter signs.Comma c.loop.rest _ c.loop-test.false c.loop.invariant
