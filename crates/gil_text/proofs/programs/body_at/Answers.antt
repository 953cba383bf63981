use Rattle.std.proofs.Common.{sym, ◌∙◌, ◌≡◌, ◌∷◌, [], ◌++◌, map, ap}
use Rattle.std.proofs.lemmas.Result.{err_from_is_err_and}
use Rattle.std.proofs.lemmas.List.{map_push}
use Rattle.gil_lexer.specs.declared.signs.Sign.TheVariants.{RightBrace}
use Rattle.gil_lexemes.proofs.ListReading.{each_goes_on, each_stops, each_ends, each_is_done}
use Rattle.gil_syntax.specs.Pure.{PureNumberedCommand}
use Rattle.gil_syntax.specs.View.{command_view, numbered_command_view}
use Rattle.gil_grammar.specs.Programs.{commands_of}
use Rattle.gil_grammar.specs.Reading.Commands.{statement_at}
use Rattle.gil_text.proofs.BodyLoop.{AreNumbered, commands_push, numbered_more, body_read, body_stops}
use Rattle.gil_text.proofs.programs.body_at.Goals as goal

pub returns-then-is_at : goal.returns-then-is_at
returns-then-is_at c =
    let body = map numbered_command_view c.loop-index.list in
    body_read c.args.cursor c.loop-index.rest body c.loop-index.index c.loop-index.invariant.numbered
    (each_ends statement_at (commands_of body) c.left-most.result c.loop-index.index RightBrace c.loop-index.rest _
    c.loop-index-test.true (sym c.is_at.ensures ∙ c.if-is_at.true) c.loop-index.invariant.so_far)

pub returns-in_err-command : goal.returns-in_err-command
returns-in_err-command c =
    let p = err_from_is_err_and c.from_residual.result c.from_residual.ensures.1 in
    rw (p.1, p.2) (body_stops c.in_err-command.field-0.0 c.args.cursor
    (each_stops statement_at (commands_of (map numbered_command_view c.loop-index.list)) c.left-most.result c.loop-index.index RightBrace c.loop-index.rest _
    c.in_err-command.field-0.0 c.loop-index-test.true (sym c.is_at.ensures ∙ c.if-is_at.false) c.in_err-command.ensures c.loop-index.invariant.so_far))

pub loop-index-preserved : goal.loop-index-preserved
loop-index-preserved c =
    let body = map numbered_command_view c.loop-index.list in
    let one : PureNumberedCommand = record { command = command_view c.in_ok-command.command; at = c.loop-index.index } in
    let e : map numbered_command_view c.push.new.self ≡ body ++ one ∷ [] = rw (c.in_ok-push.ensures.ok, c.in-Ok.ensures.1) (map_push numbered_command_view c.loop-index.list _) in
    rw e (record {
      so_far = rw (commands_push body one) (each_goes_on statement_at (commands_of body) c.left-most.result c.loop-index.index RightBrace c.loop-index.rest _
          one.command c.in_ok-command.behind c.loop-index-test.true (sym c.is_at.ensures ∙ c.if-is_at.false) c.in_ok-command.ensures c.loop-index.invariant.so_far);
      numbered = numbered_more body c.loop-index.index one.command c.loop-index.invariant.numbered;
    })

pub returns : goal.returns
returns c =
    let body = map numbered_command_view c.loop-index.list in
    body_read c.args.cursor c.loop-index.rest body c.loop-index.index c.loop-index.invariant.numbered
    (each_is_done statement_at (commands_of body) c.left-most.result c.loop-index.index RightBrace c.loop-index.rest _ c.loop-index-test.false c.loop-index.invariant.so_far)
