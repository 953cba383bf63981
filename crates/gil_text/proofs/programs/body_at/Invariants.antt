use Rattle.std.proofs.Common.{◌≡◌, ◌-◌, length, map}
use Rattle.gil_lexer.specs.declared.signs.Sign.TheVariants.{RightBrace}
use Rattle.gil_lexemes.specs.Lists.{each_until, with_front}
use Rattle.gil_syntax.specs.View.{numbered_command_view}
use Rattle.gil_grammar.specs.Programs.{commands_of}
use Rattle.gil_grammar.specs.Reading.Commands.{statement_at}
use Rattle.gil_text.proofs.BodyLoop.{AreNumbered}
use Rattle.gil_text.proofs.programs.body_at.Given as goal

abbrev pub invariant-loop-index : goal.invariant-loop-index
invariant-loop-index l = record {
  so_far :
      with_front (commands_of (map numbered_command_view l.list)) (each_until statement_at (l.most - l.index) RightBrace l.rest)
      ≡ each_until statement_at (length l.fn.cursor) RightBrace l.fn.cursor;
  numbered : AreNumbered (map numbered_command_view l.list) l.index;
}
