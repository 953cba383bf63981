use Rattle.std.proofs.Common.{◌≤◌, length}
use Rattle.gil_lexer.proofs.TextLaws.{Reached}
use Rattle.gil_lexer.proofs.lexing.lex.Given as goal

abbrev pub invariant-loop-rest : goal.invariant-loop-rest
invariant-loop-rest l = record {
  within : length l.rest ≤ length l.bytes;
  reached : Reached l.bytes l.tokens l.before l.rest;
}

abbrev pub decreases-loop-rest : goal.decreases-loop-rest
decreases-loop-rest l = length l.rest
