use Rattle.std.proofs.Common.{◌≡◌, ◌≤◌, length}
use Rattle.gil_lexer.specs.Reading as spec
use Rattle.gil_lexer.proofs.blanks.after_comment.Given as goal

abbrev pub invariant-loop-rest : goal.invariant-loop-rest
invariant-loop-rest l = record {
  same_end : spec.after_comment l.rest ≡ spec.after_comment l.text;
  within : length l.rest ≤ length l.text;
}

abbrev pub decreases-loop-rest : goal.decreases-loop-rest
decreases-loop-rest l = length l.rest
