use Rattle.std.proofs.Common.{◌≡◌, ◌≤◌, false, length}
use Rattle.gil_lexer.specs.Reading as spec
use Rattle.gil_lexer.proofs.blanks.after_blanks.Given as goal

abbrev pub invariant-loop-rest : goal.invariant-loop-rest
invariant-loop-rest l = record {
  same_end : spec.after_blanks false l.rest ≡ spec.after_blanks false l.text;
  within : length l.rest ≤ length l.text;
}

abbrev pub decreases-loop-rest : goal.decreases-loop-rest
decreases-loop-rest l = length l.rest
