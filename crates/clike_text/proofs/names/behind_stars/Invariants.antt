use Rattle.std.proofs.Common.{◌≡◌, length}
use Rattle.clike_grammar.specs.Reading.{behind_stars}
use Rattle.clike_text.proofs.names.behind_stars.Given as goal

abbrev pub invariant-loop-rest : goal.invariant-loop-rest
invariant-loop-rest l = behind_stars l.rest ≡ behind_stars l.fn.cursor

abbrev pub decreases-loop-rest : goal.decreases-loop-rest
decreases-loop-rest l = length l.rest
