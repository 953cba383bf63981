use Rattle.std.proofs.Common.{◌≡◌, take, map}
use Rattle.gil_syntax.specs.View.{assertion_view}
use Rattle.syntax_copy.proofs.assertions.copy_assertions.Given as goal

abbrev pub invariant-loop-assertion : goal.invariant-loop-assertion
invariant-loop-assertion l = map assertion_view l.list ≡ map assertion_view (take l.assertion-index l.assertions)
