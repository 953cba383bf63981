use Rattle.std.proofs.Common.{◌≡◌, take, map}
use Rattle.gil_syntax.specs.View.{spec_view}
use Rattle.syntax_copy.proofs.items.copy_specs.Given as goal

abbrev pub invariant-loop-spec : goal.invariant-loop-spec
invariant-loop-spec l = map spec_view l.list ≡ map spec_view (take l.spec-index l.specs)
