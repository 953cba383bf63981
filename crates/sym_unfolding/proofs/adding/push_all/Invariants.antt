use Rattle.std.proofs.Common.{◌≡◌, ◌++◌}
use Rattle.sym_unfolding.specs.View.{cases_view}
use Rattle.sym_unfolding.proofs.adding.push_all.Given as goal

abbrev pub invariant-loop-case : goal.invariant-loop-case
invariant-loop-case g l = cases_view l.cases ≡ cases_view l.fn.cases ++ cases_view l.yielded
