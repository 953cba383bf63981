use Rattle.std.proofs.Common.{◌≡◌, ◌++◌}
use Rattle.checked_paths.specs.View.{nexts_view}
use Rattle.invariant_rows.proofs.visiting.joined.Given as goal

abbrev pub invariant-loop-next : goal.invariant-loop-next
invariant-loop-next g l = nexts_view l.joined ≡ nexts_view l.fn.first ++ nexts_view l.yielded
