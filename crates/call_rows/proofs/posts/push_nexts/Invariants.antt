use Rattle.std.proofs.Common.{◌≡◌, ◌++◌}
use Rattle.checked_paths.specs.View.{nexts_view}
use Rattle.call_rows.proofs.posts.push_nexts.Given as goal

abbrev pub invariant-loop-next : goal.invariant-loop-next
invariant-loop-next g l = nexts_view l.all ≡ nexts_view l.fn.first ++ nexts_view l.yielded
