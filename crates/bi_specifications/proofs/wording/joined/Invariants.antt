use Rattle.std.proofs.Common.{◌≡◌, ◌++◌, map}
use Rattle.gil_syntax.specs.View.{item_view, assertion_view}
use Rattle.bi_specifications.proofs.wording.joined.Given as goal

abbrev pub invariant-loop-item : goal.invariant-loop-item
invariant-loop-item l = assertion_view l.items ≡ assertion_view l.fn.first ++ map item_view l.yielded
