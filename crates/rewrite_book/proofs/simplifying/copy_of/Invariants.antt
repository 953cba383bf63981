use Rattle.std.proofs.Common.{◌≡◌, take}
use Rattle.rewrite_book.proofs.simplifying.copy_of.Given as goal

abbrev pub invariant-loop-id : goal.invariant-loop-id
invariant-loop-id l = l.copy.items ≡ take l.id-index l.ids
