use Rattle.std.proofs.Common.{◌≡◌, ℕ, slice_get, Some}
use Rattle.rewrite_book.proofs.normals.lengthen.Given as goal

abbrev pub invariant-loop-number : goal.invariant-loop-number
invariant-loop-number l = (i m : ℕ) → slice_get l.forms.items i ≡ Some (Some m) → slice_get l.fn.forms.items i ≡ Some (Some m)
