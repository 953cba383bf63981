use Rattle.std.proofs.Common.{◌≡◌, ◌++◌, length, take}
use Rattle.pure_terms.specs.View.{terms_view}
use Rattle.bi_beginnings.specs.Beginnings.{variables_from}
use Rattle.bi_beginnings.proofs.beginnings.extended.Given as goal

abbrev pub invariant-loop-sort : goal.invariant-loop-sort
invariant-loop-sort l =
    (l.vars ≡ l.fn.vars ++ take l.sort-index l.sort-items) × (terms_view l.added ≡ variables_from (length l.fn.vars) (take l.sort-index l.sort-items))
