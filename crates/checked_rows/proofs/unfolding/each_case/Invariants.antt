use Rattle.std.proofs.Common.{◌≡◌, ◌++◌, length}
use Rattle.std.specs.Vec.Iter.{into_iter_len, into_iter_items}
use Rattle.sym_unfolding.specs.View.{cases_view}
use Rattle.checked_paths.specs.View.{checking_view, nexts_view}
use Rattle.checked_rows.specs.Unfolding.{EachUnfolded}
use Rattle.checked_paths.specs.Meaning.{EachWith}
use Rattle.checked_rows.specs.Asked.{HasConds}
use Rattle.checked_rows.proofs.unfolding.each_case.Given as goal

abbrev pub invariant-loop-case : goal.invariant-loop-case
invariant-loop-case g l = record {
  counted : into_iter_len l.case-iterator ≡ length (into_iter_items l.case-iterator);
  rest : l.fn.cases ≡ l.yielded ++ into_iter_items l.case-iterator;
  answered : EachUnfolded g.M.SymMemory.stands g.M.SymMemory.terms l.here (checking_view l.checking) (cases_view l.yielded) (nexts_view l.nexts);
  same : EachWith (λ r k. HasConds r.state.conds k) (cases_view l.yielded) (nexts_view l.nexts);
}
