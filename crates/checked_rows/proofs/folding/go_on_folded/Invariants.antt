use Rattle.std.proofs.Common.{◌≡◌, ◌++◌, length}
use Rattle.std.specs.Vec.Iter.{into_iter_len, into_iter_items}
use Rattle.pure_terms.specs.View.{terms_view}
use Rattle.footprint.specs.View.{matches_view}
use Rattle.checked_paths.specs.View.{checking_view, nexts_view}
use Rattle.checked_rows.specs.Folding.{EachFolded, fact_of}
use Rattle.checked_paths.specs.Meaning.{EachWith}
use Rattle.checked_rows.specs.Asked.{HasConds}
use Rattle.checked_rows.proofs.folding.go_on_folded.Given as goal

abbrev pub invariant-loop-found : goal.invariant-loop-found
invariant-loop-found g l = record {
  counted : into_iter_len l.found-iterator ≡ length (into_iter_items l.found-iterator);
  rest : l.fn.matches ≡ l.yielded ++ into_iter_items l.found-iterator;
  folded : EachFolded g.M.SymMemory.stands g.M.SymMemory.terms l.here (checking_view l.checking) (fact_of l.name (terms_view l.ins) (terms_view l.outs)) (matches_view l.yielded) (nexts_view l.nexts);
  same : EachWith (λ k n. HasConds k.state.conds n) (matches_view l.yielded) (nexts_view l.nexts);
}
