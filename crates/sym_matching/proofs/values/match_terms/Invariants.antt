use Rattle.std.proofs.Common.{take}
use Rattle.gil_syntax.specs.View.{exprs_view}
use Rattle.pure_terms.specs.View.{terms_view}
use Rattle.sym_evaluation.specs.View.{store_view}
use Rattle.sym_matching.specs.View.{stores_view}
use Rattle.sym_matching.proofs.StoreLaws.{MatchesTerms}
use Rattle.sym_matching.proofs.values.match_terms.Given as goal

abbrev pub invariant-loop-index : goal.invariant-loop-index
invariant-loop-index l =
    MatchesTerms l.scope (take l.index (exprs_view l.expressions)) (take l.index (terms_view l.fn.terms)) (store_view l.store) (stores_view l.split)
