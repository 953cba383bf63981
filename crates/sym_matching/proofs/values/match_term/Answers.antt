use Rattle.std.proofs.Common.{sym}
use Rattle.gil_syntax.specs.View.{expr_view}
use Rattle.pure_terms.specs.View.{term_view}
use Rattle.sym_evaluation.specs.View.{store_view}
use Rattle.sym_states.proofs.Values.{ok_to}
use Rattle.sym_matching.specs.Parts.{MatchesTerm}
use Rattle.sym_matching.specs.View.{stores_view}
use Rattle.sym_matching.proofs.ValueLaws.{matches_name, matches_other}
use Rattle.sym_matching.proofs.values.match_term.Goals as goal

pub returns-in-Some : goal.returns-in-Some
returns-in-Some c =
    let bs = store_view c.args.store.now in
    let e = expr_view c.args.expression.now in
    let t = term_view c.args.term.now in
    ok_to c.give.result _ (λ x. MatchesTerm c.args.scope.now e t bs (stores_view x))
    (λ x is. matches_name c.args.scope.now bs (stores_view x) e t c.in-Some.name.now (sym c.in-Some.ensures) is) c.give.ensures

pub returns-in-None : goal.returns-in-None
returns-in-None c =
    let bs = store_view c.args.store.now in
    let e = expr_view c.args.expression.now in
    let t = term_view c.args.term.now in
    ok_to c.match_known.result _ (λ x. MatchesTerm c.args.scope.now e t bs (stores_view x))
    (λ x is. matches_other c.args.scope.now bs (stores_view x) e t (sym c.in-None.ensures) is) c.match_known.ensures
