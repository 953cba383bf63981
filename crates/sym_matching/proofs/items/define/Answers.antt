use Rattle.std.proofs.Common.{None, refl}
use Rattle.assert_logic.specs.Matching.{given_outcome}
use Rattle.gil_syntax.specs.Evaluation.{evaluate}
use Rattle.gil_syntax.specs.View.{expr_view}
use Rattle.pure_terms.specs.View.{term_view}
use Rattle.sym_evaluation.specs.declared.store.SymStore.{SymStore}
use Rattle.sym_evaluation.specs.View.{store_view}
use Rattle.sym_states.proofs.Values.{ok_to}
use Rattle.sym_matching.specs.declared.splits.Split.{Split}
use Rattle.sym_matching.specs.Parts.{Alone, DefinesPlainly, DefinitionComesFrom}
use Rattle.sym_matching.specs.View.{split_by, stores_view}
use Rattle.sym_matching.proofs.SplitLaws.{found_continues, none_continues}
use Rattle.sym_matching.proofs.ValueLaws.{Given, all_defined}
use Rattle.sym_matching.proofs.items.define.Goals as goal

pub returns-in_ok-next-in-Some : goal.returns-in_ok-next-in-Some
returns-in_ok-next-in-Some c =
    let bs = store_view c.args.store.now in
    let e = expr_view c.args.expression.now in
    let values = split_by term_view c.in_ok-found.field-0 in
    let Gives = Given bs e values c.in_ok-found.ensures c.args.scope.now c.args.name.now in
    ok_to c.behind.result _ (λ x. Alone (λ s. given_outcome c.args.scope.now c.args.name.now (evaluate e s) s) bs (stores_view x) × DefinesPlainly e bs (stores_view x) × DefinitionComesFrom c.args.scope.now c.args.name.now e bs (stores_view x))
    (λ x is. all_defined bs e values c.in_ok-found.ensures c.args.scope.now c.args.name.now (stores_view x)
    (found_continues term_view store_view Gives c.in_ok-found.field-0 c.in-Some.field-0 c.in_ok-next-in-Some.next x c.in-Some.is c.in_ok-next-in-Some.ensures is)) c.behind.ensures

pub returns-in-None : goal.returns-in-None
returns-in-None c =
    let bs = store_view c.args.store.now in
    let e = expr_view c.args.expression.now in
    let values = split_by term_view c.in_ok-found.field-0 in
    let Gives = Given bs e values c.in_ok-found.ensures c.args.scope.now c.args.name.now in
    let whole : Split SymStore = record { found = None; none = c.in_ok-found.field-0.none } in
    all_defined bs e values c.in_ok-found.ensures c.args.scope.now c.args.name.now (stores_view whole) (none_continues term_view store_view Gives c.in_ok-found.field-0 whole c.in-None.is refl)
