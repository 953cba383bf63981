use Rattle.std.proofs.Common.{None, true, refl, ap, ◌∙◌}
use Rattle.assert_logic.specs.Matching.{where_same}
use Rattle.gil_syntax.specs.Evaluation.{evaluate}
use Rattle.gil_syntax.specs.View.{expr_view}
use Rattle.gil_values.specs.Pure.{boolean}
use Rattle.pure_terms.specs.View.{term_view}
use Rattle.sym_evaluation.specs.declared.store.SymStore.{SymStore}
use Rattle.sym_evaluation.specs.View.{store_view}
use Rattle.sym_states.proofs.Values.{ok_to}
use Rattle.sym_matching.specs.declared.splits.Split.{Split}
use Rattle.sym_matching.specs.Parts.{Alone, TruthComesFrom}
use Rattle.sym_matching.specs.Plainly.{PureStaysPlain}
use Rattle.sym_matching.specs.Splitting.{where_met}
use Rattle.sym_matching.specs.View.{split_by, test_view, stores_view}
use Rattle.sym_matching.proofs.SplitLaws.{found_continues, none_continues}
use Rattle.sym_matching.proofs.ValueLaws.{WhereTrue, all_assumed}
use Rattle.sym_matching.proofs.items.assume.Goals as goal

pub returns-in_ok-copy-in-Some : goal.returns-in_ok-copy-in-Some
returns-in_ok-copy-in-Some c =
    let bs = store_view c.args.store.now in
    let e = expr_view c.args.expression.now in
    let values = split_by term_view c.in_ok-found.field-0 in
    let True = WhereTrue bs e values c.in_ok-found.ensures in
    ok_to c.behind.result _ (λ x. Alone (λ s. where_same (evaluate e s) (boolean true) s) bs (stores_view x) × PureStaysPlain e bs (stores_view x) × TruthComesFrom e bs (stores_view x))
    (λ x is. all_assumed bs e values c.in_ok-found.ensures (stores_view x)
    (found_continues term_view store_view True c.in_ok-found.field-0 c.in-Some.field-0 c.where_met-next.result x c.in-Some.is
    (test_view c.in_ok-test-in-Some.test, (c.in_ok-test-in-Some.ensures.0, c.in_ok-test-in-Some.ensures.1, c.where_met-next.ensures ∙ ap (where_met (test_view c.in_ok-test-in-Some.test)) c.in_ok-copy-in-Some.ensures)) is)) c.behind.ensures

pub returns-in-None : goal.returns-in-None
returns-in-None c =
    let bs = store_view c.args.store.now in
    let e = expr_view c.args.expression.now in
    let values = split_by term_view c.in_ok-found.field-0 in
    let True = WhereTrue bs e values c.in_ok-found.ensures in
    let whole : Split SymStore = record { found = None; none = c.in_ok-found.field-0.none } in
    all_assumed bs e values c.in_ok-found.ensures (stores_view whole) (none_continues term_view store_view True c.in_ok-found.field-0 whole c.in-None.is refl)
