use Rattle.std.proofs.Common.{None, refl, ◌∙◌}
use Rattle.assert_logic.specs.Matching.{where_same}
use Rattle.gil_syntax.specs.Evaluation.{evaluate}
use Rattle.gil_syntax.specs.View.{expr_view}
use Rattle.pure_terms.specs.View.{term_view}
use Rattle.sym_evaluation.specs.declared.store.SymStore.{SymStore}
use Rattle.sym_evaluation.specs.View.{store_view}
use Rattle.sym_states.proofs.Values.{ok_to}
use Rattle.sym_matching.specs.declared.splits.Split.{Split}
use Rattle.sym_matching.specs.Parts.{ByTerm, KnownComesFrom}
use Rattle.sym_matching.specs.Plainly.{TermStaysPlain}
use Rattle.sym_matching.specs.Splitting.{where_met}
use Rattle.sym_matching.specs.View.{split_by, stores_view}
use Rattle.sym_matching.proofs.SplitLaws.{found_continues, none_continues}
use Rattle.sym_matching.proofs.ValueLaws.{SameAs, all_known}
use Rattle.sym_matching.proofs.values.match_known.Goals as goal

pub returns-in_ok-copy-in-Some : goal.returns-in_ok-copy-in-Some
returns-in_ok-copy-in-Some c =
    let bs = store_view c.args.store.now in
    let e = expr_view c.args.expression.now in
    let t = term_view c.args.term.now in
    let values = split_by term_view c.in_ok-found.field-0 in
    let Same = SameAs bs e values c.in_ok-found.ensures t in
    ok_to c.behind.result _ (λ x. ByTerm t (λ w s. where_same (evaluate e s) w s) bs (stores_view x) × TermStaysPlain e t bs (stores_view x) × KnownComesFrom e t bs (stores_view x))
    (λ x is. all_known bs e values c.in_ok-found.ensures t (stores_view x)
    (found_continues term_view store_view Same c.in_ok-found.field-0 c.in-Some.field-0 c.where_met-next.result x c.in-Some.is
    (c.where_met-next.ensures ∙ (λ i. where_met (c.in_ok-test-in-Some.ensures i) (c.in_ok-copy-in-Some.ensures i))) is)) c.behind.ensures

pub returns-in-None : goal.returns-in-None
returns-in-None c =
    let bs = store_view c.args.store.now in
    let e = expr_view c.args.expression.now in
    let t = term_view c.args.term.now in
    let values = split_by term_view c.in_ok-found.field-0 in
    let Same = SameAs bs e values c.in_ok-found.ensures t in
    let whole : Split SymStore = record { found = None; none = c.in_ok-found.field-0.none } in
    all_known bs e values c.in_ok-found.ensures t (stores_view whole) (none_continues term_view store_view Same c.in_ok-found.field-0 whole c.in-None.is refl)
