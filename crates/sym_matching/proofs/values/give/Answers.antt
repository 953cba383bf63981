use Rattle.std.proofs.Common.{if◌then◌else◌, Some, sym, subst, ◌∙◌}
use Rattle.std.specs.Str.{bytes_eq}
use Rattle.pure_terms.specs.View.{term_view}
use Rattle.sym_evaluation.specs.Pure.{term_at}
use Rattle.sym_evaluation.specs.View.{store_view}
use Rattle.sym_matching.specs.Parts.{GivesTerm}
use Rattle.sym_matching.specs.View.{test_view}
use Rattle.sym_matching.proofs.Binding.{gives_term}
use Rattle.sym_matching.proofs.values.give.Goals as goal

pub returns : goal.returns
returns c =
    let bs = store_view c.args.store.now in
    let x = c.args.name.now in
    let t = term_view c.args.term.now in
    subst (GivesTerm c.args.scope.now x t bs) (sym c.where_met.ensures)
    (gives_term c.args.scope.now x t bs (store_view c.set.new.self) (test_view c.in_ok-test.test) (sym c.is_declared.ensures ∙ c.if-not-is_declared.false)
    (record { says = c.in_ok-test.ensures.says; over = c.in_ok-test.ensures.names; decided = c.in_ok-test.ensures.plain }) c.in_ok-test.ensures.origin
    (λ y. c.in_ok-set.ensures.ok y ∙ (λ i. if bytes_eq (c.in_ok-copy.ensures i) y then Some (c.in_ok-copy-2.ensures i) else term_at (c.in_ok-given.ensures i) y)))
