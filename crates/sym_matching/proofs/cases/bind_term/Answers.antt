use Rattle.std.proofs.Common.{if◌then◌else◌, Some, sym, ap, subst, ◌∙◌}
use Rattle.std.specs.Str.{bytes_eq}
use Rattle.pure_terms.specs.View.{term_view}
use Rattle.sym_evaluation.specs.Pure.{term_at}
use Rattle.sym_evaluation.specs.View.{store_view}
use Rattle.sym_matching.specs.Parts.{BindsTerm}
use Rattle.sym_matching.specs.Splitting.{also}
use Rattle.sym_matching.specs.View.{test_view}
use Rattle.sym_matching.proofs.Binding.{binds_term}
use Rattle.sym_matching.proofs.cases.bind_term.Goals as goal

pub returns : goal.returns
returns c =
    let bs = store_view c.args.store in
    let x = c.args.name.now in
    let t = term_view c.args.term.now in
    subst (BindsTerm c.args.sorts.now x t bs) (sym c.where_met.ensures)
    (binds_term c.args.sorts.now x t bs (store_view c.set.new.self) (test_view c.in_ok-fits.fits) (test_view c.in_ok-test.test)
    (record { says = c.in_ok-fits.ensures.says; over = c.in_ok-fits.ensures.names; decided = c.in_ok-fits.ensures.plain }) c.in_ok-fits.ensures.origin
    (c.in_ok-test.ensures ∙ ap (also (test_view c.in_ok-fits.fits)) c.in_ok-same.ensures)
    (λ y. c.in_ok-set.ensures.ok y ∙ (λ i. if bytes_eq (c.in_ok-copy.ensures i) y then Some (c.in_ok-copy-2.ensures i) else term_at bs y)))
