use Rattle.std.proofs.Common.{◌≡◌, sym, ap, ◌∙◌, arith, rules}
use Rattle.gil_values.proofs.Joined.{element_read}
use Rattle.gil_syntax.specs.declared.expressions.Expr
use Rattle.gil_syntax.specs.declared.expressions.Expr.{the_lemmas as expr_lemmas}
use Rattle.gil_syntax.specs.Pure as expr
use Rattle.gil_syntax.specs.View.{expr_view, exprs_view}
use Rattle.pure_terms.specs.declared.terms.Term.{the_lemmas}
use Rattle.pure_terms.specs.Pure.{list_of, from_list}
use Rattle.pure_terms.specs.View.{term_view, terms_view}
use Rattle.solver_print.proofs.Sizes.{size-element}
use Rattle.report_names.specs.Named.{expression_of}
use Rattle.report_names.proofs.Listed.{expressions-from_list}
use Rattle.report_names.proofs.terms.+name.Goals as goal

pub named_term-returns-in_ok-named_terms-in-List : goal.named_term-returns-in_ok-named_terms-in-List
named_term-returns-in_ok-named_terms-in-List t c =
    let names = c.args.names.now in
    let terms = c.in-List.terms in
    let es = c.in_ok-named_terms-in-List.field-0 in
    let seen : term_view c.args.term.now ≡ list_of (from_list (terms_view terms)) = ap term_view c.in-List.is ∙ search (rules, the_lemmas) in
    let shown : expr_view (Expr.List es) ≡ expr.list_of (expr.from_list (exprs_view es)) = search (rules, expr_lemmas) in
    shown ∙ ap (λ xs. expr.list_of (expr.from_list xs)) c.in_ok-named_terms-in-List.ensures
    ∙ sym (ap (expression_of names) seen ∙ ap expr.list_of (expressions-from_list names (terms_view terms)))

pub named_terms-named_term-requires : goal.named_terms-named_term-requires
named_terms-named_term-requires t c =
    let element = element_read term_view _ _ c.loop-term.term-index _ c.as_slice-term-items.ensures c.loop-term-test.true c.term-item.is in
    let smaller = size-element _ c.loop-term.term-index _ element in
    (omega (arith, smaller), tt)
