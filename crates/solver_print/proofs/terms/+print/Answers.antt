use Rattle.std.proofs.Common.{◌≡◌, ◌++◌, string_bytes, Some, map, slice_get, sym, ap, ◌∙◌, arith, rules}
use Rattle.std.specs.Prelude.{codes}
use Rattle.std.specs.Option.{option_map}
use Rattle.std.proofs.lemmas.Option.{slice_get-map}
use Rattle.gil_syntax.specs.Pure as expr
use Rattle.pure_terms.specs.declared.terms.Term.{the_lemmas}
use Rattle.pure_terms.specs.Pure.{list_of, unary_of, binary_of, from_list}
use Rattle.pure_terms.specs.View.{term_view, terms_view}
use Rattle.gil_values.proofs.Joined.{element_read, pushed}
use Rattle.syntax_print.specs.Expressions.{printed_expr}
use Rattle.syntax_print.proofs.Forms.{list_added, unary_added, binary_added}
use Rattle.solver_print.specs.Terms.{expr_of}
use Rattle.solver_print.proofs.Sizes.{exprs-from_list, size-element}
use Rattle.solver_print.proofs.terms.+print.Goals as goal

pub push_term-returns-in_ok-push_str-in-List-2 : goal.push_term-returns-in_ok-push_str-in-List-2
push_term-returns-in_ok-push_str-in-List-2 t c =
    let names = c.args.names.now in
    let seen : term_view c.args.term.now ≡ list_of (from_list (terms_view c.in-List.terms)) = ap term_view c.in-List.is ∙ search (rules, the_lemmas) in
    let as_list = ap (expr_of names) seen ∙ ap expr.list_of (exprs-from_list names (terms_view c.in-List.terms)) in
    list_added _ _ _ _ _ _ as_list c.in_ok-push_str-in-List.ensures.bytes c.in_ok-push_terms-in-List.ensures c.in_ok-push_str-in-List-2.ensures.bytes

pub push_term-returns-in_ok-push_str-in-Op1-3 : goal.push_term-returns-in_ok-push_str-in-Op1-3
push_term-returns-in_ok-push_str-in-Op1-3 t c =
    let op = c.in-Op1.op in
    let names = c.args.names.now in
    let seen : term_view c.args.term.now ≡ unary_of op (term_view c.in-Op1.operand.value) = ap term_view c.in-Op1.is ∙ search (rules, the_lemmas) in
    let read : term_view c.args.term.now ≡ unary_of op (term_view c.deref.result.now) = seen ∙ ap (λ e. unary_of op (term_view e)) (sym c.deref.ensures) in
    unary_added _ op _ _ _ _ _ _ (ap (expr_of names) read)
    (c.in_ok-push_str-in-Op1.ensures.bytes ∙ ap (λ text. string_bytes c.args.out.now ++ text) c.unary_name.ensures)
    c.in_ok-push_str-in-Op1-2.ensures.bytes c.in_ok-push_term-in-Op1.ensures c.in_ok-push_str-in-Op1-3.ensures.bytes

pub push_term-returns-in_ok-push_str-in-Op2-3 : goal.push_term-returns-in_ok-push_str-in-Op2-3
push_term-returns-in_ok-push_str-in-Op2-3 t c =
    let op = c.in-Op2.op in
    let names = c.args.names.now in
    let seen : term_view c.args.term.now ≡ binary_of op (term_view c.in-Op2.left.value) (term_view c.in-Op2.right.value) = ap term_view c.in-Op2.is ∙ search (rules, the_lemmas) in
    let read : term_view c.args.term.now ≡ binary_of op (term_view c.deref-in-Op2.result.now) (term_view c.deref-in-Op2-2.result.now) =
    seen ∙ ap (λ e. binary_of op (term_view e) (term_view c.in-Op2.right.value)) (sym c.deref-in-Op2.ensures)
    ∙ ap (λ e. binary_of op (term_view c.deref-in-Op2.result.now) (term_view e)) (sym c.deref-in-Op2-2.ensures) in
    binary_added _ op _ _ _ _ _ _ _ _ (ap (expr_of names) read)
    (c.in_ok-push_str-in-Op2.ensures.bytes ∙ ap (λ text. string_bytes c.args.out.now ++ text) c.before_operands.ensures)
    c.in_ok-push_term-in-Op2.ensures
    (c.in_ok-push_str-in-Op2-2.ensures.bytes ∙ ap (λ text. string_bytes c.push_term-in-Op2.new.out ++ text) c.between_operands.ensures)
    c.in_ok-push_term-in-Op2-2.ensures c.in_ok-push_str-in-Op2-3.ensures.bytes

pub push_terms-push_term-requires : goal.push_terms-push_term-requires
push_terms-push_term-requires t c =
    let element = element_read term_view _ _ c.loop-index.index _ c.as_slice-term-items.ensures c.loop-index-test.true c.term-item.is in
    let smaller = size-element _ c.loop-index.index _ element in
    (omega (arith, smaller), tt)

pub push_terms-loop-index-preserved : goal.push_terms-loop-index-preserved
push_terms-loop-index-preserved t c =
    let names = c.args.names.now in
    let element = element_read term_view _ _ c.loop-index.index _ c.as_slice-term-items.ensures c.loop-index-test.true c.term-item.is in
    let printed : slice_get (map (expr_of names) (terms_view c.args.terms.now)) c.loop-index.index ≡ Some (expr_of names (term_view c.term-item.result)) =
    slice_get-map (expr_of names) (terms_view c.args.terms.now) c.loop-index.index ∙ ap (option_map (expr_of names)) element in
    pushed printed_expr (codes ", ") _ c.loop-index.index _ _ _ _ _ printed c.loop-index.invariant c.in_ok-push_separator.ensures c.in_ok-push_term.ensures
