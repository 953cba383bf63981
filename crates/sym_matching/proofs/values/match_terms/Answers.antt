use Rattle.std.proofs.Common.{◌≡◌, ◌+◌, ◌++◌, [], ◌∷◌, ◌≤◌, take, length, sym, ap, subst, ◌∙◌}
use Rattle.std.proofs.lemmas.List.{take_all}
use Rattle.gil_syntax.specs.View.{expr_view, exprs_view}
use Rattle.pure_terms.specs.View.{term_view, terms_view}
use Rattle.sym_evaluation.specs.View.{store_view}
use Rattle.sym_evaluation.proofs.Sizes.{element_spellable}
use Rattle.sym_states.proofs.Values.{ok_to}
use Rattle.sym_matching.specs.Matching.{SplitsValues, StoresStayOver}
use Rattle.sym_matching.specs.Origins.{ValuesComeFrom}
use Rattle.sym_matching.specs.Plainly.{TermsStayPlain}
use Rattle.sym_matching.specs.Splitting.{sure}
use Rattle.sym_matching.specs.View.{stores_view}
use Rattle.sym_matching.proofs.Reading.{seen_length, seen_at, seen_next, below_other, taken_lengths}
use Rattle.sym_matching.proofs.StoreLaws.{MatchesTerms, terms_begin, terms_step, terms_differ}
use Rattle.sym_matching.proofs.values.match_terms.Goals as goal

pub returns-then-len-clause-says : goal.returns-then-len-clause-says
returns-then-len-clause-says c =
    let bs = store_view c.args.store.now in
    let es = exprs_view c.args.expressions.now in
    let ts = terms_view c.args.terms.now in
    ok_to c.no_store.result _ (λ x. SplitsValues c.args.scope.now es ts bs (stores_view x))
    (λ x is. subst (SplitsValues c.args.scope.now es ts bs) (sym is) (terms_differ c.args.scope.now bs es ts (λ same. c.if-len.true (c.len.ensures ∙ same ∙ sym c.len-2.ensures))).stores.says) c.no_store.ensures

pub returns-then-len-clause-names : goal.returns-then-len-clause-names
returns-then-len-clause-names c =
    let bs = store_view c.args.store.now in
    let es = exprs_view c.args.expressions.now in
    let ts = terms_view c.args.terms.now in
    ok_to c.no_store.result _ (λ x. StoresStayOver bs ts (stores_view x))
    (λ x is. subst (StoresStayOver bs ts) (sym is) (terms_differ c.args.scope.now bs es ts (λ same. c.if-len.true (c.len.ensures ∙ same ∙ sym c.len-2.ensures))).stores.over) c.no_store.ensures

pub returns-then-len-clause-plain : goal.returns-then-len-clause-plain
returns-then-len-clause-plain c =
    let bs = store_view c.args.store.now in
    let es = exprs_view c.args.expressions.now in
    let ts = terms_view c.args.terms.now in
    ok_to c.no_store.result _ (λ x. TermsStayPlain es ts bs (stores_view x))
    (λ x is. subst (TermsStayPlain es ts bs) (sym is) (terms_differ c.args.scope.now bs es ts (λ same. c.if-len.true (c.len.ensures ∙ same ∙ sym c.len-2.ensures))).plain) c.no_store.ensures

pub returns-then-len-clause-origin : goal.returns-then-len-clause-origin
returns-then-len-clause-origin c =
    let bs = store_view c.args.store.now in
    let es = exprs_view c.args.expressions.now in
    let ts = terms_view c.args.terms.now in
    ok_to c.no_store.result _ (λ x. ValuesComeFrom c.args.scope.now es ts bs (stores_view x))
    (λ x is. subst (ValuesComeFrom c.args.scope.now es ts bs) (sym is) (terms_differ c.args.scope.now bs es ts (λ same. c.if-len.true (c.len.ensures ∙ same ∙ sym c.len-2.ensures))).from) c.no_store.ensures

pub loop-index-init : goal.loop-index-init
loop-index-init c =
    let bs = store_view c.args.store.now in
    subst (MatchesTerms c.args.scope.now [] [] bs) (sym (c.sure_store-split.ensures ∙ ap sure c.in_ok-copy.ensures)) (terms_begin c.args.scope.now bs)

pub match_next-requires : goal.match_next-requires
match_next-requires c =
    let es = exprs_view c.args.expressions.now in
    element_spellable es c.loop-index.index (expr_view c.expression-item.result) c.requires
    (seen_at expr_view c.as_slice-expression-items.result.now es c.as_slice-expression-items.ensures c.loop-index.index c.expression-item.result c.loop-index-test.true c.expression-item.is)

pub loop-index-preserved : goal.loop-index-preserved
loop-index-preserved c =
    let i = c.loop-index.index in
    let scope = c.args.scope.now in
    let bs = store_view c.args.store.now in
    let es = exprs_view c.args.expressions.now in
    let ts = terms_view c.args.terms.now in
    let items = c.as_slice-expression-items.result.now in
    let others = c.as_slice-terms.result.now in
    let same : length es ≡ length ts = sym c.len.ensures ∙ c.if-len.false ∙ c.len-2.ensures in
    let e = expr_view c.expression-item.result in
    let t = term_view c.index-terms-index.result in
    let first : take (i + 1) es ≡ take i es ++ e ∷ [] = seen_next expr_view items es c.as_slice-expression-items.ensures i c.expression-item.result c.loop-index-test.true c.expression-item.is in
    let second : take (i + 1) ts ≡ take i ts ++ t ∷ []
    = seen_next term_view others ts c.as_slice-terms.ensures i c.index-terms-index.result (below_other expr_view term_view items others es ts i c.as_slice-expression-items.ensures c.as_slice-terms.ensures same c.loop-index-test.true) c.index-terms-index.is in
    subst (λ xs. MatchesTerms scope xs (take (i + 1) ts) bs (stores_view c.in_ok-split.split)) (sym first)
    (subst (λ ys. MatchesTerms scope (take i es ++ e ∷ []) ys bs (stores_view c.in_ok-split.split)) (sym second)
    (terms_step scope bs (take i es) (take i ts) e t (stores_view c.loop-index.split) (stores_view c.in_ok-split.split) (taken_lengths es ts i same) c.loop-index.invariant c.in_ok-split.ensures))

pub returns-clause-says : goal.returns-clause-says
returns-clause-says c =
    let i = c.loop-index.index in
    let scope = c.args.scope.now in
    let bs = store_view c.args.store.now in
    let es = exprs_view c.args.expressions.now in
    let ts = terms_view c.args.terms.now in
    let same : length es ≡ length ts = sym c.len.ensures ∙ c.if-len.false ∙ c.len-2.ensures in
    let past : length es ≤ i = subst (λ n. n ≤ i) (seen_length expr_view c.as_slice-expression-items.result.now es c.as_slice-expression-items.ensures) c.loop-index-test.false in
    let whole : MatchesTerms scope es ts bs (stores_view c.loop-index.split)
    = subst (λ xs. MatchesTerms scope xs ts bs (stores_view c.loop-index.split)) (take_all i es past)
    (subst (λ ys. MatchesTerms scope (take i es) ys bs (stores_view c.loop-index.split)) (take_all i ts (subst (λ n. n ≤ i) same past)) c.loop-index.invariant) in
    whole.stores.says

pub returns-clause-names : goal.returns-clause-names
returns-clause-names c =
    let i = c.loop-index.index in
    let scope = c.args.scope.now in
    let bs = store_view c.args.store.now in
    let es = exprs_view c.args.expressions.now in
    let ts = terms_view c.args.terms.now in
    let same : length es ≡ length ts = sym c.len.ensures ∙ c.if-len.false ∙ c.len-2.ensures in
    let past : length es ≤ i = subst (λ n. n ≤ i) (seen_length expr_view c.as_slice-expression-items.result.now es c.as_slice-expression-items.ensures) c.loop-index-test.false in
    let whole : MatchesTerms scope es ts bs (stores_view c.loop-index.split)
    = subst (λ xs. MatchesTerms scope xs ts bs (stores_view c.loop-index.split)) (take_all i es past)
    (subst (λ ys. MatchesTerms scope (take i es) ys bs (stores_view c.loop-index.split)) (take_all i ts (subst (λ n. n ≤ i) same past)) c.loop-index.invariant) in
    whole.stores.over

pub returns-clause-plain : goal.returns-clause-plain
returns-clause-plain c =
    let i = c.loop-index.index in
    let scope = c.args.scope.now in
    let bs = store_view c.args.store.now in
    let es = exprs_view c.args.expressions.now in
    let ts = terms_view c.args.terms.now in
    let same : length es ≡ length ts = sym c.len.ensures ∙ c.if-len.false ∙ c.len-2.ensures in
    let past : length es ≤ i = subst (λ n. n ≤ i) (seen_length expr_view c.as_slice-expression-items.result.now es c.as_slice-expression-items.ensures) c.loop-index-test.false in
    let whole : MatchesTerms scope es ts bs (stores_view c.loop-index.split)
    = subst (λ xs. MatchesTerms scope xs ts bs (stores_view c.loop-index.split)) (take_all i es past)
    (subst (λ ys. MatchesTerms scope (take i es) ys bs (stores_view c.loop-index.split)) (take_all i ts (subst (λ n. n ≤ i) same past)) c.loop-index.invariant) in
    whole.plain

pub returns-clause-origin : goal.returns-clause-origin
returns-clause-origin c =
    let i = c.loop-index.index in
    let scope = c.args.scope.now in
    let bs = store_view c.args.store.now in
    let es = exprs_view c.args.expressions.now in
    let ts = terms_view c.args.terms.now in
    let same : length es ≡ length ts = sym c.len.ensures ∙ c.if-len.false ∙ c.len-2.ensures in
    let past : length es ≤ i = subst (λ n. n ≤ i) (seen_length expr_view c.as_slice-expression-items.result.now es c.as_slice-expression-items.ensures) c.loop-index-test.false in
    let whole : MatchesTerms scope es ts bs (stores_view c.loop-index.split)
    = subst (λ xs. MatchesTerms scope xs ts bs (stores_view c.loop-index.split)) (take_all i es past)
    (subst (λ ys. MatchesTerms scope (take i es) ys bs (stores_view c.loop-index.split)) (take_all i ts (subst (λ n. n ≤ i) same past)) c.loop-index.invariant) in
    whole.from
