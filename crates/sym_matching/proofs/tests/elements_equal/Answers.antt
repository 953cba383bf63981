use Rattle.std.proofs.Common.{◌≡◌, ◌+◌, ◌++◌, [], ◌∷◌, ◌≤◌, take, length, sym, ap, subst, ◌∙◌}
use Rattle.pure_terms.specs.View.{term_view, terms_view}
use Rattle.sym_matching.specs.Matching.{TestsElements}
use Rattle.sym_matching.specs.Origins.{TestComesFrom, AsksElements}
use Rattle.sym_matching.specs.Splitting.{also}
use Rattle.sym_matching.specs.View.{test_view}
use Rattle.sym_states.proofs.Values.{ok_to}
use Rattle.sym_matching.proofs.Reading.{seen_length, seen_next, below_other, taken_lengths}
use Rattle.sym_matching.proofs.TestLists.{AreElements, elements_step, elements_unlike, elements_whole}
use Rattle.sym_matching.proofs.tests.elements_equal.Goals as goal

pub returns-then-len-clause-says : goal.returns-then-len-clause-says
returns-then-len-clause-says c =
    let ss = terms_view c.args.left.now in
    let ts = terms_view c.args.right.now in
    ok_to c.failed.result _ (λ x. TestsElements ss ts (test_view x))
    (λ x is. subst (λ t. TestsElements ss ts t) (sym is) (elements_unlike ss ts (λ same. c.if-len.true (c.len.ensures ∙ same ∙ sym c.len-2.ensures))).says) c.failed.ensures

pub returns-then-len-clause-origin : goal.returns-then-len-clause-origin
returns-then-len-clause-origin c =
    let ss = terms_view c.args.left.now in
    let ts = terms_view c.args.right.now in
    ok_to c.failed.result _ (λ x. TestComesFrom (AsksElements ss ts) (test_view x))
    (λ x is. subst (TestComesFrom (AsksElements ss ts)) (sym is) (elements_unlike ss ts (λ same. c.if-len.true (c.len.ensures ∙ same ∙ sym c.len-2.ensures))).from) c.failed.ensures

pub loop-index-preserved : goal.loop-index-preserved
loop-index-preserved c =
    let i = c.loop-index.index in
    let ss = terms_view c.args.left.now in
    let ts = terms_view c.args.right.now in
    let same : length ss ≡ length ts = sym c.len.ensures ∙ c.if-len.false ∙ c.len-2.ensures in
    let items = c.as_slice-term-items.result.now in
    let others = c.as_slice-others.result.now in
    let first : take (i + 1) ss ≡ take i ss ++ term_view c.term-item.result ∷ [] = seen_next term_view items ss c.as_slice-term-items.ensures i c.term-item.result c.loop-index-test.true c.term-item.is in
    let second : take (i + 1) ts ≡ take i ts ++ term_view c.index-others-index.result ∷ []
    = seen_next term_view others ts c.as_slice-others.ensures i c.index-others-index.result (below_other term_view term_view items others ss ts i c.as_slice-term-items.ensures c.as_slice-others.ensures same c.loop-index-test.true) c.index-others-index.is in
    subst (λ xs. AreElements xs (take (i + 1) ts) (test_view c.in_ok-test.test)) (sym first)
    (subst (λ ys. AreElements (take i ss ++ term_view c.term-item.result ∷ []) ys (test_view c.in_ok-test.test)) (sym second)
    (elements_step (take i ss) (take i ts) (term_view c.term-item.result) (term_view c.index-others-index.result) (test_view c.loop-index.test) (test_view c.in_ok-test.test) (taken_lengths ss ts i same) c.loop-index.invariant
    (c.in_ok-test.ensures ∙ ap (also (test_view c.loop-index.test)) c.in_ok-equal.ensures)))

pub returns-clause-names : goal.returns-clause-names
returns-clause-names c =
    let i = c.loop-index.index in
    let ss = terms_view c.args.left.now in
    let ts = terms_view c.args.right.now in
    let same : length ss ≡ length ts = sym c.len.ensures ∙ c.if-len.false ∙ c.len-2.ensures in
    let past : length ss ≤ i = subst (λ n. n ≤ i) (seen_length term_view c.as_slice-term-items.result.now ss c.as_slice-term-items.ensures) c.loop-index-test.false in
    (elements_whole ss ts i (test_view c.loop-index.test) past (subst (λ n. n ≤ i) same past) c.loop-index.invariant).over

pub returns-clause-origin : goal.returns-clause-origin
returns-clause-origin c =
    let i = c.loop-index.index in
    let ss = terms_view c.args.left.now in
    let ts = terms_view c.args.right.now in
    let same : length ss ≡ length ts = sym c.len.ensures ∙ c.if-len.false ∙ c.len-2.ensures in
    let past : length ss ≤ i = subst (λ n. n ≤ i) (seen_length term_view c.as_slice-term-items.result.now ss c.as_slice-term-items.ensures) c.loop-index-test.false in
    (elements_whole ss ts i (test_view c.loop-index.test) past (subst (λ n. n ≤ i) same past) c.loop-index.invariant).from
