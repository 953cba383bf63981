use Rattle.std.proofs.Common.{◌≡◌, ◌+◌, ◌++◌, [], ◌∷◌, ◌≤◌, take, length, sym, ap, subst, ◌∙◌}
use Rattle.std.specs.Option.{option_map}
use Rattle.std.proofs.lemmas.List.{length-map}
use Rattle.pure_terms.specs.View.{term_view, terms_view}
use Rattle.sym_matching.specs.Matching.{TestsOuts}
use Rattle.sym_matching.specs.Origins.{TestComesFrom, AsksOuts}
use Rattle.sym_matching.specs.Splitting.{also}
use Rattle.sym_matching.specs.View.{test_view, outs_view}
use Rattle.sym_states.proofs.Values.{ok_to}
use Rattle.sym_matching.proofs.Reading.{seen_length, seen_next, below_other, taken_lengths}
use Rattle.sym_matching.proofs.TestLists.{DoOutsAgree, agreement_step, agreement_unlike, agreement_whole}
use Rattle.sym_matching.proofs.tests.outs_agree.Goals as goal

pub returns-then-len-clause-says : goal.returns-then-len-clause-says
returns-then-len-clause-says c =
    let ks = outs_view c.args.known.now in
    let ts = terms_view c.args.outs.now in
    ok_to c.failed.result _ (λ x. TestsOuts ks ts (test_view x))
    (λ x is. subst (λ t. TestsOuts ks ts t) (sym is) (agreement_unlike ks ts (λ same. c.if-len.true (c.len.ensures ∙ sym (length-map c.args.known.now (option_map term_view)) ∙ same ∙ sym c.len-2.ensures))).says) c.failed.ensures

pub returns-then-len-clause-origin : goal.returns-then-len-clause-origin
returns-then-len-clause-origin c =
    let ks = outs_view c.args.known.now in
    let ts = terms_view c.args.outs.now in
    ok_to c.failed.result _ (λ x. TestComesFrom (AsksOuts ks ts) (test_view x))
    (λ x is. subst (TestComesFrom (AsksOuts ks ts)) (sym is) (agreement_unlike ks ts (λ same. c.if-len.true (c.len.ensures ∙ sym (length-map c.args.known.now (option_map term_view)) ∙ same ∙ sym c.len-2.ensures))).from) c.failed.ensures

pub loop-index-preserved : goal.loop-index-preserved
loop-index-preserved c =
    let i = c.loop-index.index in
    let ks = outs_view c.args.known.now in
    let ts = terms_view c.args.outs.now in
    let same : length ks ≡ length ts = (length-map c.args.known.now (option_map term_view) ∙ sym c.len.ensures) ∙ c.if-len.false ∙ c.len-2.ensures in
    let items = c.as_slice-known-items.result.now in
    let others = c.as_slice-terms.result.now in
    let first : take (i + 1) ks ≡ take i ks ++ option_map term_view c.known-item.result ∷ [] = seen_next (option_map term_view) items ks (ap outs_view c.as_slice-known-items.ensures) i c.known-item.result c.loop-index-test.true c.known-item.is in
    let second : take (i + 1) ts ≡ take i ts ++ term_view c.index-terms-index.result ∷ []
    = seen_next term_view others ts c.as_slice-terms.ensures i c.index-terms-index.result (below_other (option_map term_view) term_view items others ks ts i (ap outs_view c.as_slice-known-items.ensures) c.as_slice-terms.ensures same c.loop-index-test.true) c.index-terms-index.is in
    subst (λ xs. DoOutsAgree xs (take (i + 1) ts) (test_view c.in_ok-test.test)) (sym first)
    (subst (λ ys. DoOutsAgree (take i ks ++ option_map term_view c.known-item.result ∷ []) ys (test_view c.in_ok-test.test)) (sym second)
    (agreement_step (take i ks) (take i ts) (option_map term_view c.known-item.result) (term_view c.index-terms-index.result) (test_view c.loop-index.test) (test_view c.in_ok-test.test) (taken_lengths ks ts i same) c.loop-index.invariant
    (c.in_ok-test.ensures ∙ ap (also (test_view c.loop-index.test)) c.in_ok-agrees.ensures)))

pub returns-clause-names : goal.returns-clause-names
returns-clause-names c =
    let i = c.loop-index.index in
    let ks = outs_view c.args.known.now in
    let ts = terms_view c.args.outs.now in
    let same : length ks ≡ length ts = (length-map c.args.known.now (option_map term_view) ∙ sym c.len.ensures) ∙ c.if-len.false ∙ c.len-2.ensures in
    let past : length ks ≤ i = subst (λ n. n ≤ i) (seen_length (option_map term_view) c.as_slice-known-items.result.now ks (ap outs_view c.as_slice-known-items.ensures)) c.loop-index-test.false in
    (agreement_whole ks ts i (test_view c.loop-index.test) past (subst (λ n. n ≤ i) same past) c.loop-index.invariant).over

pub returns-clause-origin : goal.returns-clause-origin
returns-clause-origin c =
    let i = c.loop-index.index in
    let ks = outs_view c.args.known.now in
    let ts = terms_view c.args.outs.now in
    let same : length ks ≡ length ts = (length-map c.args.known.now (option_map term_view) ∙ sym c.len.ensures) ∙ c.if-len.false ∙ c.len-2.ensures in
    let past : length ks ≤ i = subst (λ n. n ≤ i) (seen_length (option_map term_view) c.as_slice-known-items.result.now ks (ap outs_view c.as_slice-known-items.ensures)) c.loop-index-test.false in
    (agreement_whole ks ts i (test_view c.loop-index.test) past (subst (λ n. n ≤ i) same past) c.loop-index.invariant).from
