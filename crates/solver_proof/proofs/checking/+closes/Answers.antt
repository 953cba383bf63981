use Rattle.std.proofs.Common.{◌≡◌, ◌≤◌, ◌++◌, length, None, IsTrue, ◌↔◌, sym, ap, ◌∙◌, subst, arith, rules}
use Rattle.pure_terms.specs.View.{terms_view}
use Rattle.solver_proof.specs.declared.proofs.Proof
use Rattle.solver_proof.specs.declared.proofs.Proof.{the_lemmas}
use Rattle.solver_proof.specs.Closing.{Closes, CloseEach, equal_lists_at, different_lists_at, element_equalities, element_disequalities}
use Rattle.solver_proof.specs.Lists.{list_view, appended_view}
use Rattle.solver_proof.specs.Pure.{from_list, parts_apart}
use Rattle.solver_proof.specs.View.{proof_view, proofs_view}
use Rattle.solver_proof.proofs.CloseLaws.{never, always, fails, passes, each_length, each_at, each_more, each_whole, not_of_lengths, of_lengths}
use Rattle.solver_proof.proofs.Growing.{past_end}
use Rattle.solver_proof.proofs.Sizes.{size-element}
use Rattle.solver_proof.proofs.Views.{proof_at, length_of, list_view-more, list_view-parts}
use Rattle.solver_proof.proofs.checking.+closes.Goals as goal

pub close_each-returns-then-len-count : goal.close_each-returns-then-len-count
close_each-returns-then-len-count t c = never (λ each.
    let lengths = each_length c.args.vars.now (list_view c.args.list.now) (appended_view c.args.more) (proofs_view c.args.proofs.now) each in
    absurd (grind (arith, lengths, length_of c.args.proofs.now)))

pub close_each-closes-requires : goal.close_each-closes-requires
close_each-closes-requires t c =
    let here = proof_at c.args.proofs.now _ _ _ c.deref-proof-items.ensures.value c.loop-index-test.true c.proof-item.is in
    let smaller = size-element _ c.loop-index.index _ here in
    (omega (arith, smaller), tt)

pub close_each-returns-then-not-closes : goal.close_each-returns-then-not-closes
close_each-returns-then-not-closes t c = never (λ each.
    let here = proof_at c.args.proofs.now _ _ _ c.deref-proof-items.ensures.value c.loop-index-test.true c.proof-item.is in
    let closes = each_at c.args.vars.now (list_view c.args.list.now) (appended_view c.args.more) (proofs_view c.args.proofs.now) c.loop-index.index _ _ (sym c.in-Some.ensures) here each in
    fails c.closes.result c.if-not-closes.true c.closes.ensures (subst (λ atoms. Closes c.args.vars.now atoms (proof_view c.proof-item.result)) (sym (list_view-more c.args.list c.in-Some.fact)) closes))

pub close_each-returns-in-None : goal.close_each-returns-in-None
close_each-returns-in-None t c =
    let past : length (appended_view c.args.more) ≤ c.loop-index.index = past_end _ _ (sym c.in-None.ensures) in
    absurd (grind (arith, past, length_of c.args.proofs.now))

pub close_each-loop-index-preserved : goal.close_each-loop-index-preserved
close_each-loop-index-preserved t c =
    let here = proof_at c.args.proofs.now _ _ _ c.deref-proof-items.ensures.value c.loop-index-test.true c.proof-item.is in
    let closes = subst (λ atoms. Closes c.args.vars.now atoms (proof_view c.proof-item.result)) (list_view-more c.args.list c.in-Some.fact) (passes c.closes.result c.if-not-closes.false c.closes.ensures) in
    each_more c.args.vars.now (list_view c.args.list.now) (appended_view c.args.more) (proofs_view c.args.proofs.now) c.loop-index.index _ _ (sym c.in-Some.ensures) here c.loop-index.invariant closes

pub close_each-returns : goal.close_each-returns
close_each-returns t c =
    let past : length (appended_view c.args.more) ≤ c.loop-index.index = grind (arith, length_of c.args.proofs.now) in
    let ended : length (proofs_view c.args.proofs.now) ≤ c.loop-index.index = grind (arith, length_of c.args.proofs.now) in
    always (each_whole c.args.vars.now (list_view c.args.list.now) (appended_view c.args.more) (proofs_view c.args.proofs.now) c.loop-index.index past ended c.loop-index.invariant)

pub differ_closes-returns-then-len : goal.differ_closes-returns-then-len
differ_closes-returns-then-len t c =
    not_of_lengths (terms_view c.in-Some.lists.left.now) (terms_view c.in-Some.lists.right.now) c.len.result c.len-in-Some.result c.len.ensures c.len-in-Some.ensures (different_lists_at (list_view c.args.list.now) c.args.place) c.in-Some.ensures
    (λ lists. CloseEach c.args.vars.now (list_view c.args.list.now) (element_disequalities lists.left lists.right) (from_list (proofs_view c.args.proofs.now))) c.if-len.true

pub differ_closes-returns-else-len : goal.differ_closes-returns-else-len
differ_closes-returns-else-len t c =
    of_lengths (terms_view c.in-Some.lists.left.now) (terms_view c.in-Some.lists.right.now) c.len.result c.len-in-Some.result c.len.ensures c.len-in-Some.ensures (different_lists_at (list_view c.args.list.now) c.args.place) c.in-Some.ensures
    (λ lists. CloseEach c.args.vars.now (list_view c.args.list.now) (element_disequalities lists.left lists.right) (from_list (proofs_view c.args.proofs.now))) c.close_each.result c.if-len.false c.close_each.ensures

pub parts_close-returns-then-len : goal.parts_close-returns-then-len
parts_close-returns-then-len t c =
    not_of_lengths (terms_view c.in-Some.lists.left.now) (terms_view c.in-Some.lists.right.now) c.len.result c.len-in-Some.result c.len.ensures c.len-in-Some.ensures (equal_lists_at (list_view c.args.list.now) c.args.place) c.in-Some.ensures
    (λ lists. Closes c.args.vars.now (list_view c.args.list.now ++ element_equalities lists.left lists.right) (proof_view c.args.proof.now)) c.if-len.true

pub parts_close-returns-else-len : goal.parts_close-returns-else-len
parts_close-returns-else-len t c =
    let decides = subst (λ atoms. IsTrue c.closes.result ↔ Closes c.args.vars.now atoms (proof_view c.args.proof.now)) (list_view-parts c.args.list c.in-Some.lists.left c.in-Some.lists.right) c.closes.ensures in
    of_lengths (terms_view c.in-Some.lists.left.now) (terms_view c.in-Some.lists.right.now) c.len.result c.len-in-Some.result c.len.ensures c.len-in-Some.ensures (equal_lists_at (list_view c.args.list.now) c.args.place) c.in-Some.ensures
    (λ lists. Closes c.args.vars.now (list_view c.args.list.now ++ element_equalities lists.left lists.right) (proof_view c.args.proof.now)) c.closes.result c.if-len.false decides

pub closes-returns-in-None : goal.closes-returns-in-None
closes-returns-in-None t c =
    let none : proof_view c.args.proof.now ≡ proof_view (Proof.Parts c.in-Parts.place None) = ap proof_view c.in-Parts.is ∙ ap (λ o. proof_view (Proof.Parts c.in-Parts.place o)) c.in-None.is in
    let from : proof_view c.args.proof.now ≡ parts_apart c.in-Parts.place = none ∙ search (rules, the_lemmas) in
    subst (λ p. IsTrue c.parts_apart.result ↔ Closes c.args.vars.now (list_view c.args.list.now) p) (sym from) (c.parts_apart.ensures c.args.vars.now)
