use Rattle.std.proofs.Common.{◌≤◌, take, length, sym, subst}
use Rattle.std.proofs.lemmas.List.{take_all}
use Rattle.gil_syntax.specs.View.{expr_view, exprs_view}
use Rattle.sym_evaluation.specs.View.{store_view}
use Rattle.sym_evaluation.proofs.Sizes.{element_spellable}
use Rattle.sym_matching.specs.View.{known_view}
use Rattle.sym_matching.proofs.KnownLaws.{AreKnown, known_step}
use Rattle.sym_matching.proofs.Reading.{seen_length, seen_at, seen_next}
use Rattle.sym_matching.proofs.outs.known_outs.Goals as goal

pub add_out-requires : goal.add_out-requires
add_out-requires c =
    let es = exprs_view c.args.outs.now in
    element_spellable es c.loop-out.out-index (expr_view c.out-item.result) c.requires
    (seen_at expr_view c.as_slice-out-items.result.now es c.as_slice-out-items.ensures c.loop-out.out-index c.out-item.result c.loop-out-test.true c.out-item.is)

pub loop-out-preserved : goal.loop-out-preserved
loop-out-preserved c =
    let bs = store_view c.args.store.now in
    let es = exprs_view c.args.outs.now in
    let i = c.loop-out.out-index in
    subst (λ xs. AreKnown bs xs (known_view c.in_ok-split.split)) (sym (seen_next expr_view c.as_slice-out-items.result.now es c.as_slice-out-items.ensures i c.out-item.result c.loop-out-test.true c.out-item.is))
    (known_step bs (take i es) (expr_view c.out-item.result) (known_view c.loop-out.split) (known_view c.in_ok-split.split) c.loop-out.invariant c.in_ok-split.ensures)

pub returns-clause-plain : goal.returns-clause-plain
returns-clause-plain c =
    let i = c.loop-out.out-index in
    let bs = store_view c.args.store.now in
    let es = exprs_view c.args.outs.now in
    let split = known_view c.loop-out.split in
    let past : length es ≤ i = subst (λ n. n ≤ i) (seen_length expr_view c.as_slice-out-items.result.now es c.as_slice-out-items.ensures) c.loop-out-test.false in
    let whole : AreKnown bs es split = subst (λ xs. AreKnown bs xs split) (take_all i es past) c.loop-out.invariant in
    whole.plain

pub returns-clause-origin : goal.returns-clause-origin
returns-clause-origin c =
    let i = c.loop-out.out-index in
    let bs = store_view c.args.store.now in
    let es = exprs_view c.args.outs.now in
    let split = known_view c.loop-out.split in
    let past : length es ≤ i = subst (λ n. n ≤ i) (seen_length expr_view c.as_slice-out-items.result.now es c.as_slice-out-items.ensures) c.loop-out-test.false in
    let whole : AreKnown bs es split = subst (λ xs. AreKnown bs xs split) (take_all i es past) c.loop-out.invariant in
    whole.from
