use Rattle.std.proofs.Common.{◌≡◌, ◌++◌, sym, ap, subst, ◌∙◌}
use Rattle.checked_paths.specs.View.{passed_view}
use Rattle.sym_model.specs.Alternatives.{alternatives_view}
use Rattle.sym_evaluation.specs.View.{store_view}
use Rattle.sym_model.specs.View.{uses_view}
use Rattle.sym_states.specs.View.{facts_view}
use Rattle.invariant_rows.specs.Asked.{AreComparisons}
use Rattle.invariant_rows.proofs.AskedLaws.{joined_comparisons}
use Rattle.invariant_rows.specs.Differing.{TellsDifference, TellsFacts, TellsHeaps}
use Rattle.invariant_rows.specs.View.{difference_view}
use Rattle.invariant_rows.proofs.DifferenceLaws.{tells_difference}
use Rattle.invariant_rows.proofs.differing.compare.Goals as goal

pub returns-clause-tells : goal.returns-clause-tells
returns-clause-tells g c =
    let stands = g.M.SymMemory.stands in
    let terms = g.M.SymMemory.terms in
    let facts = facts_view c.args.facts.now in
    let bs = store_view c.args.unlisted.now in
    let former = passed_view c.args.former.now in
    let us = uses_view c.in_ok-listed.listed in
    let ts = uses_view c.in_ok-before.before in
    let heaps = difference_view c.in_ok-heaps.heaps in
    let of_facts = alternatives_view c.in_ok-of_facts.of_facts in
    let of_values = alternatives_view c.in_ok-of_values.of_values in
    let tell_heaps : TellsHeaps us ts heaps = subst (λ k. TellsHeaps (uses_view k) ts heaps) c.as_slice.ensures (subst (λ k. TellsHeaps (uses_view c.as_slice.result.now) (uses_view k) heaps) c.as_slice-2.ensures c.in_ok-heaps.ensures.tells) in
    let tell_facts : TellsFacts facts former.facts of_facts =
    subst (λ k. TellsFacts (facts_view k) former.facts of_facts) c.as_slice-3.ensures (subst (λ k. TellsFacts (facts_view c.as_slice-3.result.now) (facts_view k) of_facts) c.as_slice-4.ensures c.in_ok-of_facts.ensures.tells) in
    let are : alternatives_view c.in_ok-alternatives-2.alternatives ≡ (of_values ++ of_facts) ++ heaps.alternatives = c.in_ok-alternatives-2.ensures ∙ ap (λ x. x ++ heaps.alternatives) c.in_ok-alternatives.ensures in
    subst (λ x. TellsDifference stands terms c.args.memory.now facts bs former (record { alternatives = x; unclear = heaps.unclear })) (sym are)
    (tells_difference stands terms c.args.memory.now facts bs former us ts c.in_ok-listed.ensures.lists c.in_ok-before.ensures.lists c.in_ok-listed.ensures.among c.in_ok-before.ensures.among heaps of_facts of_values tell_heaps tell_facts c.in_ok-of_values.ensures.tells)

pub returns-clause-asked : goal.returns-clause-asked
returns-clause-asked g c =
    let heaps = difference_view c.in_ok-heaps.heaps in
    let of_facts = alternatives_view c.in_ok-of_facts.of_facts in
    let of_values = alternatives_view c.in_ok-of_values.of_values in
    let are : alternatives_view c.in_ok-alternatives-2.alternatives ≡ (of_values ++ of_facts) ++ heaps.alternatives = c.in_ok-alternatives-2.ensures ∙ ap (λ x. x ++ heaps.alternatives) c.in_ok-alternatives.ensures in
    subst AreComparisons (sym are) (joined_comparisons (of_values ++ of_facts) heaps.alternatives (joined_comparisons of_values of_facts c.in_ok-of_values.ensures.asked c.in_ok-of_facts.ensures.asked) c.in_ok-heaps.ensures.asked)
