use Rattle.std.proofs.Common.{◌≡◌, ◌+◌, ◌++◌, take, drop, remove, sym, ap, ◌∙◌, add-one}
use Rattle.std.proofs.lemmas.List.{take-map, drop-map, take_rest}
use Rattle.sym_states.specs.View.{fact_view, facts_view}
use Rattle.sym_states.proofs.Values.{ok_to}
use Rattle.footprint.proofs.uses.without.Goals as goal

pub returns : goal.returns
returns c =
    let xs = c.as_slice-items.result.now in
    let p = c.args.place in
    ok_to c.push_facts-2.result _ (λ r. facts_view r ≡ remove (facts_view c.args.facts.now) p)
    (λ r is. is ∙ ap (λ ys. facts_view c.in_ok-before.before ++ facts_view ys) (take_rest xs (p + 1)) ∙ ap (λ ys. ys ++ facts_view (drop (p + 1) xs)) (c.in_ok-before.ensures ∙ ap (λ ys. facts_view ys ++ facts_view (take p xs)) c.new.ensures)
    ∙ (λ i. sym (take-map fact_view p xs) i ++ sym (drop-map fact_view (p + 1) xs) i)
    ∙ ap (λ k. take p (facts_view xs) ++ drop k (facts_view xs)) (add-one p) ∙ ap (λ ys. remove (facts_view ys) p) c.as_slice-items.ensures) c.push_facts-2.ensures
