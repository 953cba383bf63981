use Rattle.std.proofs.Common.{◌≡◌, ◌++◌, ◌+◌, ◌-◌, length, map, take, drop, ap, ◌∙◌}
use Rattle.sym_states.specs.View.{fact_view, facts_view}
use Rattle.sym_unfolding.proofs.AddLaws.{ok_to, others_are}
use Rattle.sym_unfolding.proofs.taking.others.Goals as goal

pub returns : goal.returns
returns c =
    ok_to c.copy_facts-2.result _ (λ r. facts_view r ≡ take c.args.place (facts_view c.args.facts.now) ++ drop (c.args.place + 1) (facts_view c.args.facts.now))
    (λ r is. is ∙ ap (λ before. before ++ map fact_view (take (length c.as_slice-items.result.now - (c.args.place + 1)) (drop (c.args.place + 1) c.as_slice-items.result.now))) (c.in_ok-before.ensures ∙ ap (λ none. none ++ map fact_view (take c.args.place c.as_slice-items.result.now)) (ap facts_view c.new.ensures))
    ∙ others_are fact_view c.as_slice-items.result.now c.args.facts.now c.args.place c.as_slice-items.ensures) c.copy_facts-2.ensures
