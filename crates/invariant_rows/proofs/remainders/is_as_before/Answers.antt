use Rattle.std.proofs.Common.{refl, sym, ap, ◌∙◌}
use Rattle.checked_paths.specs.View.{passed_view}
use Rattle.sym_evaluation.specs.View.{store_view}
use Rattle.sym_model.specs.View.{uses_view}
use Rattle.sym_states.specs.View.{facts_view}
use Rattle.invariant_rows.proofs.RemainderLaws.{as_before}
use Rattle.invariant_rows.proofs.remainders.is_as_before.Goals as goal

pub returns : goal.returns
returns g c = λ h.
    as_before g.M.SymMemory.stands c.args.memory.now (facts_view c.args.facts.now) (store_view c.args.unlisted.now) (passed_view c.args.former.now)
    (uses_view c.in_ok-listed.listed) (uses_view c.in_ok-before.before) c.in_ok-listed.ensures.lists c.in_ok-before.ensures.lists
    (ap facts_view (sym c.as_slice.ensures) ∙ c.if-not-are_same_facts.ensures refl ∙ ap facts_view c.as_slice-2.ensures)
    (sym c.bindings.ensures ∙ c.if-not-are_same_bindings.ensures refl ∙ c.bindings-2.ensures)
    (ap uses_view (sym c.as_slice-3.ensures) ∙ c.are_same_uses.ensures h ∙ ap uses_view c.as_slice-4.ensures)
