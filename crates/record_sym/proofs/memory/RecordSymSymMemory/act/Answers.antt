use Rattle.std.proofs.Common.{◌∙◌}
use Rattle.pure_terms.specs.View.{terms_view}
use Rattle.sym_chunks.proofs.Elements.{ok_to}
use Rattle.record_sym.proofs.Instance.{act_law, acts_plainly, acts_narrowly, opens, keeps, misses}
use Rattle.record_sym.proofs.memory.RecordSymSymMemory.act.Goals as goal

pub returns-clause-laws : goal.returns-clause-laws
returns-clause-laws c =
    ok_to c.with_states.result _ _ (λ bs is. act_law c.args.action.now c.args.fresh (terms_view c.args.args.now) c.args.self.now bs (is ∙ c.in_ok-branches.ensures) c.requires) c.with_states.ensures

pub returns-clause-plain : goal.returns-clause-plain
returns-clause-plain c =
    λ kept. ok_to c.with_states.result _ _ (λ bs is. acts_plainly c.args.action.now c.args.fresh (terms_view c.args.args.now) c.args.self.now bs (is ∙ c.in_ok-branches.ensures) c.requires) c.with_states.ensures

pub returns-clause-narrow : goal.returns-clause-narrow
returns-clause-narrow c =
    λ kept. ok_to c.with_states.result _ _ (λ bs is. acts_narrowly c.args.action.now c.args.fresh (terms_view c.args.args.now) c.args.self.now bs (is ∙ c.in_ok-branches.ensures) c.requires) c.with_states.ensures

pub returns-clause-forms : goal.returns-clause-forms
returns-clause-forms c =
    ok_to c.with_states.result _ _ (λ bs is. opens c.args.action.now c.args.fresh (terms_view c.args.args.now) c.args.self.now bs (is ∙ c.in_ok-branches.ensures)) c.with_states.ensures

pub returns-clause-kept : goal.returns-clause-kept
returns-clause-kept c =
    λ kept. ok_to c.with_states.result _ _ (λ bs is. keeps c.args.action.now c.args.fresh (terms_view c.args.args.now) c.args.self.now bs (is ∙ c.in_ok-branches.ensures) kept) c.with_states.ensures

pub returns-clause-misses : goal.returns-clause-misses
returns-clause-misses c =
    ok_to c.with_states.result _ _ (λ bs is. misses c.args.action.now c.args.fresh (terms_view c.args.args.now) c.args.self.now bs (is ∙ c.in_ok-branches.ensures)) c.with_states.ensures
