use Rattle.pure_terms.specs.View.{terms_view}
use Rattle.sym_chunks.proofs.Elements.{ok_to}
use Rattle.sym_model.specs.View.{branches_view}
use Rattle.record_sym.proofs.Listing.{produce_law, produce_forms, produces_plainly, names_produced_narrowly, produce_keeps}
use Rattle.record_sym.proofs.listed.RecordSymListedMemory.produce.Goals as goal

pub returns-clause-laws : goal.returns-clause-laws
returns-clause-laws c =
    ok_to c.with_states.result _ _ (λ bs is. produce_law c.args.core.now (terms_view c.args.ins.now) c.args.self.now (branches_view bs) _ is (terms_view c.args.outs.now) c.requires c.in_ok-branches.ensures) c.with_states.ensures

pub returns-clause-forms : goal.returns-clause-forms
returns-clause-forms c =
    ok_to c.with_states.result _ _ (λ bs is. produce_forms c.args.core.now (terms_view c.args.ins.now) c.args.self.now (branches_view bs) _ is (terms_view c.args.outs.now) c.requires c.in_ok-branches.ensures) c.with_states.ensures

pub returns-clause-plain : goal.returns-clause-plain
returns-clause-plain c =
    λ keeps. ok_to c.with_states.result _ _ (λ bs is. produces_plainly c.args.core.now (terms_view c.args.ins.now) c.args.self.now (branches_view bs) _ is (terms_view c.args.outs.now) c.requires c.in_ok-branches.ensures) c.with_states.ensures

pub returns-clause-narrow : goal.returns-clause-narrow
returns-clause-narrow c =
    λ keeps. ok_to c.with_states.result _ _ (λ bs is. names_produced_narrowly c.args.core.now (terms_view c.args.ins.now) c.args.self.now (branches_view bs) _ is (terms_view c.args.outs.now) c.requires c.in_ok-branches.ensures) c.with_states.ensures

pub returns-clause-kept : goal.returns-clause-kept
returns-clause-kept c =
    λ kept. ok_to c.with_states.result _ _ (λ bs is. produce_keeps c.args.core.now (terms_view c.args.ins.now) c.args.self.now (branches_view bs) _ is (terms_view c.args.outs.now) c.requires c.in_ok-branches.ensures kept) c.with_states.ensures
