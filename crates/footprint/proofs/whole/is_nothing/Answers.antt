use Rattle.std.proofs.Common.{◌&&◌, Bool, nat_eq, sym, subst, ◌∙◌}
use Rattle.std.proofs.lemmas.List.{length-map}
use Rattle.sym_model.specs.View.{use_view, uses_view}
use Rattle.sym_states.specs.View.{fact_view, state_view}
use Rattle.footprint.specs.Whole.{SaysNothing}
use Rattle.footprint.proofs.WholeLaws.{says_nothing}
use Rattle.footprint.proofs.whole.is_nothing.Goals as goal

pub returns : goal.returns
returns g c =
    let s = state_view c.args.state.now in
    let listed = c.in_ok-listed.listed in
    subst (λ (b : Bool). SaysNothing g.M.SymMemory.stands s b)
    (sym (c.are_none.ensures ∙ (λ i. nat_eq (c.len.ensures i) 0 && nat_eq (c.len-2.ensures i) 0) ∙ (λ i. nat_eq (sym (length-map listed use_view) i) 0 && nat_eq (sym (length-map c.args.state.now.preds fact_view) i) 0)))
    (says_nothing g.M.SymMemory.stands s (uses_view listed) c.in_ok-listed.ensures.lists)
