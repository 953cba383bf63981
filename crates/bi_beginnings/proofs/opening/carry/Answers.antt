use Rattle.std.proofs.Common.{◌≡◌, if◌then◌else◌, sym, ap, ◌∙◌}
use Rattle.pure_terms.specs.View.{atoms_view}
use Rattle.sym_model.specs.Meaning.{has_open}
use Rattle.sym_states.specs.Pure.{with_conditions}
use Rattle.sym_states.specs.View.{state_view}
use Rattle.sym_states.proofs.Conditions.{open_seen}
use Rattle.sym_states.proofs.Values.{ok_to}
use Rattle.bi_beginnings.specs.Opening.{carrying}
use Rattle.bi_beginnings.proofs.opening.carry.Goals as goal

pub returns-then-needs_form : goal.returns-then-needs_form
returns-then-needs_form g c =
    let s = state_view c.args.state in
    let open_there = ap has_open (sym c.atoms.ensures) ∙ open_seen c.atoms.result.now ∙ sym c.needs_form.ensures ∙ c.if-needs_form.true in
    ap (λ b. if b then s else with_conditions (atoms_view c.args.conds.now) s) (sym open_there)

pub returns : goal.returns
returns g c =
    let s = state_view c.args.state in
    let closed = ap has_open (sym c.atoms.ensures) ∙ open_seen c.atoms.result.now ∙ sym c.needs_form.ensures ∙ c.if-needs_form.false in
    ok_to c.under.result _ (λ r. state_view r ≡ carrying (atoms_view c.args.conds.now) s)
    (λ r is. is ∙ ap (λ b. if b then s else with_conditions (atoms_view c.args.conds.now) s) (sym closed)) c.under.ensures
