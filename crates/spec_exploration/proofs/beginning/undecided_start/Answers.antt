use Rattle.std.proofs.Common.{◌≡◌, inr, true, false, sym, ap, ◌∙◌}
use Rattle.std.proofs.lemmas.Result.{IfOk-weaker}
use Rattle.sym_paths.proofs.AskedFragments.{open_seen}
use Rattle.sym_beginning.specs.View.{start_view}
use Rattle.sym_model.specs.Meaning.{has_open}
use Rattle.sym_paths.specs.View.{path_view}
use Rattle.checked_paths.specs.View.{next_view}
use Rattle.spec_exploration.proofs.Beginnings.{start_taken}
use Rattle.spec_exploration.proofs.beginning.undecided_start.Goals as goal

pub start_in_need-requires-clause-needed : goal.start_in_need-requires-clause-needed
start_in_need-requires-clause-needed g c = ap has_open (sym c.atoms.ensures) ∙ sym (open_seen c.atoms.result.now) ∙ sym c.needs_form.ensures ∙ c.if-needs_form.true

pub returns-else-needs_form : goal.returns-else-needs_form
returns-else-needs_form g c =
    let known : has_open (path_view c.args.started.path).conds ≡ false = ap has_open (sym c.atoms.ensures) ∙ sym (open_seen c.atoms.result.now) ∙ sym c.needs_form.ensures ∙ c.if-needs_form.false in
    IfOk-weaker c.path_from.result _ _ (λ n is. start_taken c.args.here.now (start_view c.args.started) (next_view n) known (inr c.requires.outside.outside) is) c.path_from.ensures
