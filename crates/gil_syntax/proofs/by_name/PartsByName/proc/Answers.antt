use Rattle.std.proofs.Common.{sym, ap, ◌∙◌}
use Rattle.std.specs.Option.{option_map, option_copied}
use Rattle.gil_syntax.specs.View.{proc_view}
use Rattle.gil_syntax.proofs.ByNameLemmas.{not_found, found, found_proc}
use Rattle.gil_syntax.proofs.by_name.PartsByName.proc.Goals as goal

pub returns-in_err-place : goal.returns-in_err-place
returns-in_err-place c = found_proc _ c.args.name.now _ (ap (option_map (λ q. proc_view q.now)) c.from_residual.ensures
    ∙ sym (not_found (λ q. q.name) _ c.args.name.now (sym (ap (λ f. f c.args.name.now) c.requires.procs) ∙ sym c.get.ensures.value ∙ ap option_copied c.in_err-place.was)))

pub returns : goal.returns
returns c = found_proc _ c.args.name.now _ (found proc_view (λ q. q.name) c.args.self.now.parts.now.procs c.args.name.now c.in_ok-place.place.now c.get-2.result
    (sym (ap (λ f. f c.args.name.now) c.requires.procs) ∙ sym c.get.ensures.value ∙ ap option_copied c.in_ok-place.was) c.get-2.ensures)
