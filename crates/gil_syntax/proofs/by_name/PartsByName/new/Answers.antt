use Rattle.std.proofs.Common.{map, sym, ap, ◌∙◌}
use Rattle.gil_syntax.specs.View.{proc_view, spec_view, pred_def_view}
use Rattle.gil_syntax.specs.Names.{first_place}
use Rattle.gil_syntax.proofs.ByNameLemmas.{map-seen}
use Rattle.gil_syntax.proofs.by_name.PartsByName.new.Goals as goal

pub returns-clause-indexed : goal.returns-clause-indexed
returns-clause-indexed c = record {
  procs = c.in_ok-procs.ensures ∙ ap (λ xs. first_place (map (λ q. q.name) xs)) c.as_slice.ensures ∙ ap first_place (sym (map-seen proc_view (λ q. q.name) c.args.parts.now.procs));
  specs = c.in_ok-specs.ensures ∙ ap (λ xs. first_place (map (λ s. s.name) xs)) c.as_slice-2.ensures ∙ ap first_place (sym (map-seen spec_view (λ s. s.name) c.args.parts.now.specs));
  preds = c.in_ok-preds.ensures ∙ ap (λ xs. first_place (map (λ d. d.name) xs)) c.as_slice-3.ensures ∙ ap first_place (sym (map-seen pred_def_view (λ d. d.name) c.args.parts.now.preds));
}
