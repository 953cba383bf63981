use Rattle.std.proofs.Common.{◌++◌, map, sym, ap, ◌∙◌, append-nil}
use Rattle.std.specs.List.{remove}
use Rattle.pure_terms.specs.View.{term_view, atoms_view}
use Rattle.sym_chunks.specs.View.{cases_view}
use Rattle.sym_chunks.specs.Walking.{way_of, walk}
use Rattle.sym_model.specs.Pure.{named}
use Rattle.sym_model.specs.View.{frag_view}
use Rattle.record_sym.proofs.Loops.{no_ways, no_items}
use Rattle.record_sym.proofs.disposing.with_listed_names.Goals as goal

pub returns-then-len-eq0 : goal.returns-then-len-eq0
returns-then-len-eq0 c =
    let cs = frag_view c.args.chunks.now in
    let m = term_view c.args.place.now in
    let subs = map named (map term_view c.args.names.now) in
    sym (append-nil (cases_view c.args.cases))
    ∙ ap (λ x. cases_view c.args.cases ++ x) (sym (no_ways cs m subs))
    ∙ ap (λ x. cases_view c.args.cases ++ walk cs m subs (way_of x (remove cs c.args.index)))
    (sym (no_items atoms_view _ (sym c.len.ensures ∙ c.if-len-eq0.true)) ∙ c.in_ok-here.ensures)
