use Rattle.std.proofs.Common.{◌≡◌, ◌++◌, ◌∷◌, [], true, false, sym, ap, ◌∙◌, append-nil}
use Rattle.std.specs.Int.{w128}
use Rattle.std.specs.List.{remove}
use Rattle.std.proofs.lemmas.Int.{to_z-of_z}
use Rattle.gil_values.specs.Pure.{integer}
use Rattle.pure_terms.specs.View.{term_view, atoms_view}
use Rattle.block_heap.specs.Table.{count_of}
use Rattle.block_sym.specs.Table.{number, cell_subs, elsewhere, is_whole, taken_by_bound}
use Rattle.sym_chunks.specs.Cases.{case_of, true_term}
use Rattle.sym_chunks.specs.View.{cases_view}
use Rattle.sym_chunks.specs.Walking.{way_of, walk}
use Rattle.sym_chunks.proofs.Elements.{ok_to}
use Rattle.sym_model.specs.Pure.{gone, done}
use Rattle.sym_model.specs.View.{frag_view}
use Rattle.block_sym.proofs.Loops.{no_items, none_taken}
use Rattle.block_sym.proofs.freeing.with_literal_bound.Goals as goal

pub returns-then-len-eq0 : goal.returns-then-len-eq0
returns-then-len-eq0 c =
    let m = term_view c.args.place.now in
    let cs = frag_view c.args.chunks.now in
    let never_here = sym c.in_ok-here.ensures ∙ no_items atoms_view _ (sym c.len.ensures ∙ c.if-len-eq0.true) in
    sym (append-nil (cases_view c.args.cases))
    ∙ ap (λ x. cases_view c.args.cases ++ x) (sym (none_taken (is_whole m (number c.args.cells) cs) (term_view c.args.l.now) m cs c.args.index c.args.cells never_here))

pub returns-then-has_all_cells : goal.returns-then-has_all_cells
returns-then-has_all_cells c =
    let m = term_view c.args.place.now in
    let cs = frag_view c.args.chunks.now in
    let given = sym (to_z-of_z w128 c.args.cells c.ranges.cells) in
    let seen = sym c.as_slice.ensures in
    let whole : is_whole m (number c.args.cells) cs ≡ true = (λ j. is_whole m (number (given j)) (seen j)) ∙ sym c.has_all_cells.ensures ∙ c.if-has_all_cells.true in
    ok_to c.with_taken_whole.result _ _ (λ out is.
    is ∙ ap (λ x. cases_view c.args.cases ++ case_of x (elsewhere m cs ++ record { loc = m; sub = gone; val = true_term } ∷ []) (done true_term)) c.in_ok-here.ensures
    ∙ ap (λ t. cases_view c.args.cases ++ taken_by_bound t (term_view c.args.l.now) cs c.args.index m c.args.cells) (sym whole)) c.with_taken_whole.ensures

pub returns : goal.returns
returns c =
    let m = term_view c.args.place.now in
    let cs = frag_view c.args.chunks.now in
    let passed = to_z-of_z w128 c.args.cells c.ranges.cells in
    let given = sym passed in
    let seen = sym c.as_slice.ensures in
    let lacks : is_whole m (number c.args.cells) cs ≡ false = (λ j. is_whole m (number (given j)) (seen j)) ∙ sym c.has_all_cells.ensures ∙ c.if-has_all_cells.false in
    ok_to c.with_taken_cells.result _ _ (λ out is.
    is ∙ (λ j. cases_view c.args.cases ++ walk cs m (cell_subs 0 (count_of (integer (passed j)))) (way_of (c.in_ok-here.ensures j) (remove cs c.args.index)))
    ∙ ap (λ t. cases_view c.args.cases ++ taken_by_bound t (term_view c.args.l.now) cs c.args.index m c.args.cells) (sym lacks)) c.with_taken_cells.ensures
