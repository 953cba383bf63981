use Rattle.std.proofs.Common.{◌≡◌, map, length, get_or, subst, sym, ◌∙◌}
use Rattle.std.proofs.lemmas.List.{length-map}
use Rattle.std.specs.List.{AllZip}
use Rattle.pure_terms.specs.View.{term_view}
use Rattle.term_table.proofs.RebuildingLaws.{rebuilt_built, term_read}
use Rattle.term_table.specs.Tables.{NamesBelow, term_at, with_parts}
use Rattle.term_table.proofs.rebuilding.put_rebuilt.Goals as goal

pub add_node-requires-clause-built : goal.add_node-requires-clause-built
add_node-requires-clause-built c =
    let items = c.as_slice-terms.ensures.value in
    let ts = map term_view c.args.tables.now.terms.items in
    let r = c.index-terms-place.result in
    let old : term_at ts c.args.id ≡ term_view r
    = term_read c.args.tables.now.terms.items c.args.id r c.requires.named (c.index-terms-place.is ∙ (λ i. get_or (items i) (c.place.ensures i) r)) in
    let is : term_view c.in_ok-term.term ≡ with_parts (term_at ts c.args.id) (map (term_at ts) c.args.parts.now)
    = c.in_ok-term.ensures ∙ (λ i. with_parts (sym old i) (map (term_at (map term_view (items i))) c.args.parts.now)) in
    let built = rebuilt_built ts _ (term_at ts c.args.id) (term_view c.in_ok-term.term) c.in_ok-root.root c.args.parts.now
    (sym (length-map c.args.tables.now.terms.items term_view)) is c.in_ok-root.ensures c.requires.one_each c.requires.parts_named in
    (built.0, built.1, subst (λ ps. AllZip (NamesBelow ts (length ts)) ps built.0) (sym c.in_ok-parts.ensures.ok) built.2)
