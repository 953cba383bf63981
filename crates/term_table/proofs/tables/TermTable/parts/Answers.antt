use Rattle.std.proofs.Common.{slice_get, ap, ◌∙◌, subst}
use Rattle.std.specs.List.{AllZip}
use Rattle.pure_terms.specs.Pure.{to_list}
use Rattle.term_table.proofs.TableLaws.{node_at}
use Rattle.term_table.specs.Tables.{NamesBelow, parts_of, term_at, terms_of}
use Rattle.term_table.proofs.tables.TermTable.parts.Goals as goal

-- src/tables.rt:78:5
pub returns : goal.returns
returns c =
    subst (λ v. AllZip (NamesBelow (terms_of v) c.args.id) c.as_slice.result.now (to_list (parts_of (term_at (terms_of v) c.args.id)))) c.self.view_is
    (node_at c.self.inside.tables.nodes.keys (terms_of c.self.inside.tables.terms.items) c.args.id c.in-Some.node.now c.as_slice.result.now c.self.invariant
    (c.in-Some.ensures.key ∙ ap (slice_get c.self.inside.tables.nodes.keys) c.place.ensures) c.as_slice.ensures)
