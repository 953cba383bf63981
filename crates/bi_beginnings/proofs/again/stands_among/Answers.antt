use Rattle.std.proofs.Common.{map, sym, ap, ◌∙◌}
use Rattle.gil_values.proofs.Joined.{element_read}
use Rattle.pure_terms.specs.View.{atom_view, atoms_view}
use Rattle.pure_terms.proofs.ListTests.{any_found}
use Rattle.bi_beginnings.specs.Conditions.{same_atom}
use Rattle.bi_beginnings.proofs.again.stands_among.Goals as goal

pub returns-then-are_same : goal.returns-then-are_same
returns-then-are_same c =
    let here = element_read atom_view _ _ c.loop-other.other-index _ (ap (map atom_view) c.as_slice-other-items.ensures) c.loop-other-test.true c.other-item.is in
    sym (any_found (same_atom (atom_view c.args.atom.now)) (atoms_view c.args.atoms.now) c.loop-other.other-index _ here (sym c.are_same.ensures ∙ c.if-are_same.true))
