use Rattle.std.proofs.Common.{◌*◌, ◌+◌, map, take}
use Rattle.std.specs.List.{AllZip}
use Rattle.pure_terms.specs.Pure.{from_list, size, sizes}
use Rattle.rewrite_book.specs.Normals.{AreForms, IsForm}
use Rattle.rewrite_book.proofs.simplifying.+normal.Given as goal
use Rattle.term_table.specs.Tables.{Keeps, term_at, terms_of}

abbrev pub decreases-normal : goal.decreases-normal
decreases-normal g l = 3 * size (term_at (terms_of l.normals.now.table) l.id) + 2

abbrev pub decreases-normal_at_root : goal.decreases-normal_at_root
decreases-normal_at_root g l = 3 * size (term_at (terms_of l.normals.now.table) l.whole) + 1

abbrev pub decreases-with_normal_parts : goal.decreases-with_normal_parts
decreases-with_normal_parts g l = 3 * size (term_at (terms_of l.normals.now.table) l.id) + 1

abbrev pub decreases-normal_parts : goal.decreases-normal_parts
decreases-normal_parts g l = 3 * sizes (from_list (map (term_at (terms_of l.normals.now.table)) l.parts.now)) + 3

abbrev pub invariant-normal_parts-loop-part : goal.invariant-normal_parts-loop-part
invariant-normal_parts-loop-part g l = record {
  known : AreForms (g.B.Asked.has_none l.book) (terms_of l.normals.table) l.normals.forms.items;
  kept : Keeps (terms_of l.fn.normals.table) (terms_of l.normals.table);
  forms : AllZip (IsForm (g.B.Asked.has_none l.book) (terms_of l.normals.table)) (take l.part-index l.parts) l.forms.items;
}
