use Rattle.std.proofs.Common.{◌≡◌, take, map}
use Rattle.pure_terms.specs.View.{term_view, terms_view}
use Rattle.term_table.specs.Tables.{term_at}
use Rattle.term_table.proofs.rebuilding.copied.Given as goal

abbrev pub invariant-loop-part : goal.invariant-loop-part
invariant-loop-part l = terms_view l.list ≡ map (term_at (map term_view l.terms)) (take l.part-index l.parts)
