use Rattle.std.proofs.Common.{◌≡◌, ◌++◌, take, map}
use Rattle.pure_terms.specs.View.{term_view}
use Rattle.record_sym.specs.Table.{name_chunk}
use Rattle.sym_model.specs.View.{frag_view}
use Rattle.record_sym.proofs.making.with_record.Given as goal

abbrev pub invariant-loop-name : goal.invariant-loop-name
invariant-loop-name l = frag_view l.made ≡ frag_view l.chunks ++ map (name_chunk l.location) (map term_view (take l.name-index l.name-items))
