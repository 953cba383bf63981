use Rattle.std.proofs.Common.{◌≡◌}
use Rattle.std.specs.List.{flat_map}
use Rattle.pure_terms.specs.View.{term_view}
use Rattle.sym_chunks.specs.View.{ways_view}
use Rattle.sym_chunks.specs.Walking.{next_ways}
use Rattle.sym_model.specs.View.{sub_view}
use Rattle.sym_chunks.proofs.walking.next_ways.Given as goal

abbrev pub invariant-loop-way : goal.invariant-loop-way
invariant-loop-way l = ways_view l.ways ≡ flat_map (next_ways (term_view l.l) (sub_view l.s)) (ways_view l.yielded)
