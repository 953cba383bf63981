use Rattle.std.proofs.Common.{◌≡◌, take, map}
use Rattle.sym_chunks.specs.NameTerms.{unheld_name}
use Rattle.pure_terms.specs.View.{term_view}
use Rattle.sym_model.specs.Alternatives.{alternatives_view, any}
use Rattle.sym_model.specs.View.{chunk_view}
use Rattle.sym_chunks.proofs.names.unheld_in.Given as goal

abbrev pub invariant-loop-name : goal.invariant-loop-name
invariant-loop-name l =
    alternatives_view l.alternatives ≡ any (unheld_name (term_view l.p) (term_view l.place) (map chunk_view l.chunks)) (map term_view (take l.name-index l.names))
