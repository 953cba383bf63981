use Rattle.std.proofs.Common.{Result, Ok, Err, IfOk, ◌≡◌, sym, subst}
use Rattle.mem_model.specs.CoreNames.{core_of}
use Rattle.pure_terms.specs.View.{terms_view}
use Rattle.core_production.specs.Producing.{Produce}
use Rattle.core_production.proofs.ProduceLaws.{chunks_produced}
use Rattle.core_uses.proofs.ListingLaws.{ok_to}
use Rattle.sym_chunks.specs.View.{chunk_branches_view}
use Rattle.sym_model.specs.View.{frag_view}
use Rattle.core_production.proofs.producing.produce_chunks.Goals as goal

pub returns : goal.returns
returns c =
    ok_to c.produce_by.result _ (λ bs. Produce c.args.core.now (terms_view c.args.ins.now) (terms_view c.args.outs.now) (frag_view c.args.chunks.now) (chunk_branches_view bs))
    (λ bs is. subst (Produce c.args.core.now (terms_view c.args.ins.now) (terms_view c.args.outs.now) (frag_view c.args.chunks.now)) (sym is) (chunks_produced c.args.core.now (terms_view c.args.ins.now) (terms_view c.args.outs.now) (frag_view c.args.chunks.now)))
    c.produce_by.ensures
