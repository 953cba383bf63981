use Rattle.std.proofs.Common.{Result, Ok, Err, IfOk, ◌≡◌, sym, subst}
use Rattle.mem_model.specs.CoreNames.{core_of}
use Rattle.pure_terms.specs.View.{terms_view}
use Rattle.core_changes.specs.Consuming.{Consume}
use Rattle.core_changes.proofs.ConsumeLaws.{chunks_consumed}
use Rattle.core_uses.proofs.ListingLaws.{ok_to}
use Rattle.sym_chunks.specs.View.{chunk_branches_view}
use Rattle.sym_model.specs.View.{frag_view}
use Rattle.core_changes.proofs.consuming.consume_chunks.Goals as goal

pub returns : goal.returns
returns c =
    ok_to c.consume_by.result _ (λ bs. Consume c.args.core.now (terms_view c.args.ins.now) (frag_view c.args.chunks.now) (chunk_branches_view bs))
    (λ bs is. subst (Consume c.args.core.now (terms_view c.args.ins.now) (frag_view c.args.chunks.now)) (sym is) (chunks_consumed c.args.core.now (terms_view c.args.ins.now) (frag_view c.args.chunks.now)))
    c.consume_by.ensures
