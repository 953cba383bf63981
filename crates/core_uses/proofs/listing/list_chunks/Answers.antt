use Rattle.std.proofs.Common.{Result, Ok, Err, IfOk, ◌≡◌, sym, subst, ◌∙◌}
use Rattle.sym_model.specs.View.{chunks_view, frag_view, uses_view}
use Rattle.core_uses.specs.Kept.{ListChunks}
use Rattle.core_uses.specs.Uses.{listed_uses}
use Rattle.core_uses.proofs.ListingLaws.{chunks_listed, ok_to}
use Rattle.core_uses.proofs.listing.list_chunks.Goals as goal

pub returns : goal.returns
returns c =
    ok_to c.list_each.result _ (λ us. ListChunks (frag_view c.args.chunks.now) (uses_view us))
    (λ us is. subst (λ cs. ListChunks cs (uses_view us)) c.as_slice.ensures
    (subst (ListChunks (chunks_view c.as_slice.result.now)) (sym is) (chunks_listed (chunks_view c.as_slice.result.now))))
    c.list_each.ensures
