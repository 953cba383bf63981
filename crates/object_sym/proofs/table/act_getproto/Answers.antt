use Rattle.std.proofs.Common.{ap, ◌∙◌}
use Rattle.object_sym.specs.Table.{getproto_branches}
use Rattle.pure_terms.specs.View.{terms_view}
use Rattle.sym_model.specs.View.{frag_view}
use Rattle.sym_chunks.proofs.Elements.{ok_to, one_term}
use Rattle.object_sym.proofs.table.act_getproto.Goals as goal

pub returns-in-len1 : goal.returns-in-len1
returns-in-len1 c =
    ok_to c.getproto_of.result _ _ (λ bs is.
    is ∙ ap (λ ts. getproto_branches ts (frag_view c.args.chunks.now))
    (one_term c.as_slice.result.now c.l-item.result (terms_view c.args.args.now) c.in-len1.len_at_least c.in-len1.len_below c.l-item.is c.as_slice.ensures)) c.getproto_of.ensures
