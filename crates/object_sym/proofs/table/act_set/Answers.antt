use Rattle.std.proofs.Common.{ap, ◌∙◌}
use Rattle.object_sym.specs.Table.{set_branches}
use Rattle.pure_terms.specs.View.{terms_view}
use Rattle.sym_model.specs.View.{frag_view}
use Rattle.sym_chunks.proofs.Elements.{ok_to, three_terms}
use Rattle.object_sym.proofs.table.act_set.Goals as goal

pub returns-in-len3 : goal.returns-in-len3
returns-in-len3 c =
    ok_to c.set_of.result _ _ (λ bs is.
    is ∙ ap (λ ts. set_branches ts (frag_view c.args.chunks.now))
    (three_terms c.as_slice.result.now c.l-item.result c.p-item.result c.val-item.result (terms_view c.args.args.now) c.in-len3.len_at_least c.in-len3.len_below c.l-item.is c.p-item.is c.val-item.is c.as_slice.ensures)) c.set_of.ensures
