use Rattle.std.proofs.Common.{ap, ◌∙◌}
use Rattle.pure_terms.specs.View.{terms_view}
use Rattle.record_sym.specs.Table.{act_lookup}
use Rattle.sym_model.specs.View.{frag_view}
use Rattle.sym_chunks.proofs.Elements.{ok_to, two_terms}
use Rattle.record_sym.proofs.table.act_lookup.Goals as goal

pub returns-in-len2 : goal.returns-in-len2
returns-in-len2 c =
    ok_to c.access_name.result _ _ (λ bs is.
    is ∙ ap (λ ts. act_lookup ts (frag_view c.args.chunks.now))
    (two_terms c.as_slice.result.now c.l-item.result c.p-item.result (terms_view c.args.args.now) c.in-len2.len_at_least c.in-len2.len_below c.l-item.is c.p-item.is c.as_slice.ensures)) c.access_name.ensures
