use Rattle.std.proofs.Common.{ap, ◌∙◌}
use Rattle.object_sym.specs.Table.{of_property, get_cases}
use Rattle.pure_terms.specs.View.{terms_view}
use Rattle.sym_model.specs.View.{frag_view}
use Rattle.sym_chunks.proofs.Elements.{ok_to, two_terms}
use Rattle.object_sym.proofs.table.act_get.Goals as goal

pub returns-in-len2 : goal.returns-in-len2
returns-in-len2 c =
    ok_to c.get_of.result _ _ (λ bs is.
    is ∙ ap (λ ts. of_property ts (frag_view c.args.chunks.now) (λ l p. get_cases l p (frag_view c.args.chunks.now)))
    (two_terms c.as_slice.result.now c.l-item.result c.p-item.result (terms_view c.args.args.now) c.in-len2.len_at_least c.in-len2.len_below c.l-item.is c.p-item.is c.as_slice.ensures)) c.get_of.ensures
