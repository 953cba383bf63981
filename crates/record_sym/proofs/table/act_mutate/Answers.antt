use Rattle.std.proofs.Common.{ap, ◌∙◌}
use Rattle.pure_terms.specs.View.{terms_view}
use Rattle.record_sym.specs.Table.{act_mutate}
use Rattle.sym_model.specs.View.{frag_view}
use Rattle.sym_chunks.proofs.Elements.{ok_to, three_terms}
use Rattle.record_sym.proofs.table.act_mutate.Goals as goal

pub returns-in-len3 : goal.returns-in-len3
returns-in-len3 c =
    ok_to c.give_name.result _ _ (λ bs is.
    is ∙ ap (λ ts. act_mutate ts (frag_view c.args.chunks.now))
    (three_terms c.as_slice.result.now c.l-item.result c.p-item.result c.val-item.result (terms_view c.args.args.now) c.in-len3.len_at_least c.in-len3.len_below c.l-item.is c.p-item.is c.val-item.is c.as_slice.ensures)) c.give_name.ensures
