use Rattle.sym_evaluation.specs.View.{store_view}
use Rattle.sym_states.proofs.Values.{ok_to}
use Rattle.sym_matching.specs.Parts.{BindsParams, Continues}
use Rattle.sym_matching.specs.View.{stores_view, outs_view}
use Rattle.sym_matching.proofs.SplitLaws.{found_continues}
use Rattle.sym_matching.proofs.cases.bind_behind.Goals as goal

pub returns-in_ok-next-in-Some : goal.returns-in_ok-next-in-Some
returns-in_ok-next-in-Some c =
    let Binds = BindsParams c.args.sorts.now c.args.params.now (outs_view c.args.terms.now) in
    ok_to c.behind.result _ (λ x. Continues Binds (stores_view c.args.split).found (stores_view c.args.split).none (stores_view x))
    (λ x is. found_continues store_view store_view Binds c.args.split c.in-Some.field-0 c.in_ok-next-in-Some.next x c.in-Some.is c.in_ok-next-in-Some.ensures is) c.behind.ensures
