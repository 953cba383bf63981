use Rattle.std.proofs.Common.{rules, subst}
use Rattle.std.specs.Option.{option_map}
use Rattle.sym_evaluation.specs.View.{store_view}
use Rattle.sym_states.specs.Naming.{NamesAll}
use Rattle.sym_states.specs.NamingView.{named_view}
use Rattle.invariant_rows.proofs.entering.open_path.Goals as goal

pub returns-in-None : goal.returns-in-None
returns-in-None g c =
    let all : NamesAll c.args.scope.now c.args.listed.now c.args.path.vars (store_view c.args.unlisted) (option_map named_view c.in_ok-named.field-0) = search rules in
    subst (λ o. NamesAll c.args.scope.now c.args.listed.now c.args.path.vars (store_view c.args.unlisted) (option_map named_view o)) c.in-None.is all
