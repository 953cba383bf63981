use Rattle.std.proofs.Common.{None, subst}
use Rattle.std.specs.Option.{option_map}
use Rattle.sym_evaluation.specs.View.{store_view}
use Rattle.sym_states.specs.Naming.{NamesAll}
use Rattle.sym_states.specs.NamingView.{named_view}
use Rattle.call_rows.specs.Posts.{only_result}
use Rattle.call_rows.proofs.posts.with_result.Goals as goal

pub returns-in_default : goal.returns-in_default
returns-in_default g c =
    let scope = c.args.scope.now in
    let bs = store_view c.args.found.store in
    let none = subst (λ o. NamesAll scope c.in_ok-names.names c.replace-vars.result bs (option_map named_view o)) c.in_default.is c.in_ok-named.ensures in
    subst (λ vars. NamesAll scope only_result vars bs None) c.replace-vars.ensures.value (subst (λ xs. NamesAll scope xs c.replace-vars.result bs None) c.in_ok-names.ensures none)
