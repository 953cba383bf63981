use Rattle.std.proofs.Common.{◌≡◌, length, rules}
use Rattle.pure_terms.specs.View.{term_view}
use Rattle.equality_core.proofs.Finding.{found_new}
use Rattle.equality_core.proofs.nodes.add_node.Goals as goal

pub returns-clause-found : goal.returns-clause-found
returns-clause-found c =
    let place : c.len-place.result ≡ length c.args.nodes.items.items = search (rules, c.len-place.ensures) in
    found_new c.args.nodes.items.items c.push.new.self.items (record { term = c.in_ok-copy.field-0; root = c.len-place.result; chain = c.new.result }) (term_view c.args.term.now) c.len-place.result
    c.in_ok-push.ensures.items c.in_ok-copy.ensures place c.new.ensures.items place c.in_default.ensures.none
