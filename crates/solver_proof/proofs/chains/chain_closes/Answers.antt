use Rattle.std.proofs.Common.{sym, ◌∙◌}
use Rattle.solver_proof.specs.Lists.{list_view}
use Rattle.solver_proof.proofs.WalkLaws.{chain_tested}
use Rattle.solver_proof.proofs.chains.chain_closes.Goals as goal

pub returns : goal.returns
returns c =
    let both = chain_tested (list_view c.args.list.now) c.args.places.now c.args.end in
    (λ is. both.0 (sym c.closes_chain.ensures ∙ is), λ closes. c.closes_chain.ensures ∙ both.1 closes)
