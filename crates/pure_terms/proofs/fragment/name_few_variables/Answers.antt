use Rattle.std.proofs.Common.{◌≤◌, length, arith}
use Rattle.std.proofs.lemmas.Bool.{lt-ltb}
use Rattle.pure_terms.specs.Fragment.{variable_count}
use Rattle.pure_terms.specs.View.{atoms_view}
use Rattle.pure_terms.proofs.NamingLaws.{count_bound}
use Rattle.pure_terms.proofs.fragment.name_few_variables.Goals as goal

pub returns-then-len-lt-FEW_VARIABLES : goal.returns-then-len-lt-FEW_VARIABLES
returns-then-len-lt-FEW_VARIABLES c =
    let bound : variable_count (atoms_view c.args.atoms.now) ≤ length c.args.vars.now = count_bound c.args.vars.now (atoms_view c.args.atoms.now) c.requires in
    (λ _. omega (arith, bound), λ _. lt-ltb c.len.result 1099511627776 c.if-len-lt-FEW_VARIABLES.true)
