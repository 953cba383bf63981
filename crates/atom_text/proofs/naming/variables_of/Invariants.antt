use Rattle.atom_text.specs.Resolving.{variable_in, FindsFirst}
use Rattle.atom_text.proofs.naming.variables_of.Given as goal

abbrev pub invariant-loop-place : goal.invariant-loop-place
invariant-loop-place l = FindsFirst l.declarations l.place (variable_in l.variables)
