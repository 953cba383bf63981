use Rattle.std.proofs.Common.{◌≡◌, map, take}
use Rattle.atom_text.proofs.resolving.names_of.Given as goal

abbrev pub invariant-loop-declaration : goal.invariant-loop-declaration
invariant-loop-declaration l = l.names ≡ map (λ d. d.name) (take l.declaration-index l.declarations)
