use Rattle.std.proofs.Common.{◌≡◌, map, take}
use Rattle.atom_text.proofs.resolving.sorts_of.Given as goal

abbrev pub invariant-loop-declaration : goal.invariant-loop-declaration
invariant-loop-declaration l = l.vars ≡ map (λ d. d.sort) (take l.declaration-index l.declarations)
