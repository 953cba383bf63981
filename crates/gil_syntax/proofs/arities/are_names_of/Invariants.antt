use Rattle.std.proofs.Common.{◌≡◌, map, take}
use Rattle.gil_syntax.proofs.arities.are_names_of.Given as goal

abbrev pub invariant-loop-place : goal.invariant-loop-place
invariant-loop-place l = take l.place l.texts ≡ map (λ q. q.name) (take l.place l.params)
