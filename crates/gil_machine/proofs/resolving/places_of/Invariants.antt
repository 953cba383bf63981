use Rattle.std.proofs.Common.{◌≡◌, ℕ, List, map, take}
use Rattle.gil_syntax.specs.Names.{place_of, first_place}
use Rattle.gil_machine.proofs.resolving.places_of.Given as goal

abbrev pub invariant-loop-place : goal.invariant-loop-place
invariant-loop-place l = (x : List ℕ) → place_of l.places x ≡ first_place (map (λ q. q.proc.now.name) (take l.place l.procs)) x
