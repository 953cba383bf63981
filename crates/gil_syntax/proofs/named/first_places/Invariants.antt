use Rattle.std.proofs.Common.{◌≡◌, List, ℕ, map, take}
use Rattle.gil_syntax.specs.Names.{place_of, first_place}
use Rattle.gil_syntax.proofs.named.first_places.Given as goal

abbrev pub invariant-loop-place : goal.invariant-loop-place
invariant-loop-place g l = (x : List ℕ) → place_of l.places x ≡ first_place (map g.T.Named.name_of (take l.place l.items)) x
