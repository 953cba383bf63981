use Rattle.std.proofs.Common.{◌≡◌, List, ℕ, map, take}
use Rattle.gil_syntax.specs.Valid.{is_among}
use Rattle.gil_syntax.specs.Names.{has_name}
use Rattle.gil_syntax.proofs.named.names_in.Given as goal

abbrev pub invariant-loop-item : goal.invariant-loop-item
invariant-loop-item g l = (x : List ℕ) → has_name l.names x ≡ is_among (map g.T.Named.name_of (take l.item-index l.items)) x
