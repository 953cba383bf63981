use Rattle.std.proofs.Common.{◌≡◌, List, ℕ, map, take, false}
use Rattle.gil_syntax.specs.Valid.{is_among, has_twice}
use Rattle.gil_syntax.specs.Names.{has_name}
use Rattle.gil_syntax.proofs.named.has_twice.Given as goal

abbrev pub invariant-loop-item : goal.invariant-loop-item
invariant-loop-item g l = record {
  before : (x : List ℕ) → has_name l.before x ≡ is_among (map g.T.Named.name_of (take l.item-index l.items)) x;
  once : has_twice (map g.T.Named.name_of (take l.item-index l.items)) ≡ false;
}
