-- The names that stand in an item, from left to right.
use Rattle.std.specs.Prelude.{ℕ, List, ◌++◌}
use Rattle.std.specs.List.{flat_map}
use Rattle.gil_syntax.specs.Pure.{PureItem, pure, uses}
use Rattle.gil_syntax.specs.Subexpressions.{names_of}

abbrev pub names_of_item : PureItem → List (List ℕ)
names_of_item (pure e) = names_of e
names_of_item (uses u) = flat_map names_of u.ins ++ flat_map names_of u.outs
