-- The names that stand in expressions and items.
use Rattle.std.specs.Prelude.{ℕ, List, Bool, not, ◌||◌}
use Rattle.std.specs.List.{list_all, list_any}
use Rattle.std.specs.Str.{bytes_eq}
use Rattle.gil_syntax.specs.Pure.{PureExpr, PureItem, pure, uses}
use Rattle.gil_syntax.specs.Subexpressions.{names_of}
use Rattle.gil_syntax.specs.Valid.{is_among}

-- the names that are known
abbrev pub Known : Type 0
Known = List ℕ → Bool

abbrev pub knows_all : Known → PureExpr → Bool
knows_all known e = list_all known (names_of e)

abbrev pub is_other : List ℕ → List ℕ → Bool
is_other x y = not (bytes_eq x y)

-- the name stands in one of the expressions
abbrev pub named_among : List PureExpr → Known
named_among es x = list_any (λ e. is_among (names_of e) x) es

abbrev pub named_by_item : PureItem → Known
named_by_item (pure e) x = is_among (names_of e) x
named_by_item (uses u) x = named_among u.ins x || named_among u.outs x

abbrev pub named_by_items : List PureItem → Known
named_by_items items x = list_any (λ item. named_by_item item x) items
