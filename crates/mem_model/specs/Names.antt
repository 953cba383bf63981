-- The names that a record or an object lists at `Shape` or `Dom`: a list of distinct texts.
use Rattle.std.specs.Prelude.{ℕ, List, [], ◌∷◌, Bool, true, false, not, ◌&&◌}
use Rattle.std.specs.List.{list_any}
use Rattle.gil_values.specs.Pure.{PureValue, text, list, to_list}
use Rattle.gil_values.specs.Equality.{same_value}

abbrev pub is_text : PureValue → Bool
is_text (text cs) = true
is_text _ = false

abbrev pub are_distinct_texts : List PureValue → Bool
are_distinct_texts [] = true
are_distinct_texts (v ∷ vs) = is_text v && not (list_any (same_value v) vs) && are_distinct_texts vs

abbrev pub is_name_list : PureValue → Bool
is_name_list (list vs) = are_distinct_texts (to_list vs)
is_name_list _ = false

-- whether the name is one of the list
abbrev pub lists_name : PureValue → List ℕ → Bool
lists_name (list vs) p = list_any (same_value (text p)) (to_list vs)
lists_name _ p = false
