-- Terms with a part whose value the code can't hold.
use Rattle.std.specs.Prelude.{List, Bool, false, not, Option, Some}
use Rattle.std.specs.List.{list_any}
use Rattle.gil_values.specs.Pure.{PureValue, integer}
use Rattle.pure_terms.specs.Meaning.{value}
use Rattle.pure_terms.specs.Numbers.{is_held}
use Rattle.pure_terms.specs.Pure.{PureTerm, subterms}

-- the code can't hold the value: it is a whole number that leaves 128 bits
abbrev pub is_wide : Option PureValue → Bool
is_wide (Some (integer n)) = not (is_held n)
is_wide _ = false

-- the term, or a term that stands in it, has such a value
abbrev pub has_wide_part : List PureValue → PureTerm → Bool
has_wide_part v t = list_any (λ s. is_wide (value v s)) (subterms t)
