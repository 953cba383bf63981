-- Tests of the variables that a term names.
use Rattle.std.specs.Prelude.{ℕ, List, slice_get, Bool, false, Option, Some, None, nat_eq, nat_lt}
use Rattle.std.specs.List.{list_all, list_any}
use Rattle.pure_terms.specs.declared.variables.Sort.{Sort}
use Rattle.pure_terms.specs.declared.variables.Var.{Var}
use Rattle.pure_terms.specs.Kinds.{same_sort}
use Rattle.pure_terms.specs.Pure.{PureTerm, variables}

-- the term names the variable with this number
abbrev pub names_number : ℕ → PureTerm → Bool
names_number n t = list_any (λ x. nat_eq n x.number) (variables t)

-- each variable that the term names has a lower number
abbrev pub names_only_below : ℕ → PureTerm → Bool
names_only_below n t = list_all (λ x. nat_lt x.number n) (variables t)

abbrev pub is_of_sort : Option Sort → Sort → Bool
is_of_sort (Some s) t = same_sort s t
is_of_sort None t = false

-- the variable is one of the table, with its sort there
abbrev pub is_in_table : List Sort → Var → Bool
is_in_table vars x = is_of_sort (slice_get vars x.number) x.sort

-- each variable that the term names is one of the table, with its sort there
abbrev pub names_only : List Sort → PureTerm → Bool
names_only vars t = list_all (is_in_table vars) (variables t)
