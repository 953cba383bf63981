-- Terms that may be sides of an equality.
use Rattle.std.specs.Prelude.{◌≡◌, ◌^◌, pos, neg_ℤ, List, true, false}
use Rattle.pure_terms.specs.declared.variables.Sort.{Sort}
use Rattle.pure_terms.specs.Fragment.{is_simple, names_sort, has_literals_between}
use Rattle.pure_terms.specs.Meaning.{IsOver}
use Rattle.pure_terms.specs.Pure.{PureTerm}

abbrev pub IsNarrow : PureTerm → Type 0
IsNarrow t = has_literals_between (neg_ℤ (pos (2 ^ 80))) (pos (2 ^ 80)) t ≡ true

-- a simple term over the table, with narrow literals and no variables of sort list
pub record IsTableSide (vars : List Sort) (t : PureTerm) : Type 0 where
  pub over : IsOver vars t
  pub simple : is_simple t ≡ true
  pub narrow : IsNarrow t
  pub no_list : names_sort Sort.List t ≡ false
