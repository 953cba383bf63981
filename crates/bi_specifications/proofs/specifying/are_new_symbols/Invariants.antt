use Rattle.std.proofs.Common.{◌≡◌, drop}
use Rattle.std.specs.List.{list_all}
use Rattle.pure_terms.specs.declared.variables.Sort.{Sort}
use Rattle.pure_terms.specs.Kinds.{same_sort}
use Rattle.bi_specifications.proofs.specifying.are_new_symbols.Given as goal

abbrev pub invariant-loop-number : goal.invariant-loop-number
invariant-loop-number l = list_all (same_sort Sort.Fresh) (drop l.number l.sorts) ≡ list_all (same_sort Sort.Fresh) (drop l.first l.sorts)
