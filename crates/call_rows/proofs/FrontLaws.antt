-- The front of a valuation, over the front of its table.
use Rattle.std.proofs.Common.{◌≡◌, List, ◌++◌, length, IsTrue, sym, subst, ◌∙◌}
use Rattle.std.proofs.lemmas.Bool.{and_parts}
use Rattle.std.proofs.lemmas.List.Folds.{list_all-append}
use Rattle.std.proofs.lemmas.Option.{slice_get_within}
use Rattle.gil_values.specs.Pure.{PureValue, symbol}
use Rattle.pure_terms.specs.declared.variables.Sort.{Sort}
use Rattle.pure_terms.specs.Meaning.{truth, all_true, IsProper, IsOver, Satisfies}
use Rattle.pure_terms.specs.Pure.{PureAtom, term_of}
use Rattle.pure_terms.proofs.VariableLaws.{slice_get-append}
use Rattle.sym_model.specs.Lists.{Each}
use Rattle.sym_paths.proofs.Growing.{all_true-more}

pub proper_part : (vars more : List Sort) (v ws : List PureValue) → length v ≡ length vars → IsProper (vars ++ more) (v ++ ws) → IsProper vars v
proper_part vars more v ws one_each proper = record {
  one_each = one_each;
  sorts = λ x s w in_table at. proper.sorts x s w (slice_get-append vars more x (slice_get_within vars x s in_table) ∙ in_table) (slice_get-append v ws x (slice_get_within v x w at) ∙ at);
  fresh = λ x y n w in_table at less at_y.
      proper.fresh x y n w (slice_get-append vars more x (slice_get_within vars x Sort.Fresh in_table) ∙ in_table)
      (slice_get-append v ws x (slice_get_within v x (symbol n) at) ∙ at) less (slice_get-append v ws y (slice_get_within v y w at_y) ∙ at_y);
}

pub first_true : (w : List PureValue) (xs ys : List PureAtom) → IsTrue (all_true w (xs ++ ys)) → IsTrue (all_true w xs)
first_true w xs ys all = (and_parts (all_true w xs) (all_true w ys) (sym (list_all-append (truth w) xs ys) ∙ all)).0

pub meets_part : (vars more : List Sort) (v ws : List PureValue) (atoms later : List PureAtom) → length v ≡ length vars → Each (λ a. IsOver vars (term_of a)) atoms → Satisfies (vars ++ more) (v ++ ws) (atoms ++ later) → Satisfies vars v atoms
meets_part vars more v ws atoms later one_each over meets = record {
  proper = proper_part vars more v ws one_each meets.proper;
  true_there = subst IsTrue (all_true-more vars v ws one_each atoms over) (first_true (v ++ ws) atoms later meets.true_there);
}
