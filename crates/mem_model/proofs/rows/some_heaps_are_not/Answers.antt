use Rattle.std.proofs.Common.{◌≡◌, ℤ, pos, negsuc, Bool, true, false, refl, sym, ap, true≢false}
use Rattle.std.specs.Prelude.{codes}
use Rattle.gil_values.specs.Pure.{PureValue, integer, boolean}
use Rattle.mem_model.specs.declared.keys.Sub.{Sub}
use Rattle.mem_model.specs.declared.keys.Sub.TheVariants.{Name, At, Shape, Bound, Dom, Gone}
use Rattle.mem_model.specs.Keys.{key}
use Rattle.mem_model.specs.Rows.{gone_and_a_name, gone_is_false, shape_is_a_number, shape_of_numbers, names_twice, name_outside_shape, name_outside_dom, bound_is_true, cell_at_the_bound, cell_below_zero, record_and_block, a_and_b}
use Rattle.mem_model.proofs.WellFormed.{held, kept}
use Rattle.mem_model.proofs.rows.some_heaps_are_not.Goals as goal

abbrev truth : PureValue → Bool
truth (boolean b) = b
truth _ = false

no_number : (n : ℤ) → ¬ (boolean true ≡ integer n)
no_number n same = true≢false (ap truth same)

pub returns-clause-gone_alone : goal.returns-clause-gone_alone
returns-clause-gone_alone c w = let same : ◌≡◌ {A = Sub} (Name (codes "a")) Gone = w.gone_alone 3 (Name (codes "a")) (kept gone_and_a_name (key 3 Gone) _ refl) (kept gone_and_a_name (key 3 (Name (codes "a"))) _ refl) in cc

pub returns-clause-gone_is_true : goal.returns-clause-gone_is_true
returns-clause-gone_is_true c w = let same : boolean false ≡ boolean true = w.gone_is_true 3 (boolean false) (held gone_is_false (key 3 Gone) _ refl) in true≢false (sym (ap truth same))

pub returns-clause-shape_is_a_list : goal.returns-clause-shape_is_a_list
returns-clause-shape_is_a_list c w = true≢false (sym (w.name_lists 3 Shape _ tt (held shape_is_a_number (key 3 Shape) _ refl)))

pub returns-clause-shape_has_texts : goal.returns-clause-shape_has_texts
returns-clause-shape_has_texts c w = true≢false (sym (w.name_lists 3 Shape _ tt (held shape_of_numbers (key 3 Shape) _ refl)))

pub returns-clause-names_are_distinct : goal.returns-clause-names_are_distinct
returns-clause-names_are_distinct c w = true≢false (sym (w.name_lists 3 Dom _ tt (held names_twice (key 3 Dom) _ refl)))

pub returns-clause-names_of_records : goal.returns-clause-names_of_records
returns-clause-names_of_records c w = true≢false (sym (w.names_listed 3 Shape a_and_b tt (held name_outside_shape (key 3 Shape) _ refl) (codes "c") (kept name_outside_shape (key 3 (Name (codes "c"))) _ refl)))

pub returns-clause-names_of_objects : goal.returns-clause-names_of_objects
returns-clause-names_of_objects c w = true≢false (sym (w.names_listed 3 Dom a_and_b tt (held name_outside_dom (key 3 Dom) _ refl) (codes "c") (kept name_outside_dom (key 3 (Name (codes "c"))) _ refl)))

pub returns-clause-bound_is_a_number : goal.returns-clause-bound_is_a_number
returns-clause-bound_is_a_number c w = let number = w.bound_is_number 3 (boolean true) (held bound_is_true (key 3 Bound) _ refl) in no_number number.0 number.1

pub returns-clause-cells_below_the_bound : goal.returns-clause-cells_below_the_bound
returns-clause-cells_below_the_bound c w = let within = w.cells_in_bound 3 (pos 2) (pos 2) (held cell_at_the_bound (key 3 Bound) _ refl) (kept cell_at_the_bound (key 3 (At (pos 2))) _ refl) in within.1.lt

pub returns-clause-cells_from_zero : goal.returns-clause-cells_from_zero
returns-clause-cells_from_zero c w = let within = w.cells_in_bound 3 (pos 2) (negsuc 0) (held cell_below_zero (key 3 Bound) _ refl) (kept cell_below_zero (key 3 (At (negsuc 0))) _ refl) in within.0.le

pub returns-clause-one_descriptor : goal.returns-clause-one_descriptor
returns-clause-one_descriptor c w = let same : ◌≡◌ {A = Sub} Shape Bound = w.one_descriptor 3 Shape Bound tt tt (kept record_and_block (key 3 Shape) _ refl) (kept record_and_block (key 3 Bound) _ refl) in cc
