-- The rows that are always decided: differences of at most two variables, with constants that aren't far from 0.
use Rattle.std.specs.Prelude.{◌^◌, ℤ, pos, neg_ℤ, List, [], ◌∷◌, Bool, true, false, ◌&&◌, ◌||◌}
use Rattle.std.specs.Ordering.{int_eq}
use Rattle.pure_terms.specs.Numbers.{is_between}
use Rattle.linear_core.specs.declared.rows.Coefficient.{Coefficient}
use Rattle.linear_core.specs.declared.rows.Row.{Row}

-- 1 or -1
abbrev pub is_unit : ℤ → Bool
is_unit f = int_eq f (pos 1) || int_eq f (neg_ℤ (pos 1))

-- one is 1 and the other -1
abbrev pub are_opposite_units : ℤ → ℤ → Bool
are_opposite_units f g = (int_eq f (pos 1) && int_eq g (neg_ℤ (pos 1))) || (int_eq f (neg_ℤ (pos 1)) && int_eq g (pos 1))

-- no variable, one with the factor 1 or -1, or one with 1 and one with -1
abbrev pub are_of_difference : List Coefficient → Bool
are_of_difference [] = true
are_of_difference (c ∷ []) = is_unit c.factor
are_of_difference (c ∷ d ∷ []) = are_opposite_units c.factor d.factor
are_of_difference _ = false

-- a difference of at most two variables plus a constant from -2^82 to 2^82
abbrev pub is_narrow_difference : Row → Bool
is_narrow_difference row = are_of_difference row.coefficients && is_between (neg_ℤ (pos (2 ^ 82))) (pos (2 ^ 82)) row.constant
