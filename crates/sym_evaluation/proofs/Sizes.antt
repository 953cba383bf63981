-- The sizes of expressions, and their literals.
use Rattle.std.proofs.Common.{◌≡◌, ℕ, zero, suc, ◌+◌, ◌≤◌, List, [], ◌∷◌, ◌++◌, Bool, true, Some, slice_get, sym, ap, subst, ◌∙◌, refl, arith}
use Rattle.std.specs.List.{list_all, flat_map}
use Rattle.std.proofs.lemmas.Bool.{and_parts, and_from}
use Rattle.std.proofs.lemmas.Grind.{flat_map-append}
use Rattle.std.proofs.lemmas.List.Folds.{list_all-append}
use Rattle.gil_syntax.specs.Pure.{PureExpr, literal, name, logical, list_of, unary_of, binary_of, PureExprs, no_exprs, expr_and, from_list}
use Rattle.gil_syntax.specs.Subexpressions.{own_literals, literals_of, subexpressions, subexpressions_of_all}
use Rattle.gil_syntax.specs.WellMade.{is_spellable}

-- how many nodes an expression has
abbrev mutual
  pub expr_size : PureExpr → ℕ
  expr_size (literal v) = 1
  expr_size (name x) = 1
  expr_size (logical x) = 1
  expr_size (list_of es) = suc (exprs_size es)
  expr_size (unary_of op e) = suc (expr_size e)
  expr_size (binary_of op d e) = suc (expr_size d + expr_size e)

  pub exprs_size : PureExprs → ℕ
  exprs_size no_exprs = 0
  exprs_size (expr_and e es) = expr_size e + exprs_size es

-- an element is no larger than its list
pub size-element : (es : List PureExpr) (i : ℕ) (e : PureExpr) → slice_get es i ≡ Some e → expr_size e ≤ exprs_size (from_list es)
size-element [] i e is = cc
size-element (d ∷ es) zero e is = let same : d ≡ e = cc in subst (λ u. expr_size u ≤ exprs_size (from_list (d ∷ es))) same (omega arith)
size-element (d ∷ es) (suc i) e is = omega (arith, size-element es i e is)

abbrev pub is_all_spellable : PureExpr → Bool
is_all_spellable e = list_all is_spellable (literals_of e)

pub spellable_parts : (ds es : List PureExpr) → list_all is_spellable (flat_map own_literals (ds ++ es)) ≡ true → (list_all is_spellable (flat_map own_literals ds) ≡ true) × (list_all is_spellable (flat_map own_literals es) ≡ true)
spellable_parts ds es is =
    and_parts _ _ (sym (list_all-append is_spellable (flat_map own_literals ds) (flat_map own_literals es)) ∙ ap (list_all is_spellable) (sym (flat_map-append own_literals ds es)) ∙ is)

pub split_spellable : (d e : PureExpr) → list_all is_spellable (flat_map own_literals (subexpressions d ++ subexpressions e)) ≡ true → (is_all_spellable d ≡ true) × (is_all_spellable e ≡ true)
split_spellable d e is = spellable_parts (subexpressions d) (subexpressions e) is

pub each_spellable : (es : List PureExpr) → list_all is_all_spellable es ≡ true → list_all is_spellable (flat_map own_literals (subexpressions_of_all (from_list es))) ≡ true
each_spellable [] is = refl
each_spellable (e ∷ es) is =
    let parts = and_parts (is_all_spellable e) (list_all is_all_spellable es) is in
    ap (list_all is_spellable) (flat_map-append own_literals (subexpressions e) (subexpressions_of_all (from_list es)))
    ∙ list_all-append is_spellable (literals_of e) (flat_map own_literals (subexpressions_of_all (from_list es)))
    ∙ and_from (is_all_spellable e) _ parts.0 (each_spellable es parts.1)

pub elements_spellable : (es : List PureExpr) → is_all_spellable (list_of (from_list es)) ≡ true → list_all is_all_spellable es ≡ true
elements_spellable [] is = refl
elements_spellable (e ∷ es) is =
    let parts = spellable_parts (subexpressions e) (subexpressions_of_all (from_list es)) is in
    and_from (is_all_spellable e) (list_all is_all_spellable es) parts.0 (elements_spellable es parts.1)

pub element_spellable : (es : List PureExpr) (i : ℕ) (e : PureExpr) → list_all is_all_spellable es ≡ true → slice_get es i ≡ Some e → is_all_spellable e ≡ true
element_spellable [] i e all is = cc
element_spellable (d ∷ es) zero e all is = let same : d ≡ e = cc in subst (λ u. is_all_spellable u ≡ true) same (and_parts (is_all_spellable d) (list_all is_all_spellable es) all).0
element_spellable (d ∷ es) (suc i) e all is = element_spellable es i e (and_parts (is_all_spellable d) (list_all is_all_spellable es) all).1 is
