-- The names of expressions, level by level.
use Rattle.std.proofs.Common.{◌≡◌, ℕ, List, [], ◌∷◌, ◌++◌, Bool, true, false, not, ◌&&◌, ◌||◌, refl, sym, ap, ◌∙◌, append_assoc}
use Rattle.std.specs.List.{list_all, list_any, flat_map}
use Rattle.std.specs.Str.{bytes_eq}
use Rattle.gil_values.specs.declared.operators.BinOp.{BinOp}
use Rattle.gil_syntax.specs.declared.expressions.Expr
use Rattle.gil_syntax.specs.declared.expressions.Expr.{Expr}
use Rattle.gil_syntax.specs.declared.expressions.Exprs.{Exprs}
use Rattle.gil_syntax.specs.Pure.{PureExpr, binary_of, from_list}
use Rattle.gil_syntax.specs.Subexpressions.{subexpressions, subexpressions_of_all, own_names}
use Rattle.gil_syntax.specs.Valid.{is_among}
use Rattle.gil_syntax.specs.View.{expr_view, exprs_view}
use Rattle.gil_syntax.proofs.ExpressionLemmas.{expr_view-List}
use Rattle.assert_logic.specs.Names.{Known, knows_all, is_other}

and_assoc : (a b c : Bool) → ((a && b) && c) ≡ (a && (b && c))
and_assoc true b c = refl
and_assoc false b c = refl

all_append : {X : Type 0} (f : X → Bool) (xs ys : List X) → list_all f (xs ++ ys) ≡ (list_all f xs && list_all f ys)
all_append f [] ys = refl
all_append f (x ∷ xs) ys = ap (λ b. f x && b) (all_append f xs ys) ∙ sym (and_assoc (f x) (list_all f xs) (list_all f ys))

flat_append : {X Y : Type 0} (f : X → List Y) (xs ys : List X) → flat_map f (xs ++ ys) ≡ flat_map f xs ++ flat_map f ys
flat_append f [] ys = refl
flat_append f (x ∷ xs) ys = ap (λ zs. f x ++ zs) (flat_append f xs ys) ∙ sym (append_assoc (f x) (flat_map f xs) (flat_map f ys))

module _ (known : Known) where
  nodes_append : (xs ys : List PureExpr) → list_all known (flat_map own_names (xs ++ ys)) ≡ (list_all known (flat_map own_names xs) && list_all known (flat_map own_names ys))
  nodes_append xs ys = ap (list_all known) (flat_append own_names xs ys) ∙ all_append known (flat_map own_names xs) (flat_map own_names ys)

  elements_known : (es : List PureExpr) → list_all known (flat_map own_names (subexpressions_of_all (from_list es))) ≡ list_all (knows_all known) es
  elements_known [] = refl
  elements_known (e ∷ es) = nodes_append (subexpressions e) (subexpressions_of_all (from_list es)) ∙ ap (λ b. knows_all known e && b) (elements_known es)

  pub list_known : (whole : Expr) (es : Exprs) → whole ≡ Expr.List es → knows_all known (expr_view whole) ≡ list_all (knows_all known) (exprs_view es)
  list_known whole es is =
      ap (λ e. knows_all known (expr_view e)) is ∙ ap (knows_all known) (expr_view-List es) ∙ elements_known (exprs_view es)

  pub pair_known : (op : BinOp) (d e : PureExpr) → knows_all known (binary_of op d e) ≡ (knows_all known d && knows_all known e)
  pair_known op d e = nodes_append (subexpressions d) (subexpressions e)

-- what isn't other than a name stands among the names
not_all : (f : List ℕ → Bool) (xs : List (List ℕ)) → not (list_all (λ y. not (f y)) xs) ≡ list_any f xs
not_all f [] = refl
not_all f (x ∷ xs) = by (f x) (not_all f xs)
  where
    by : (b : Bool) → not (list_all (λ y. not (f y)) xs) ≡ list_any f xs → not (not b && list_all (λ y. not (f y)) xs) ≡ (b || list_any f xs)
    by true is = refl
    by false is = is

pub stands_among : (x : List ℕ) (xs : List (List ℕ)) → not (list_all (is_other x) xs) ≡ is_among xs x
stands_among x xs = not_all (bytes_eq x) xs
