-- Texts of which the parts were added one after another.
use Rattle.std.proofs.Common.{◌≡◌, ℕ, List, [], ◌∷◌, ◌++◌, map, refl, ap, append_assoc}
use Rattle.std.specs.Prelude.{codes}
use Rattle.gil_values.specs.declared.operators.UnOp.{UnOp}
use Rattle.gil_values.specs.declared.operators.BinOp.{BinOp}
use Rattle.gil_syntax.specs.Pure.{PureExpr, list_of, unary_of, binary_of, from_list}
use Rattle.gil_values.proofs.Joined.{join_by-map}
use Rattle.syntax_print.specs.Expressions.{unary_name, before_operands, between_operands, printed_expr, printed_elements, printed_exprs}

printed_elements-from_list : (es : List PureExpr) → printed_elements (from_list es) ≡ map printed_expr es
printed_elements-from_list [] = refl
printed_elements-from_list (e ∷ es) = ap (λ texts. printed_expr e ∷ texts) (printed_elements-from_list es)

pub printed_expr-list_of : (es : List PureExpr) → printed_expr (list_of (from_list es)) ≡ codes "[" ++ printed_exprs es ++ codes "]"
printed_expr-list_of es = rw (printed_elements-from_list es, join_by-map printed_expr (codes ", ") es) refl

pub list_added : (e : PureExpr) (es : List PureExpr) (start a b all : List ℕ) → e ≡ list_of (from_list es)
    → a ≡ start ++ codes "[" → b ≡ a ++ printed_exprs es → all ≡ b ++ codes "]" → all ≡ start ++ printed_expr e
list_added e es start a b all is f g h = rw (h, g, f, is, printed_expr-list_of es) (simp append_assoc)

pub unary_added : (e : PureExpr) (op : UnOp) (d : PureExpr) (start a b c all : List ℕ) → e ≡ unary_of op d
    → a ≡ start ++ unary_name op → b ≡ a ++ codes "(" → c ≡ b ++ printed_expr d → all ≡ c ++ codes ")" → all ≡ start ++ printed_expr e
unary_added e op d start a b c all is f g h i = rw (i, h, g, f, is) (simp append_assoc)

pub binary_added : (e : PureExpr) (op : BinOp) (d d' : PureExpr) (start a b c f all : List ℕ) → e ≡ binary_of op d d'
    → a ≡ start ++ before_operands op → b ≡ a ++ printed_expr d → c ≡ b ++ between_operands op → f ≡ c ++ printed_expr d' → all ≡ f ++ codes ")"
    → all ≡ start ++ printed_expr e
binary_added e op d d' start a b c f all is g h i j k = rw (k, j, i, h, g, is) (simp append_assoc)

pub invariant_added : (names variables block start a b c d e all : List ℕ)
    → a ≡ start ++ codes "invariant (" → b ≡ a ++ names → c ≡ b ++ codes ") " → d ≡ c ++ variables → e ≡ d ++ codes " " → all ≡ e ++ block
    → all ≡ start ++ (codes "invariant (" ++ names ++ codes ") " ++ variables ++ codes " " ++ block)
invariant_added names variables block start a b c d e all f g h i j k = rw (k, j, i, h, g, f) (simp append_assoc)

pub spec_added : (name params variables pre posts start a b c d e f g h i all : List ℕ)
    → a ≡ start ++ codes "spec " → b ≡ a ++ name → c ≡ b ++ codes "(" → d ≡ c ++ params → e ≡ d ++ codes ") " → f ≡ e ++ variables
    → g ≡ f ++ codes " " → h ≡ g ++ pre → i ≡ h ++ posts → all ≡ i ++ codes "\n"
    → all ≡ start ++ (codes "spec " ++ name ++ codes "(" ++ params ++ codes ") " ++ variables ++ codes " " ++ pre ++ posts ++ codes "\n")
spec_added name params variables pre posts start a b c d e f g h i all k l m n o p q r s t =
    rw (t, s, r, q, p, o, n, m, l, k) (simp append_assoc)

pub pred_added : (name ins outs variables cases start a b c d e f g h i j all : List ℕ)
    → a ≡ start ++ codes "pred " → b ≡ a ++ name → c ≡ b ++ codes "(" → d ≡ c ++ ins → e ≡ d ++ codes ";" → f ≡ e ++ outs
    → g ≡ f ++ codes ") " → h ≡ g ++ variables → i ≡ h ++ codes " " → j ≡ i ++ cases → all ≡ j ++ codes "\n"
    → all ≡ start ++ (codes "pred " ++ name ++ codes "(" ++ ins ++ codes ";" ++ outs ++ codes ") " ++ variables ++ codes " " ++ cases ++ codes "\n")
pred_added name ins outs variables cases start a b c d e f g h i j all k l m n o p q r s t u =
    rw (u, t, s, r, q, p, o, n, m, l, k) (simp append_assoc)
