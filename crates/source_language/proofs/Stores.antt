-- Stores in which temporaries have values besides: the expressions of a source program have the same values there.
use Rattle.std.proofs.Common.{◌≡◌, ◌≢◌, ℕ, List, drop, Bool, true, false, cond, Some, refl, sym, ap, ◌∙◌, true≢false}
use Rattle.std.specs.Str.{bytes_eq}
use Rattle.std.specs.Str.Parse.{digits_value}
use Rattle.std.proofs.lemmas.Bool.{and_parts}
use Rattle.std.proofs.lemmas.Slice.Eq.{bytes_eq-Decides}
use Rattle.gil_values.specs.Pure.{PureValue}
use Rattle.gil_values.specs.Operators.{unary, binary}
use Rattle.gil_values.proofs.Numerals.{numerals_tell}
use Rattle.gil_syntax.specs.Pure.{PureExpr, literal, name, logical, list_of, unary_of, binary_of, PureExprs, no_exprs, expr_and}
use Rattle.gil_syntax.specs.Evaluation.{Store, bind, value_of, set_or_fault, after_value, both, as_list, evaluate, evaluate_elements}
use Rattle.source_language.specs.Names.{is_source_name, is_source_expr, are_source_exprs, temporary, IsExtendedBy}

-- ---- names

not_true : (b : Bool) → ¬ (b ≡ true) → b ≡ false
not_true true h = absurd (h refl)
not_true false h = refl

pub same_name : (x : List ℕ) → bytes_eq x x ≡ true
same_name x = (bytes_eq-Decides x x).1 refl

pub other_name : (x y : List ℕ) → x ≢ y → bytes_eq x y ≡ false
other_name x y ne = not_true (bytes_eq x y) (λ e. ne ((bytes_eq-Decides x y).0 e))

pub not_temporary : (i : ℕ) (x : List ℕ) → is_source_name x ≡ true → bytes_eq (temporary i) x ≡ false
not_temporary i x is = other_name (temporary i) x (λ same. true≢false (sym is ∙ ap is_source_name (sym same)))

pub other_temporary : (i j : ℕ) → i ≢ j → bytes_eq (temporary i) (temporary j) ≡ false
other_temporary i j ne = other_name (temporary i) (temporary j)
    (λ same. ne (sym (numerals_tell.value i) ∙ ap (λ x. digits_value 10 (drop 2 x)) same ∙ numerals_tell.value j))

-- ---- values of names

pub bound_value : (x : List ℕ) (v : PureValue) (s : Store) → value_of (bind x v s) x ≡ Some v
bound_value x v s = ap (λ b. cond b (Some v) (value_of s x)) (same_name x)

unbound_value : (x y : List ℕ) (v : PureValue) (s : Store) → bytes_eq x y ≡ false → value_of (bind x v s) y ≡ value_of s y
unbound_value x y v s other = ap (λ b. cond b (Some v) (value_of s y)) other

pub other_temporary_value : (i j : ℕ) (v : PureValue) (s : Store) → i ≢ j
    → value_of (bind (temporary i) v s) (temporary j) ≡ value_of s (temporary j)
other_temporary_value i j v s ne = unbound_value (temporary i) (temporary j) v s (other_temporary i j ne)

pub extended_itself : (s : Store) → IsExtendedBy s s
extended_itself s x is = refl

-- the same variable with the same value in both, and a temporary in the second alone
pub extended_both : (x : List ℕ) (v : PureValue) (s t : Store) → IsExtendedBy s t → IsExtendedBy (bind x v s) (bind x v t)
extended_both x v s t more y is = ap (λ o. cond (bytes_eq x y) (Some v) o) (more y is)

pub extended_more : (i : ℕ) (v : PureValue) (s t : Store) → IsExtendedBy s t → IsExtendedBy s (bind (temporary i) v t)
extended_more i v s t more y is = unbound_value (temporary i) y v t (not_temporary i y is) ∙ more y is

-- a variable that is none of the source
pub extended_aside : (x : List ℕ) (v : PureValue) (s t : Store) → is_source_name x ≡ false → IsExtendedBy s t → IsExtendedBy s (bind x v t)
extended_aside x v s t other more y is =
    unbound_value x y v t (other_name x y (λ same. true≢false (sym is ∙ ap is_source_name (sym same) ∙ other))) ∙ more y is

-- ---- values of expressions

mutual
  pub same_value : (e : PureExpr) (s t : Store) → IsExtendedBy s t → is_source_expr e ≡ true → evaluate e t ≡ evaluate e s
  same_value (literal v) s t more is = refl
  same_value (name x) s t more is = ap set_or_fault (more x is)
  same_value (logical x) s t more is = absurd (true≢false (sym is))
  same_value (list_of es) s t more is = ap as_list (same_elements es s t more is)
  same_value (unary_of op e) s t more is = ap (λ r. after_value r (unary op)) (same_value e s t more is)
  same_value (binary_of op d e) s t more is =
      let parts = and_parts (is_source_expr d) (is_source_expr e) is in
      let left = same_value d s t more parts.0 in
      let right = same_value e s t more parts.1 in
      λ i. after_value (left i) (λ v. after_value (right i) (binary op v))

  pub same_elements : (es : PureExprs) (s t : Store) → IsExtendedBy s t → are_source_exprs es ≡ true
      → evaluate_elements es t ≡ evaluate_elements es s
  same_elements no_exprs s t more is = refl
  same_elements (expr_and e es) s t more is =
      let parts = and_parts (is_source_expr e) (are_source_exprs es) is in
      let first = same_value e s t more parts.0 in
      let rest = same_elements es s t more parts.1 in
      λ i. both (first i) (rest i)
