-- What plain expressions ask over a plain store: nothing.
use Rattle.std.proofs.Common.{◌≡◌, ⊎_elim, inl, inr, ℕ, ℤ, ◌+ℤ◌, ◌-ℤ◌, List, ◌∷◌, ◌++◌, Bool, true, false, ◌&&◌, cond, Option, Some, None, refl, sym, subst, ◌∙◌, true≢false}
use Rattle.std.specs.Option.{option_map, option_and_then}
use Rattle.std.proofs.lemmas.Bool.{and_parts}
use Rattle.gil_values.specs.declared.kinds.Kind.{Kind}
use Rattle.gil_values.specs.declared.operators.UnOp.{UnOp}
use Rattle.gil_values.specs.declared.operators.BinOp.{BinOp}
use Rattle.gil_values.specs.Pure.{PureValue}
use Rattle.gil_syntax.specs.Pure.{PureExpr, literal as value_literal, name, logical, list_of as list_expr, unary_of as unary_expr, binary_of as binary_expr, PureExprs, no_exprs, expr_and}
use Rattle.gil_syntax.specs.Simple.{shifts, is_shift as is_text_shift, is_plain_value, are_plain_values, compares}
use Rattle.gil_syntax.specs.Subexpressions.{subexpressions, subexpressions_of_all}
use Rattle.pure_terms.specs.declared.literals.Literal.{Literal}
use Rattle.pure_terms.specs.Folding.{literal_or, term_or, computed_binary, shift, joined_shift, element_term, is_nth, folded_with_literal, folded_binary}
use Rattle.pure_terms.specs.Kinds.{known_kind}
use Rattle.pure_terms.specs.Numbers.{is_held}
use Rattle.pure_terms.specs.Pure.{PureTerm, literal, variable, list_of, unary_of, binary_of, from_list, PureAtom}
use Rattle.sym_evaluation.specs.Evaluating.{spelled, literal_term}
use Rattle.sym_evaluation.specs.Plainly.{IsPlainStore}
use Rattle.sym_evaluation.specs.Pure.{PureStore, term_at}
use Rattle.sym_evaluation.specs.Questions.{substituted, all_substituted, AsksKinds, AsksTwo, IsAskedOf, IsAsked}
use Rattle.sym_evaluation.proofs.PlainTerms.{plain_kind}
use Rattle.sym_model.specs.Lists.{OneOf}
use Rattle.sym_model.proofs.ListLaws.{one_parts, same_some, not_none}
use Rattle.sym_paths.specs.Plain.{as_program, all_as_program, is_bare_form, is_program_form}

-- ---- operators whose results have a known kind

abbrev tells : BinOp → Bool
tells BinOp.Append = false
tells BinOp.Nth = false
tells _ = true

abbrev IsTold : PureTerm → Type 0
IsTold t = (k : Kind) × (known_kind t ≡ Some k)

pair_told : (op : BinOp) (s t : PureTerm) → tells op ≡ true → IsTold (binary_of op s t)
pair_told BinOp.Append s t is = absurd (true≢false (sym is))
pair_told BinOp.Nth s t is = absurd (true≢false (sym is))
pair_told BinOp.Add s t is = (Kind.Int, refl)
pair_told BinOp.Subtract s t is = (Kind.Int, refl)
pair_told BinOp.Multiply s t is = (Kind.Int, refl)
pair_told BinOp.Divide s t is = (Kind.Int, refl)
pair_told BinOp.Remainder s t is = (Kind.Int, refl)
pair_told BinOp.Equal s t is = (Kind.Bool, refl)
pair_told BinOp.Less s t is = (Kind.Bool, refl)
pair_told BinOp.LessOrEqual s t is = (Kind.Bool, refl)
pair_told BinOp.And s t is = (Kind.Bool, refl)
pair_told BinOp.Or s t is = (Kind.Bool, refl)

no_place : (op : BinOp) → tells op ≡ true → is_nth op ≡ false
no_place BinOp.Nth is = absurd (true≢false (sym is))
no_place BinOp.Append is = refl
no_place BinOp.Add is = refl
no_place BinOp.Subtract is = refl
no_place BinOp.Multiply is = refl
no_place BinOp.Divide is = refl
no_place BinOp.Remainder is = refl
no_place BinOp.Equal is = refl
no_place BinOp.Less is = refl
no_place BinOp.LessOrEqual is = refl
no_place BinOp.And is = refl
no_place BinOp.Or is = refl

literal_told : (u : PureTerm) (o : Option Literal) → IsTold u → IsTold (literal_or u o)
literal_told u (Some (Literal.Int n)) told = (Kind.Int, refl)
literal_told u (Some (Literal.Bool b)) told = (Kind.Bool, refl)
literal_told u (Some (Literal.Str s)) told = (Kind.Str, refl)
literal_told u (Some (Literal.Kind k)) told = (Kind.Kind, refl)
literal_told u (Some (Literal.Proc p)) told = (Kind.Proc, refl)
literal_told u None told = told

term_told : (u : PureTerm) (o : Option PureTerm) → IsTold u → ((w : PureTerm) → o ≡ Some w → IsTold w) → IsTold (term_or u o)
term_told u (Some w) told each = each w refl
term_told u None told each = told

shift_told : (t : PureTerm) (op : BinOp) (n : ℤ) (w : PureTerm) → tells op ≡ true → shift t op n ≡ Some w → IsTold w
shift_told t op n w told is = by (is_held n) is
  where
    by : (b : Bool) → cond b (Some (binary_of op t (literal (Literal.Int n)))) None ≡ Some w → IsTold w
    by true found = subst IsTold (same_some found) (pair_told op t (literal (Literal.Int n)) told)
    by false found = not_none found

joined_told : (t : PureTerm) (inner : BinOp) (m : ℤ) (op : BinOp) (n : ℤ) (w : PureTerm) → joined_shift t inner m op n ≡ Some w → IsTold w
joined_told t BinOp.Add m BinOp.Add n w is = shift_told t BinOp.Add (m +ℤ n) w refl is
joined_told t BinOp.Add m BinOp.Subtract n w is = shift_told t BinOp.Add (m -ℤ n) w refl is
joined_told t BinOp.Subtract m BinOp.Add n w is = shift_told t BinOp.Add (n -ℤ m) w refl is
joined_told t BinOp.Subtract m BinOp.Subtract n w is = shift_told t BinOp.Subtract (m +ℤ n) w refl is
joined_told t BinOp.Add m _ n w is = not_none is
joined_told t BinOp.Subtract m _ n w is = not_none is
joined_told t _ m op n w is = not_none is

with_literal_told : (op : BinOp) (s : PureTerm) (l : Literal) → tells op ≡ true → IsTold (folded_with_literal op s l)
with_literal_told op (literal k) l is = literal_told (binary_of op (literal k) (literal l)) (computed_binary op k l) (pair_told op (literal k) (literal l) is)
with_literal_told op (binary_of inner t (literal (Literal.Int m))) (Literal.Int n) is =
    term_told _ (joined_shift t inner m op n) (pair_told op (binary_of inner t (literal (Literal.Int m))) (literal (Literal.Int n)) is) (λ w found. joined_told t inner m op n w found)
with_literal_told op (list_of ts) (Literal.Int i) is =
    subst (λ b. IsTold (cond b (term_or (binary_of op (list_of ts) (literal (Literal.Int i))) (element_term ts i)) (binary_of op (list_of ts) (literal (Literal.Int i)))))
    (sym (no_place op is)) (pair_told op (list_of ts) (literal (Literal.Int i)) is)
with_literal_told op s l is = pair_told op s (literal l) is

folded_told : (op : BinOp) (s t : PureTerm) → tells op ≡ true → IsTold (folded_binary op s t)
folded_told op s (literal l) is = with_literal_told op s l is
folded_told op s (variable x) is = pair_told op s (variable x) is
folded_told op s (list_of ts) is = pair_told op s (list_of ts) is
folded_told op s (unary_of o t) is = pair_told op s (unary_of o t) is
folded_told op s (binary_of o t u) is = pair_told op s (binary_of o t u) is

-- ---- plain values

some_literal : (v : PureValue) (t : PureTerm) → literal_term (spelled v) ≡ Some t → IsTold t
some_literal v t = by (spelled v)
  where
    by : (o : Option Literal) → literal_term o ≡ Some t → IsTold t
    by (Some (Literal.Int n)) is = subst IsTold (same_some is) (Kind.Int, refl)
    by (Some (Literal.Bool b)) is = subst IsTold (same_some is) (Kind.Bool, refl)
    by (Some (Literal.Str s)) is = subst IsTold (same_some is) (Kind.Str, refl)
    by (Some (Literal.Kind k)) is = subst IsTold (same_some is) (Kind.Kind, refl)
    by (Some (Literal.Proc p)) is = subst IsTold (same_some is) (Kind.Proc, refl)
    by None is = not_none is

and_then_at : {X Y : Type 0} (f : X → Option Y) (o : Option X) (y : Y) → option_and_then f o ≡ Some y → (x : X) × ((o ≡ Some x) × (f x ≡ Some y))
and_then_at f (Some x) y is = (x, (refl, is))
and_then_at f None y is = not_none is

map_at : {X Y : Type 0} (f : X → Y) (o : Option X) (y : Y) → option_map f o ≡ Some y → (x : X) × ((o ≡ Some x) × (f x ≡ y))
map_at f (Some x) y is = (x, (refl, same_some is))
map_at f None y is = not_none is

shift_tells : (op : BinOp) → shifts op ≡ true → tells op ≡ true
shift_tells BinOp.Add is = refl
shift_tells BinOp.Subtract is = refl
shift_tells _ is = absurd (true≢false (sym is))

compare_tells : (op : BinOp) → compares op ≡ true → tells op ≡ true
compare_tells BinOp.Equal is = refl
compare_tells BinOp.Less is = refl
compare_tells BinOp.LessOrEqual is = refl
compare_tells _ is = absurd (true≢false (sym is))

-- what is said of the operands of a shift
data IsShiftOf : PureExpr → PureExpr → Type 0 where
  of_name : (x : List ℕ) (v : PureValue) → IsShiftOf (name x) (value_literal v)
  of_logical : (x : List ℕ) (v : PureValue) → IsShiftOf (logical x) (value_literal v)

shift_form : (op : BinOp) (d e : PureExpr) → is_text_shift op (as_program d) (as_program e) ≡ true → (shifts op ≡ true) × IsShiftOf d e
shift_form op (name x) (value_literal v) is = (is, of_name x v)
shift_form op (logical x) (value_literal v) is = (is, of_logical x v)
shift_form op (name x) (name y) is = absurd (true≢false (sym is))
shift_form op (name x) (logical y) is = absurd (true≢false (sym is))
shift_form op (name x) (list_expr es) is = absurd (true≢false (sym is))
shift_form op (name x) (unary_expr o e) is = absurd (true≢false (sym is))
shift_form op (name x) (binary_expr o d e) is = absurd (true≢false (sym is))
shift_form op (logical x) (name y) is = absurd (true≢false (sym is))
shift_form op (logical x) (logical y) is = absurd (true≢false (sym is))
shift_form op (logical x) (list_expr es) is = absurd (true≢false (sym is))
shift_form op (logical x) (unary_expr o e) is = absurd (true≢false (sym is))
shift_form op (logical x) (binary_expr o d e) is = absurd (true≢false (sym is))
shift_form op (value_literal v) e is = absurd (true≢false (sym is))
shift_form op (list_expr es) e is = absurd (true≢false (sym is))
shift_form op (unary_expr o d) e is = absurd (true≢false (sym is))
shift_form op (binary_expr o c d) e is = absurd (true≢false (sym is))

module _ (b : ℕ) (bs : PureStore) (plain : IsPlainStore b bs) where
  name_told : (x : List ℕ) (t : PureTerm) → term_at bs x ≡ Some t → IsTold t
  name_told x t at = plain_kind t (plain x t at).0

  pub value_told : (e : PureExpr) → is_plain_value (as_program e) ≡ true → (t : PureTerm) → substituted bs e ≡ Some t → IsTold t
  value_told (value_literal v) is t at = some_literal v t at
  value_told (name x) is t at = name_told x t at
  value_told (logical x) is t at = name_told x t at
  value_told (list_expr es) is t at = let (ts, (there, same)) = map_at (λ us. list_of (from_list us)) (all_substituted bs es) t at in subst IsTold same (Kind.List, refl)
  value_told (unary_expr op e) is t at = absurd (true≢false (sym is))
  value_told (binary_expr op d e) is t at =
      let (s, (first, rest)) = and_then_at (λ s. option_map (folded_binary op s) (substituted bs e)) (substituted bs d) t at in
      let (u, (second, same)) = map_at (folded_binary op s) (substituted bs e) t rest in
      subst IsTold same (folded_told op s u (shift_tells op (shift_form op d e is).0))

  pub bare_told : (e : PureExpr) → is_bare_form (as_program e) ≡ true → (t : PureTerm) → substituted bs e ≡ Some t → IsTold t
  bare_told (value_literal v) is t at = some_literal v t at
  bare_told (name x) is t at = name_told x t at
  bare_told (logical x) is t at = name_told x t at
  bare_told (list_expr es) is t at = absurd (true≢false (sym is))
  bare_told (unary_expr op e) is t at = absurd (true≢false (sym is))
  bare_told (binary_expr op d e) is t at =
      let (s, (first, rest)) = and_then_at (λ s. option_map (folded_binary op s) (substituted bs e)) (substituted bs d) t at in
      let (u, (second, same)) = map_at (folded_binary op s) (substituted bs e) t rest in
      subst IsTold same (folded_told op s u (compare_tells op (comparison_parts (compares op) (is_plain_value (as_program d)) (is_plain_value (as_program e)) is).0))
    where
      comparison_parts : (p q r : Bool) → (p && q && r) ≡ true → (p ≡ true) × (q ≡ true) × (r ≡ true)
      comparison_parts true true true all = (refl, refl, refl)
      comparison_parts true true false all = absurd (true≢false (sym all))
      comparison_parts true false r all = absurd (true≢false (sym all))
      comparison_parts false q r all = absurd (true≢false (sym all))

  -- ---- nothing is asked

  untold : (t : PureTerm) → IsTold t → ¬ (known_kind t ≡ None)
  untold t (k, told) none = not_none (sym none ∙ told)

  no_kinds : (j k : Kind) (s t : PureTerm) (a : PureAtom) → IsTold s → IsTold t → ¬ AsksKinds j k s t a
  no_kinds j k s t a first second asks = ⊎_elim (λ here. untold s first here.0) (λ there. untold t second there.1.0) asks

  no_shift : (op : BinOp) (s t : PureTerm) (a : PureAtom) → shifts op ≡ true → IsTold s → IsTold t → ¬ AsksTwo op s t a
  no_shift BinOp.Add s t a is first second asks = no_kinds Kind.Int Kind.Int s t a first second asks
  no_shift BinOp.Subtract s t a is first second asks = no_kinds Kind.Int Kind.Int s t a first second asks
  no_shift _ s t a is first second asks = absurd (true≢false (sym is))

  no_comparison : (op : BinOp) (s t : PureTerm) (a : PureAtom) → compares op ≡ true → IsTold s → IsTold t → ¬ AsksTwo op s t a
  no_comparison BinOp.Equal s t a is first second asks = asks
  no_comparison BinOp.Less s t a is first second asks = no_kinds Kind.Int Kind.Int s t a first second asks
  no_comparison BinOp.LessOrEqual s t a is first second asks = no_kinds Kind.Int Kind.Int s t a first second asks
  no_comparison _ s t a is first second asks = absurd (true≢false (sym is))

  abbrev Asked : PureAtom → List PureExpr → Type 0
  Asked a ns = OneOf (IsAskedOf bs a) ns

  shift_asks : (op : BinOp) (d e : PureExpr) (a : PureAtom) → shifts op ≡ true → IsShiftOf d e → ¬ Asked a (binary_expr op d e ∷ (subexpressions d ++ subexpressions e))
  shift_asks op d e a is (of_name x v) (inl (s, (t, (first, second, asks)))) = no_shift op s t a is (name_told x s first) (some_literal v t second) asks
  shift_asks op d e a is (of_name x v) (inr (inl none)) = none
  shift_asks op d e a is (of_name x v) (inr (inr (inl none))) = none
  shift_asks op d e a is (of_name x v) (inr (inr (inr none))) = none
  shift_asks op d e a is (of_logical x v) (inl (s, (t, (first, second, asks)))) = no_shift op s t a is (name_told x s first) (some_literal v t second) asks
  shift_asks op d e a is (of_logical x v) (inr (inl none)) = none
  shift_asks op d e a is (of_logical x v) (inr (inr (inl none))) = none
  shift_asks op d e a is (of_logical x v) (inr (inr (inr none))) = none

  mutual
    pub value_asks : (e : PureExpr) → is_plain_value (as_program e) ≡ true → (a : PureAtom) → ¬ Asked a (subexpressions e)
    value_asks (value_literal v) is a (inl none) = none
    value_asks (value_literal v) is a (inr none) = none
    value_asks (name x) is a (inl none) = none
    value_asks (name x) is a (inr none) = none
    value_asks (logical x) is a (inl none) = none
    value_asks (logical x) is a (inr none) = none
    value_asks (list_expr es) is a (inl none) = none
    value_asks (list_expr es) is a (inr later) = all_ask es is a later
    value_asks (unary_expr op e) is a asked = absurd (true≢false (sym is))
    value_asks (binary_expr op d e) is a asked = let (shift_is, form) = shift_form op d e is in shift_asks op d e a shift_is form asked

    all_ask : (es : PureExprs) → are_plain_values (all_as_program es) ≡ true → (a : PureAtom) → ¬ Asked a (subexpressions_of_all es)
    all_ask no_exprs is a asked = asked
    all_ask (expr_and e es) is a asked =
        let (here, there) = and_parts (is_plain_value (as_program e)) (are_plain_values (all_as_program es)) is in
        ⊎_elim (value_asks e here a) (all_ask es there a) (one_parts (IsAskedOf bs a) (subexpressions e) (subexpressions_of_all es) asked)

  bare_asks : (e : PureExpr) → is_bare_form (as_program e) ≡ true → (a : PureAtom) → ¬ Asked a (subexpressions e)
  bare_asks (value_literal v) is a (inl none) = none
  bare_asks (value_literal v) is a (inr none) = none
  bare_asks (name x) is a (inl none) = none
  bare_asks (name x) is a (inr none) = none
  bare_asks (logical x) is a (inl none) = none
  bare_asks (logical x) is a (inr none) = none
  bare_asks (list_expr es) is a asked = absurd (true≢false (sym is))
  bare_asks (unary_expr op e) is a asked = absurd (true≢false (sym is))
  bare_asks (binary_expr op d e) is a asked =
      let (first, rest) = and_parts (compares op && is_plain_value (as_program d)) (is_plain_value (as_program e)) (regroup (compares op) (is_plain_value (as_program d)) (is_plain_value (as_program e)) is) in
      let (compare_is, left) = and_parts (compares op) (is_plain_value (as_program d)) first in
      by compare_is left rest asked
    where
      regroup : (p q r : Bool) → (p && q && r) ≡ true → ((p && q) && r) ≡ true
      regroup true q r all = all
      regroup false q r all = all

      by : compares op ≡ true → is_plain_value (as_program d) ≡ true → is_plain_value (as_program e) ≡ true → ¬ Asked a (binary_expr op d e ∷ (subexpressions d ++ subexpressions e))
      by compare_is left right (inl (s, (t, (first, second, asks)))) = no_comparison op s t a compare_is (value_told d left s first) (value_told e right t second) asks
      by compare_is left right (inr later) = ⊎_elim (value_asks d left a) (value_asks e right a) (one_parts (IsAskedOf bs a) (subexpressions d) (subexpressions e) later)

  pub form_asks : (e : PureExpr) → is_program_form (as_program e) ≡ true → (a : PureAtom) → ¬ IsAsked bs e a
  form_asks (unary_expr UnOp.Not e) is a (inl (t, (at, asks))) = untold t (bare_told e is t at) asks.0
  form_asks (unary_expr UnOp.Not e) is a (inr later) = bare_asks e is a later
  form_asks (unary_expr UnOp.Neg e) is a asked = absurd (true≢false (sym is))
  form_asks (unary_expr UnOp.Len e) is a asked = absurd (true≢false (sym is))
  form_asks (unary_expr UnOp.Kind e) is a asked = absurd (true≢false (sym is))
  form_asks (value_literal v) is a asked = bare_asks (value_literal v) is a asked
  form_asks (name x) is a asked = bare_asks (name x) is a asked
  form_asks (logical x) is a asked = bare_asks (logical x) is a asked
  form_asks (list_expr es) is a asked = bare_asks (list_expr es) is a asked
  form_asks (binary_expr op d e) is a asked = bare_asks (binary_expr op d e) is a asked
