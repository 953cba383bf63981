-- The sides of a guard say which way it goes.
use Rattle.std.proofs.Common.{◌≡◌, List, [], ◌∷◌, Bool, true, false, not, ◌&&◌, ◌||◌, if◌then◌else◌, Option, Some, None, refl, sym, ap, subst, ◌∙◌, true≢false}
use Rattle.std.specs.Option.{option_and_then}
use Rattle.std.specs.Result.{result_ok}
use Rattle.std.proofs.lemmas.List.Folds.{list_all-append}
use Rattle.gil_values.specs.declared.kinds.Kind.{Kind}
use Rattle.gil_values.specs.declared.operators.UnOp.{UnOp}
use Rattle.gil_values.specs.declared.operators.BinOp.{BinOp}
use Rattle.gil_values.specs.Equality.{same_value, same_kind}
use Rattle.gil_values.specs.Operators.{unary, binary}
use Rattle.gil_values.specs.Pure.{PureValue, integer, boolean, text, symbol, kind, procedure, list, kind_of}
use Rattle.pure_terms.specs.declared.literals.Literal.{Literal}
use Rattle.pure_terms.specs.declared.variables.Sort.{Sort}
use Rattle.pure_terms.specs.declared.variables.Var.{Var}
use Rattle.pure_terms.specs.Kinds.{known_kind}
use Rattle.pure_terms.specs.Meaning.{value, truth, is_that_boolean, all_true, IsProper, IsOver}
use Rattle.pure_terms.specs.Pure.{PureTerm, literal, variable, list_of, unary_of, binary_of, PureAtom, positive, negative}
use Rattle.pure_terms.proofs.KindLaws.{known_kinds_are_right}
use Rattle.sym_model.proofs.ListLaws.{same_some, not_none}
use Rattle.sym_evaluation.specs.Checks.{is_of_kind}
use Rattle.sym_evaluation.specs.Meaning.{IsSideWhere, is_true, is_false, is_no_boolean, AreSidesOf}
use Rattle.sym_evaluation.specs.Pure.{PureSides}
use Rattle.sym_evaluation.specs.Sides.{said, is_boolean, variable_said, conditions_of, no_boolean, both_sides, sides_by_kind, literal_sides, sides_of}
use Rattle.sym_evaluation.proofs.CheckLaws.{alone, kind_value, false_as}

module _ (v : List PureValue) where
  said_is : (b : Bool) (t : PureTerm) (w : PureValue) → value v t ≡ Some w → all_true v (said b t) ≡ is_that_boolean b (Some w)
  said_is true t w is = alone v (positive t) _ (ap (is_that_boolean true) is)
  said_is false t w is = alone v (negative t) _ (ap (is_that_boolean false) is)

  same_as : (b : Bool) (w : PureValue) → same_value w (boolean b) ≡ is_that_boolean b (Some w)
  same_as true (boolean true) = refl
  same_as true (boolean false) = refl
  same_as false (boolean true) = refl
  same_as false (boolean false) = refl
  same_as true (integer n) = refl
  same_as true (text cs) = refl
  same_as true (symbol n) = refl
  same_as true (kind k) = refl
  same_as true (procedure p) = refl
  same_as true (list ws) = refl
  same_as false (integer n) = refl
  same_as false (text cs) = refl
  same_as false (symbol n) = refl
  same_as false (kind k) = refl
  same_as false (procedure p) = refl
  same_as false (list ws) = refl

  compared_value : (t : PureTerm) (b : Bool) (w : PureValue) → value v t ≡ Some w → value v (is_boolean t b) ≡ Some (boolean (same_value w (boolean b)))
  compared_value t b w is = ap (option_and_then (λ u. result_ok (binary BinOp.Equal u (boolean b)))) is

  compared_is : (b : Bool) (t : PureTerm) (w : PureValue) → value v t ≡ Some w → all_true v (positive (is_boolean t b) ∷ []) ≡ is_that_boolean b (Some w)
  compared_is b t w is = alone v (positive (is_boolean t b)) _ (ap (is_that_boolean true) (compared_value t b w is) ∙ same_as b w)

  variable_is : (b : Bool) (x : Var) (s : Sort) (w : PureValue) → value v (variable x) ≡ Some w → all_true v (variable_said b x s) ≡ is_that_boolean b (Some w)
  variable_is b x Sort.Any w is = compared_is b (variable x) w is
  variable_is b x Sort.Int w is = said_is b (variable x) w is
  variable_is b x Sort.Bool w is = said_is b (variable x) w is
  variable_is b x Sort.Str w is = said_is b (variable x) w is
  variable_is b x Sort.Sym w is = said_is b (variable x) w is
  variable_is b x Sort.Fresh w is = said_is b (variable x) w is
  variable_is b x Sort.List w is = said_is b (variable x) w is

  -- what operators of booleans tell of their operands
  abbrev IsNegated : Option PureValue → PureValue → Type 0
  IsNegated o w = (x : Bool) × ((o ≡ Some (boolean x)) × (boolean (not x) ≡ w))

  negated : (o : Option PureValue) (w : PureValue) → option_and_then (λ a. result_ok (unary UnOp.Not a)) o ≡ Some w → IsNegated o w
  negated (Some (boolean x)) w is = (x, (refl, same_some is))
  negated (Some (integer n)) w is = not_none is
  negated (Some (text cs)) w is = not_none is
  negated (Some (symbol n)) w is = not_none is
  negated (Some (kind k)) w is = not_none is
  negated (Some (procedure p)) w is = not_none is
  negated (Some (list ws)) w is = not_none is
  negated None w is = not_none is

  turned : (b x : Bool) → is_that_boolean (not b) (Some (boolean x)) ≡ is_that_boolean b (Some (boolean (not x)))
  turned true true = refl
  turned true false = refl
  turned false true = refl
  turned false false = refl

  abbrev AreJoined : (Bool → Bool → Bool) → Option PureValue → Option PureValue → PureValue → Type 0
  AreJoined f o p w = (x : Bool) × ((y : Bool) × ((o ≡ Some (boolean x)) × (p ≡ Some (boolean y)) × (boolean (f x y) ≡ w)))

  abbrev two : BinOp → Option PureValue → Option PureValue → Option PureValue
  two op o p = option_and_then (λ a. option_and_then (λ b. result_ok (binary op a b)) p) o

  second_and : (x : Bool) (p : Option PureValue) (w : PureValue) → two BinOp.And (Some (boolean x)) p ≡ Some w → AreJoined (λ x y. x && y) (Some (boolean x)) p w
  second_and x (Some (boolean y)) w is = (x, (y, (refl, refl, same_some is)))
  second_and x (Some (integer n)) w is = not_none is
  second_and x (Some (text cs)) w is = not_none is
  second_and x (Some (symbol n)) w is = not_none is
  second_and x (Some (kind k)) w is = not_none is
  second_and x (Some (procedure p)) w is = not_none is
  second_and x (Some (list ws)) w is = not_none is
  second_and x None w is = not_none is

  second_or : (x : Bool) (p : Option PureValue) (w : PureValue) → two BinOp.Or (Some (boolean x)) p ≡ Some w → AreJoined (λ x y. x || y) (Some (boolean x)) p w
  second_or x (Some (boolean y)) w is = (x, (y, (refl, refl, same_some is)))
  second_or x (Some (integer n)) w is = not_none is
  second_or x (Some (text cs)) w is = not_none is
  second_or x (Some (symbol n)) w is = not_none is
  second_or x (Some (kind k)) w is = not_none is
  second_or x (Some (procedure p)) w is = not_none is
  second_or x (Some (list ws)) w is = not_none is
  second_or x None w is = not_none is

  no_second : {Y : Type 0} (p : Option PureValue) (w : PureValue) → option_and_then (λ (b : PureValue). None) p ≡ Some w → Y
  no_second (Some b) w is = not_none is
  no_second None w is = not_none is

  anded : (o p : Option PureValue) (w : PureValue) → two BinOp.And o p ≡ Some w → AreJoined (λ x y. x && y) o p w
  anded (Some (boolean x)) p w is = second_and x p w is
  anded (Some (integer n)) p w is = no_second p w is
  anded (Some (text cs)) p w is = no_second p w is
  anded (Some (symbol n)) p w is = no_second p w is
  anded (Some (kind k)) p w is = no_second p w is
  anded (Some (procedure q)) p w is = no_second p w is
  anded (Some (list ws)) p w is = no_second p w is
  anded None p w is = not_none is

  ored : (o p : Option PureValue) (w : PureValue) → two BinOp.Or o p ≡ Some w → AreJoined (λ x y. x || y) o p w
  ored (Some (boolean x)) p w is = second_or x p w is
  ored (Some (integer n)) p w is = no_second p w is
  ored (Some (text cs)) p w is = no_second p w is
  ored (Some (symbol n)) p w is = no_second p w is
  ored (Some (kind k)) p w is = no_second p w is
  ored (Some (procedure q)) p w is = no_second p w is
  ored (Some (list ws)) p w is = no_second p w is
  ored None p w is = not_none is

  neither : (x y : Bool) → (is_that_boolean false (Some (boolean x)) && is_that_boolean false (Some (boolean y))) ≡ is_that_boolean false (Some (boolean (x || y)))
  neither true y = refl
  neither false true = refl
  neither false false = refl

  pub conditions_are : (b : Bool) (t : PureTerm) (w : PureValue) → value v t ≡ Some w → all_true v (conditions_of b t) ≡ is_that_boolean b (Some w)
  conditions_are b (variable x) w is = variable_is b x x.sort w is
  conditions_are b (literal l) w is = said_is b (literal l) w is
  conditions_are b (list_of ts) w is = said_is b (list_of ts) w is
  conditions_are b (unary_of UnOp.Not t) w is =
      let (x, (inner, outer)) = negated (value v t) w is in
      conditions_are (not b) t (boolean x) inner ∙ turned b x ∙ ap (λ u. is_that_boolean b (Some u)) outer
  conditions_are b (unary_of UnOp.Neg t) w is = said_is b (unary_of UnOp.Neg t) w is
  conditions_are b (unary_of UnOp.Len t) w is = said_is b (unary_of UnOp.Len t) w is
  conditions_are b (unary_of UnOp.Kind t) w is = said_is b (unary_of UnOp.Kind t) w is
  conditions_are true (binary_of BinOp.And s t) w is =
      let (x, (y, (first, second, whole))) = anded (value v s) (value v t) w is in
      list_all-append (truth v) (conditions_of true s) (conditions_of true t)
      ∙ (λ i. conditions_are true s (boolean x) first i && conditions_are true t (boolean y) second i)
      ∙ ap (λ u. is_that_boolean true (Some u)) whole
  conditions_are false (binary_of BinOp.Or s t) w is =
      let (x, (y, (first, second, whole))) = ored (value v s) (value v t) w is in
      list_all-append (truth v) (conditions_of false s) (conditions_of false t)
      ∙ (λ i. conditions_are false s (boolean x) first i && conditions_are false t (boolean y) second i)
      ∙ neither x y
      ∙ ap (λ u. is_that_boolean false (Some u)) whole
  conditions_are false (binary_of BinOp.And s t) w is = said_is false (binary_of BinOp.And s t) w is
  conditions_are true (binary_of BinOp.Or s t) w is = said_is true (binary_of BinOp.Or s t) w is
  conditions_are b (binary_of BinOp.Add s t) w is = said_is b (binary_of BinOp.Add s t) w is
  conditions_are b (binary_of BinOp.Subtract s t) w is = said_is b (binary_of BinOp.Subtract s t) w is
  conditions_are b (binary_of BinOp.Multiply s t) w is = said_is b (binary_of BinOp.Multiply s t) w is
  conditions_are b (binary_of BinOp.Divide s t) w is = said_is b (binary_of BinOp.Divide s t) w is
  conditions_are b (binary_of BinOp.Remainder s t) w is = said_is b (binary_of BinOp.Remainder s t) w is
  conditions_are b (binary_of BinOp.Equal s t) w is = said_is b (binary_of BinOp.Equal s t) w is
  conditions_are b (binary_of BinOp.Less s t) w is = said_is b (binary_of BinOp.Less s t) w is
  conditions_are b (binary_of BinOp.LessOrEqual s t) w is = said_is b (binary_of BinOp.LessOrEqual s t) w is
  conditions_are b (binary_of BinOp.Append s t) w is = said_is b (binary_of BinOp.Append s t) w is
  conditions_are b (binary_of BinOp.Nth s t) w is = said_is b (binary_of BinOp.Nth s t) w is

  -- ---- sides

  side_where : (x : Bool) (conds : List PureAtom) → all_true v conds ≡ x → IsSideWhere v x (Some conds)
  side_where true conds is = is
  side_where false conds is = is

  truly : (w : PureValue) → is_that_boolean true (Some w) ≡ is_true w
  truly (boolean b) = refl
  truly (integer n) = refl
  truly (text cs) = refl
  truly (symbol n) = refl
  truly (kind k) = refl
  truly (procedure p) = refl
  truly (list ws) = refl

  falsely : (w : PureValue) → is_that_boolean false (Some w) ≡ is_false w
  falsely (boolean true) = refl
  falsely (boolean false) = refl
  falsely (integer n) = refl
  falsely (text cs) = refl
  falsely (symbol n) = refl
  falsely (kind k) = refl
  falsely (procedure p) = refl
  falsely (list ws) = refl

  abbrev SidesSay : PureValue → PureSides → Type 0
  SidesSay w sides = IsSideWhere v (is_true w) sides.when_true × IsSideWhere v (is_false w) sides.when_false × IsSideWhere v (is_no_boolean w) sides.when_no_boolean

  both_say : (t : PureTerm) (w : PureValue) (otherwise : Option (List PureAtom)) → value v t ≡ Some w → IsSideWhere v (is_no_boolean w) otherwise → SidesSay w (both_sides t otherwise)
  both_say t w otherwise is says = (
    side_where (is_true w) (conditions_of true t) (conditions_are true t w is ∙ truly w),
    side_where (is_false w) (conditions_of false t) (conditions_are false t w is ∙ falsely w),
    says,
  )

  -- a value that is no boolean
  no_boolean_says : (w : PureValue) → same_kind (kind_of w) Kind.Bool ≡ false → SidesSay w no_boolean
  no_boolean_says (boolean b) other = absurd (true≢false other)
  no_boolean_says (integer n) other = (tt, tt, refl)
  no_boolean_says (text cs) other = (tt, tt, refl)
  no_boolean_says (symbol n) other = (tt, tt, refl)
  no_boolean_says (kind k) other = (tt, tt, refl)
  no_boolean_says (procedure p) other = (tt, tt, refl)
  no_boolean_says (list ws) other = (tt, tt, refl)

  never_otherwise : (w : PureValue) → same_kind (kind_of w) Kind.Bool ≡ true → IsSideWhere v (is_no_boolean w) None
  never_otherwise (boolean b) is = tt
  never_otherwise (integer n) is = absurd (true≢false (sym is))
  never_otherwise (text cs) is = absurd (true≢false (sym is))
  never_otherwise (symbol n) is = absurd (true≢false (sym is))
  never_otherwise (kind k) is = absurd (true≢false (sym is))
  never_otherwise (procedure p) is = absurd (true≢false (sym is))
  never_otherwise (list ws) is = absurd (true≢false (sym is))

  no_boolean_is : (w : PureValue) → not (same_kind (kind_of w) Kind.Bool) ≡ is_no_boolean w
  no_boolean_is (boolean b) = refl
  no_boolean_is (integer n) = refl
  no_boolean_is (text cs) = refl
  no_boolean_is (symbol n) = refl
  no_boolean_is (kind k) = refl
  no_boolean_is (procedure p) = refl
  no_boolean_is (list ws) = refl

  module _ (vars : List Sort) (proper : IsProper vars v) (t : PureTerm) (w : PureValue) (over : IsOver vars t) (is : value v t ≡ Some w) where
    by_test : (k : Kind) (b : Bool) → same_kind k Kind.Bool ≡ b → kind_of w ≡ k → SidesSay w (if b then both_sides t None else no_boolean)
    by_test k true test of_k = both_say t w None is (never_otherwise w (ap (λ j. same_kind j Kind.Bool) of_k ∙ test))
    by_test k false test of_k = no_boolean_says w (ap (λ j. same_kind j Kind.Bool) of_k ∙ test)

    by_kind_says : (o : Option Kind) → known_kind t ≡ o → SidesSay w (sides_by_kind o t)
    by_kind_says (Some k) known = by_test k (same_kind k Kind.Bool) refl (known_kinds_are_right vars v t w k proper over is known)
    by_kind_says None known =
        both_say t w _ is (side_where (is_no_boolean w) _ (alone v (negative (is_of_kind t Kind.Bool)) _ (false_as v (is_of_kind t Kind.Bool) (same_kind (kind_of w) Kind.Bool) (kind_value v t Kind.Bool w is) ∙ no_boolean_is w)))

  literal_says : (l : Literal) (w : PureValue) → value v (literal l) ≡ Some w → SidesSay w (literal_sides l)
  literal_says (Literal.Bool true) w is = subst (λ u. SidesSay u (literal_sides (Literal.Bool true))) (same_some is) (refl, tt, tt)
  literal_says (Literal.Bool false) w is = subst (λ u. SidesSay u (literal_sides (Literal.Bool false))) (same_some is) (tt, refl, tt)
  literal_says (Literal.Int n) w is = subst (λ u. SidesSay u no_boolean) (same_some is) (tt, tt, refl)
  literal_says (Literal.Str cs) w is = subst (λ u. SidesSay u no_boolean) (same_some is) (tt, tt, refl)
  literal_says (Literal.Kind k) w is = subst (λ u. SidesSay u no_boolean) (same_some is) (tt, tt, refl)
  literal_says (Literal.Proc p) w is = subst (λ u. SidesSay u no_boolean) (same_some is) (tt, tt, refl)

pub sides_are_right : (t : PureTerm) → AreSidesOf t (sides_of t)
sides_are_right (literal l) vars v w proper over is = literal_says v l w is
sides_are_right (variable x) vars v w proper over is = by_kind_says v vars proper (variable x) w over is (known_kind (variable x)) refl
sides_are_right (list_of ts) vars v w proper over is = by_kind_says v vars proper (list_of ts) w over is (known_kind (list_of ts)) refl
sides_are_right (unary_of op t) vars v w proper over is = by_kind_says v vars proper (unary_of op t) w over is (known_kind (unary_of op t)) refl
sides_are_right (binary_of op s t) vars v w proper over is = by_kind_says v vars proper (binary_of op s t) w over is (known_kind (binary_of op s t)) refl
