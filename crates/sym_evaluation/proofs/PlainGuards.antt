-- Simple guards over plain terms are plain guards, whose sides have conditions of the fragment.
use Rattle.std.proofs.Common.{◌≡◌, ⊎_elim, ℕ, pos, neg_ℤ, Bool, true, false, not, ◌&&◌, ◌||◌, if◌then◌else◌, Option, Some, None, refl, sym, ap, subst, ◌∙◌, true≢false}
use Rattle.std.proofs.lemmas.Bool.{and_parts, and_from, or_cases}
use Rattle.gil_values.specs.declared.kinds.Kind.{Kind}
use Rattle.gil_values.specs.declared.operators.UnOp.{UnOp}
use Rattle.gil_values.specs.declared.operators.BinOp.{BinOp}
use Rattle.gil_values.specs.Equality.{same_kind}
use Rattle.pure_terms.specs.declared.literals.Literal.{Literal}
use Rattle.pure_terms.specs.declared.variables.Sort.{Sort}
use Rattle.pure_terms.specs.declared.variables.Var.{Var}
use Rattle.pure_terms.specs.EqualityLaws.{same_sorts}
use Rattle.pure_terms.specs.Fragment.{is_plain, is_simple, is_flat, names_sort, is_variable_of, is_order, is_integer_side, is_fragment_term, has_form, is_simple_equality, is_comparison, is_kind_test, any_is_a_side, has_literals_between}
use Rattle.pure_terms.specs.Kinds.{same_sort, kind_of_sort, known_kind}
use Rattle.pure_terms.specs.Pure.{PureTerm, literal, variable, list_of, unary_of, binary_of, PureAtom}
use Rattle.sym_model.specs.Laws.{IsDecidedWithin}
use Rattle.sym_model.specs.Lists.{Each}
use Rattle.sym_model.proofs.ListLaws.{same_some, not_none}
use Rattle.sym_evaluation.specs.Plainly.{is_equal, is_plain_comparison, is_bare_guard, is_plain_guard, AreDecided}
use Rattle.sym_evaluation.specs.Questions.{EachSide}
use Rattle.sym_evaluation.specs.Sides.{said, variable_said, conditions_of, no_boolean, both_sides, sides_by_kind, literal_sides, sides_of}
use Rattle.sym_evaluation.proofs.PlainTerms.{plain_parts, plain_kind}

-- ---- the fragment's forms

module _ (op : BinOp) (s t : PureTerm) (is : is_plain_comparison (binary_of op s t) ≡ true) where
  parts : ((is_plain s && is_plain t) ≡ true) × ((is_equal op || (is_order op && (is_integer_side s && is_integer_side t))) ≡ true)
  parts = and_parts (is_plain s && is_plain t) (is_equal op || (is_order op && (is_integer_side s && is_integer_side t))) is

  both_plain : (is_plain s ≡ true) × (is_plain t ≡ true)
  both_plain = and_parts (is_plain s) (is_plain t) parts.0

  no_sort : (r : Sort) → names_sort r s ≡ false → names_sort r t ≡ false → names_sort r (binary_of op s t) ≡ false
  no_sort r first second = λ i. first i || second i

  no_any : names_sort Sort.Any (binary_of op s t) ≡ false
  no_any = no_sort Sort.Any (plain_parts s both_plain.0).1 (plain_parts t both_plain.1).1

  no_list : names_sort Sort.List (binary_of op s t) ≡ false
  no_list = no_sort Sort.List (plain_parts s both_plain.0).2 (plain_parts t both_plain.1).2

fragment_by : (f l k a : Bool) → f ≡ true → l ≡ false → a ≡ true → (f && (not l && (k || a))) ≡ true
fragment_by true false true true first second third = refl
fragment_by true false false true first second third = refl
fragment_by true false k false first second third = absurd (true≢false (sym third))
fragment_by true true k a first second third = absurd (true≢false second)
fragment_by false l k a first second third = absurd (true≢false (sym first))

or_true : (x : Bool) → (x || true) ≡ true
or_true true = refl
or_true false = refl

sides_apart : (f a c : Bool) → a ≡ false → c ≡ false → (f || (not a && not c)) ≡ true
sides_apart f false false first second = or_true f
sides_apart f true c first second = absurd (true≢false first)
sides_apart f false true first second = absurd (true≢false second)

equal_form : (s t : PureTerm) → is_plain_comparison (binary_of BinOp.Equal s t) ≡ true → is_fragment_term (binary_of BinOp.Equal s t) ≡ true
equal_form s t is =
    let (first, second) = both_plain BinOp.Equal s t is in
    let form : is_simple_equality (binary_of BinOp.Equal s t) ≡ true = and_from (is_simple s) (is_simple t) (plain_parts s first).0 (plain_parts t second).0 in
    fragment_by (has_form (binary_of BinOp.Equal s t)) (names_sort Sort.List (binary_of BinOp.Equal s t)) (is_kind_test (binary_of BinOp.Equal s t)) (any_is_a_side (binary_of BinOp.Equal s t))
    (ap (λ x. x || (is_comparison (binary_of BinOp.Equal s t) || is_kind_test (binary_of BinOp.Equal s t))) form)
    (no_list BinOp.Equal s t is)
    (sides_apart (is_flat s && is_flat t) (names_sort Sort.Any s) (names_sort Sort.Any t) (plain_parts s first).1 (plain_parts t second).1)

-- `<` and `<=`
module _ (op : BinOp) (s t : PureTerm) where
  order_by : is_variable_of Sort.Bool (binary_of op s t) ≡ false → is_simple_equality (binary_of op s t) ≡ false → any_is_a_side (binary_of op s t) ≡ not (names_sort Sort.Any (binary_of op s t)) → is_comparison (binary_of op s t) ≡ true → is_plain_comparison (binary_of op s t) ≡ true → is_fragment_term (binary_of op s t) ≡ true
  order_by no_variable no_equality sides compares is =
      fragment_by (has_form (binary_of op s t)) (names_sort Sort.List (binary_of op s t)) (is_kind_test (binary_of op s t)) (any_is_a_side (binary_of op s t))
      ((λ i. no_variable i || (no_equality i || (compares i || is_kind_test (binary_of op s t)))))
      (no_list op s t is)
      (sides ∙ ap not (no_any op s t is))

order_sides : (s t : PureTerm) → is_plain_comparison (binary_of BinOp.Less s t) ≡ true → is_comparison (binary_of BinOp.Less s t) ≡ true
order_sides s t is = (parts BinOp.Less s t is).1

order_or_equal_sides : (s t : PureTerm) → is_plain_comparison (binary_of BinOp.LessOrEqual s t) ≡ true → is_comparison (binary_of BinOp.LessOrEqual s t) ≡ true
order_or_equal_sides s t is = (parts BinOp.LessOrEqual s t is).1

pub no_comparison : {X : Type 0} (x y : Bool) → (x && y) ≡ true → y ≡ false → X
no_comparison x y is isnt = absurd (true≢false (sym (and_parts x y is).1 ∙ isnt))

-- a plain comparison has a form of the fragment
comparison_form : (op : BinOp) (s t : PureTerm) → is_plain_comparison (binary_of op s t) ≡ true → is_fragment_term (binary_of op s t) ≡ true
comparison_form BinOp.Equal s t is = equal_form s t is
comparison_form BinOp.Less s t is = order_by BinOp.Less s t refl refl refl (order_sides s t is) is
comparison_form BinOp.LessOrEqual s t is = order_by BinOp.LessOrEqual s t refl refl refl (order_or_equal_sides s t is) is
comparison_form BinOp.Add s t is = no_comparison (is_plain s && is_plain t) false is refl
comparison_form BinOp.Subtract s t is = no_comparison (is_plain s && is_plain t) false is refl
comparison_form BinOp.Multiply s t is = no_comparison (is_plain s && is_plain t) false is refl
comparison_form BinOp.Divide s t is = no_comparison (is_plain s && is_plain t) false is refl
comparison_form BinOp.Remainder s t is = no_comparison (is_plain s && is_plain t) false is refl
comparison_form BinOp.And s t is = no_comparison (is_plain s && is_plain t) false is refl
comparison_form BinOp.Or s t is = no_comparison (is_plain s && is_plain t) false is refl
comparison_form BinOp.Append s t is = no_comparison (is_plain s && is_plain t) false is refl
comparison_form BinOp.Nth s t is = no_comparison (is_plain s && is_plain t) false is refl

-- ---- conditions

module _ (b : ℕ) where
  abbrev Decided : PureAtom → Type 0
  Decided a = IsDecidedWithin (neg_ℤ (pos b)) (pos b) a

  abbrev HasLiterals : PureTerm → Type 0
  HasLiterals t = has_literals_between (neg_ℤ (pos b)) (pos b) t ≡ true

  said_decided : (side : Bool) (t : PureTerm) → is_fragment_term t ≡ true → HasLiterals t → Each Decided (said side t)
  said_decided true t form within = ((form, within), tt)
  said_decided false t form within = ((form, within), tt)

  -- what a comparison or a boolean variable is said to be
  comparison_decided : (side : Bool) (t : PureTerm) → is_plain_comparison t ≡ true → HasLiterals t → Each Decided (conditions_of side t)
  comparison_decided side (binary_of BinOp.Equal s t) is within = said_decided side (binary_of BinOp.Equal s t) (comparison_form BinOp.Equal s t is) within
  comparison_decided side (binary_of BinOp.Less s t) is within = said_decided side (binary_of BinOp.Less s t) (comparison_form BinOp.Less s t is) within
  comparison_decided side (binary_of BinOp.LessOrEqual s t) is within = said_decided side (binary_of BinOp.LessOrEqual s t) (comparison_form BinOp.LessOrEqual s t is) within
  comparison_decided side (binary_of BinOp.Add s t) is within = no_comparison (is_plain s && is_plain t) false is refl
  comparison_decided side (binary_of BinOp.Subtract s t) is within = no_comparison (is_plain s && is_plain t) false is refl
  comparison_decided side (binary_of BinOp.Multiply s t) is within = no_comparison (is_plain s && is_plain t) false is refl
  comparison_decided side (binary_of BinOp.Divide s t) is within = no_comparison (is_plain s && is_plain t) false is refl
  comparison_decided side (binary_of BinOp.Remainder s t) is within = no_comparison (is_plain s && is_plain t) false is refl
  comparison_decided side (binary_of BinOp.And s t) is within = no_comparison (is_plain s && is_plain t) false is refl
  comparison_decided side (binary_of BinOp.Or s t) is within = no_comparison (is_plain s && is_plain t) false is refl
  comparison_decided side (binary_of BinOp.Append s t) is within = no_comparison (is_plain s && is_plain t) false is refl
  comparison_decided side (binary_of BinOp.Nth s t) is within = no_comparison (is_plain s && is_plain t) false is refl
  comparison_decided side (literal l) is within = absurd (true≢false (sym is))
  comparison_decided side (variable x) is within = absurd (true≢false (sym is))
  comparison_decided side (list_of ts) is within = absurd (true≢false (sym is))
  comparison_decided side (unary_of op t) is within = absurd (true≢false (sym is))

  boolean_form : (x : Var) → x.sort ≡ Sort.Bool → is_fragment_term (variable x) ≡ true
  boolean_form x sort = ap (λ s. (same_sort s Sort.Bool || (false || (false || false))) && (not (same_sort s Sort.List) && (false || not (same_sort s Sort.Any)))) sort

  boolean_said : (side : Bool) (x : Var) (s : Sort) → s ≡ Sort.Bool → x.sort ≡ Sort.Bool → Each Decided (variable_said side x s)
  boolean_said side x Sort.Bool is sort = said_decided side (variable x) (boolean_form x sort) refl
  boolean_said side x Sort.Int is sort = absurd (true≢false (sym (ap (λ s. same_sort s Sort.Bool) is)))
  boolean_said side x Sort.Str is sort = absurd (true≢false (sym (ap (λ s. same_sort s Sort.Bool) is)))
  boolean_said side x Sort.Sym is sort = absurd (true≢false (sym (ap (λ s. same_sort s Sort.Bool) is)))
  boolean_said side x Sort.Fresh is sort = absurd (true≢false (sym (ap (λ s. same_sort s Sort.Bool) is)))
  boolean_said side x Sort.List is sort = absurd (true≢false (sym (ap (λ s. same_sort s Sort.Bool) is)))
  boolean_said side x Sort.Any is sort = absurd (true≢false (sym (ap (λ s. same_sort s Sort.Bool) is)))

  pub boolean_sort : (s : Sort) (k : Kind) → kind_of_sort s ≡ Some k → same_kind k Kind.Bool ≡ true → s ≡ Sort.Bool
  boolean_sort Sort.Bool k is boolean = refl
  boolean_sort Sort.Int k is boolean = absurd (true≢false (sym boolean ∙ ap (λ j. same_kind j Kind.Bool) (sym (same_some is))))
  boolean_sort Sort.Str k is boolean = absurd (true≢false (sym boolean ∙ ap (λ j. same_kind j Kind.Bool) (sym (same_some is))))
  boolean_sort Sort.Sym k is boolean = absurd (true≢false (sym boolean ∙ ap (λ j. same_kind j Kind.Bool) (sym (same_some is))))
  boolean_sort Sort.Fresh k is boolean = absurd (true≢false (sym boolean ∙ ap (λ j. same_kind j Kind.Bool) (sym (same_some is))))
  boolean_sort Sort.List k is boolean = absurd (true≢false (sym boolean ∙ ap (λ j. same_kind j Kind.Bool) (sym (same_some is))))
  boolean_sort Sort.Any k is boolean = not_none is

  both_decided : (t : PureTerm) → ((side : Bool) → Each Decided (conditions_of side t)) → EachSide Decided (both_sides t None)
  both_decided t each = (each true, each false, tt)

  variable_by : (x : Var) (k : Kind) (c : Bool) → known_kind (variable x) ≡ Some k → same_kind k Kind.Bool ≡ c → EachSide Decided (if c then both_sides (variable x) None else no_boolean)
  variable_by x k true known boolean = let sort = boolean_sort x.sort k known boolean in both_decided (variable x) (λ side. boolean_said side x x.sort sort sort)
  variable_by x k false known boolean = (tt, tt, tt)

  variable_sides : (x : Var) (o : Option Kind) → known_kind (variable x) ≡ o → is_plain (variable x) ≡ true → EachSide Decided (sides_by_kind o (variable x))
  variable_sides x (Some k) known plain = variable_by x k (same_kind k Kind.Bool) known refl
  variable_sides x None known plain = let (k, some) = plain_kind (variable x) plain in not_none (sym known ∙ some)

  literal_decided : (P : PureAtom → Type 0) (l : Literal) → EachSide P (literal_sides l)
  literal_decided P (Literal.Bool true) = (tt, tt, tt)
  literal_decided P (Literal.Bool false) = (tt, tt, tt)
  literal_decided P (Literal.Int n) = (tt, tt, tt)
  literal_decided P (Literal.Str cs) = (tt, tt, tt)
  literal_decided P (Literal.Kind k) = (tt, tt, tt)
  literal_decided P (Literal.Proc p) = (tt, tt, tt)

  -- a boolean variable
  variable_turned : (side : Bool) (t : PureTerm) → is_variable_of Sort.Bool t ≡ true → Each Decided (conditions_of side t)
  variable_turned side (variable x) is = let sort = same_sorts x.sort Sort.Bool is in boolean_said side x x.sort sort sort
  variable_turned side (literal l) is = absurd (true≢false (sym is))
  variable_turned side (list_of ts) is = absurd (true≢false (sym is))
  variable_turned side (unary_of op t) is = absurd (true≢false (sym is))
  variable_turned side (binary_of op s t) is = absurd (true≢false (sym is))

  turned_decided : (side : Bool) (t : PureTerm) → (is_variable_of Sort.Bool t || is_plain_comparison t) ≡ true → HasLiterals t → Each Decided (conditions_of side t)
  turned_decided side t is within = ⊎_elim (variable_turned side t) (λ compares. comparison_decided side t compares within) (or_cases (is_variable_of Sort.Bool t) (is_plain_comparison t) is)

  -- a comparison, which is no plain term
  compared_sides : (op : BinOp) (s t : PureTerm) → is_plain (binary_of op s t) ≡ false → known_kind (binary_of op s t) ≡ Some Kind.Bool → is_bare_guard (binary_of op s t) ≡ true → HasLiterals (binary_of op s t) → EachSide Decided (sides_by_kind (known_kind (binary_of op s t)) (binary_of op s t))
  compared_sides op s t no_plain known guard within =
      let compares : is_plain_comparison (binary_of op s t) ≡ true = sym (ap (λ x. x || is_plain_comparison (binary_of op s t)) no_plain) ∙ guard in
      subst (λ o. EachSide Decided (sides_by_kind o (binary_of op s t))) (sym known) (both_decided (binary_of op s t) (λ side. comparison_decided side (binary_of op s t) compares within))

  no_guard : {X : Type 0} (op : BinOp) (s t : PureTerm) → is_plain (binary_of op s t) ≡ false → (is_equal op || (is_order op && (is_integer_side s && is_integer_side t))) ≡ false → is_bare_guard (binary_of op s t) ≡ true → X
  no_guard op s t no_plain no_order guard =
      let compares : is_plain_comparison (binary_of op s t) ≡ true = sym (ap (λ x. x || is_plain_comparison (binary_of op s t)) no_plain) ∙ guard in
      no_comparison (is_plain s && is_plain t) _ compares no_order

  variable_plain : (x : Var) → is_bare_guard (variable x) ≡ true → is_plain (variable x) ≡ true
  variable_plain x is = ⊎_elim (λ plain. plain) (λ isnt. absurd (true≢false (sym isnt))) (or_cases (is_plain (variable x)) false is)

  sides_decided : (t : PureTerm) → is_plain_guard t ≡ true → HasLiterals t → EachSide Decided (sides_of t)
  sides_decided (literal l) is within = literal_decided Decided l
  sides_decided (variable x) is within = variable_sides x (known_kind (variable x)) refl (variable_plain x is)
  sides_decided (list_of ts) is within = (tt, tt, tt)
  sides_decided (unary_of UnOp.Not t) is within = both_decided (unary_of UnOp.Not t) (λ side. turned_decided (not side) t is within)
  sides_decided (unary_of UnOp.Neg t) is within = absurd (true≢false (sym is))
  sides_decided (unary_of UnOp.Len t) is within = absurd (true≢false (sym is))
  sides_decided (unary_of UnOp.Kind t) is within = absurd (true≢false (sym is))
  sides_decided (binary_of BinOp.Add s t) is within = (tt, tt, tt)
  sides_decided (binary_of BinOp.Subtract s t) is within = (tt, tt, tt)
  sides_decided (binary_of BinOp.Equal s t) is within = compared_sides BinOp.Equal s t refl refl is within
  sides_decided (binary_of BinOp.Less s t) is within = compared_sides BinOp.Less s t refl refl is within
  sides_decided (binary_of BinOp.LessOrEqual s t) is within = compared_sides BinOp.LessOrEqual s t refl refl is within
  sides_decided (binary_of BinOp.Multiply s t) is within = no_guard BinOp.Multiply s t refl refl is
  sides_decided (binary_of BinOp.Divide s t) is within = no_guard BinOp.Divide s t refl refl is
  sides_decided (binary_of BinOp.Remainder s t) is within = no_guard BinOp.Remainder s t refl refl is
  sides_decided (binary_of BinOp.And s t) is within = no_guard BinOp.And s t refl refl is
  sides_decided (binary_of BinOp.Or s t) is within = no_guard BinOp.Or s t refl refl is
  sides_decided (binary_of BinOp.Append s t) is within = no_guard BinOp.Append s t refl refl is
  sides_decided (binary_of BinOp.Nth s t) is within = no_guard BinOp.Nth s t refl refl is

literal_none : (t : PureTerm) (l : Literal) → t ≡ literal l → EachSide (λ a. ⊥) (sides_of t)
literal_none t l is = subst (λ u. EachSide (λ a. ⊥) (sides_of u)) (sym is) (literal_decided 0 (λ a. ⊥) l)

pub sides_are_decided : (t : PureTerm) → AreDecided t (sides_of t)
sides_are_decided t = record { conditions = λ b guard. sides_decided b t guard.0 guard.1; none_of_literals = λ l is. literal_none t l is }
