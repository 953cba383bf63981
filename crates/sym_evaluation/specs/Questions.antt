-- Where the terms and conditions of an evaluation come from: what may be asked of the operands of an expression, and of a guard.
use Rattle.std.specs.Prelude.{◌≡◌, ◌⊎◌, pos, int_lt, List, [], ◌∷◌, ◌++◌, Bool, true, false, not, ◌&&◌, ◌||◌, MatchBool, Option, Some, None, IsTrue}
use Rattle.std.specs.Option.{option_map, option_and_then}
use Rattle.gil_values.specs.declared.kinds.Kind.{Kind}
use Rattle.gil_values.specs.declared.operators.UnOp.{UnOp}
use Rattle.gil_values.specs.declared.operators.BinOp.{BinOp}
use Rattle.gil_syntax.specs.Pure.{PureExpr, literal as value_literal, name, logical, list_of as list_expr, unary_of as unary_expr, binary_of as binary_expr, PureExprs, no_exprs, expr_and, from_list as exprs_from}
use Rattle.gil_syntax.specs.Subexpressions.{subexpressions}
use Rattle.pure_terms.specs.declared.literals.Literal.{Literal}
use Rattle.pure_terms.specs.declared.variables.Sort.{Sort}
use Rattle.pure_terms.specs.declared.variables.Var.{Var}
use Rattle.pure_terms.specs.Folding.{folded_unary, folded_binary}
use Rattle.pure_terms.specs.Fragment.{is_variable_of, has_fragment_form}
use Rattle.pure_terms.specs.Kinds.{allows, known_kind}
use Rattle.pure_terms.specs.Meaning.{IsOver}
use Rattle.pure_terms.specs.Pure.{PureTerm, literal, variable, list_of, unary_of, binary_of, from_list, PureAtom, positive, negative, opening, term_of}
use Rattle.pure_terms.specs.Rewriting.{Replaces}
use Rattle.sym_evaluation.specs.Checks.{is_of_kind, has_length, are_of_one_kind, is_zero, is_negative, length_of, is_below}
use Rattle.sym_evaluation.specs.Evaluating.{spelled, literal_term}
use Rattle.sym_evaluation.specs.Meaning.{IsStoreOver}
use Rattle.sym_evaluation.specs.Pure.{PureStore, term_at, PureGoodCase, PureCases, PureSides}
use Rattle.sym_evaluation.specs.Sides.{is_boolean}
use Rattle.sym_model.specs.Lists.{Each, OneOf}
use Rattle.sym_model.specs.Terms.{is_literal}

-- The term of the expression: each name is replaced by its term, and each operator is folded where its operands tell more of its value, as
-- `((v + 1) + 1)` to `(v + 2)`.
abbrev mutual
  pub substituted : PureStore → PureExpr → Option PureTerm
  substituted bs (value_literal v) = literal_term (spelled v)
  substituted bs (name x) = term_at bs x
  substituted bs (logical x) = term_at bs x
  substituted bs (list_expr es) = option_map (λ ts. list_of (from_list ts)) (all_substituted bs es)
  substituted bs (unary_expr op e) = option_map (folded_unary op) (substituted bs e)
  substituted bs (binary_expr op d e) = option_and_then (λ s. option_map (folded_binary op s) (substituted bs e)) (substituted bs d)

  pub all_substituted : PureStore → PureExprs → Option (List PureTerm)
  all_substituted bs no_exprs = Some []
  all_substituted bs (expr_and e es) = option_and_then (λ t. option_map (λ ts. t ∷ ts) (all_substituted bs es)) (substituted bs e)

abbrev pub IsTermOf : PureStore → PureExpr → PureTerm → Type 0
IsTermOf bs e t = substituted bs e ≡ Some t

-- the terms of a list of expressions
abbrev pub AreTermsOf : PureStore → List PureExpr → List PureTerm → Type 0
AreTermsOf bs es ts = all_substituted bs (exprs_from es) ≡ Some ts

-- ---- questions

-- the atom says that the term is true, or that it is false
abbrev pub IsAbout : PureTerm → PureAtom → Type 0
IsAbout u (positive t) = t ≡ u
IsAbout u (negative t) = t ≡ u
IsAbout u (opening t) = ⊥

-- that an operand is of a kind, where form and sorts leave its kind open
abbrev pub AsksKind : Kind → PureTerm → PureAtom → Type 0
AsksKind k t a = (known_kind t ≡ None) × IsAbout (is_of_kind t k) a

-- that an operand whose kind is open isn't of some kind: texts and lists have a length
abbrev pub AsksLength : PureTerm → PureAtom → Type 0
AsksLength t a = (k : Kind) × ((known_kind t ≡ None) × (a ≡ negative (is_of_kind t k)))

-- that two operands are of these kinds; the second is asked only where the first may be of its kind
abbrev pub AsksKinds : Kind → Kind → PureTerm → PureTerm → PureAtom → Type 0
AsksKinds j k s t a = AsksKind j s a ⊎ (IsTrue (allows (known_kind s) j) × AsksKind k t a)

-- form and sorts allow these kinds
abbrev pub MayBeOfKinds : Kind → Kind → PureTerm → PureTerm → Type 0
MayBeOfKinds j k s t = IsTrue (allows (known_kind s) j) × IsTrue (allows (known_kind t) k)

-- that both operands of `++` are texts or both are lists: where both kinds are open, that they are one; else that the other operand is of
-- the known kind
abbrev pub AsksAppended : PureTerm → PureTerm → PureAtom → Type 0
AsksAppended s t a =
    ((known_kind s ≡ None) × (known_kind t ≡ None) × (IsAbout (are_of_one_kind s t) a ⊎ AsksLength s a))
    ⊎ ((k : Kind) × (IsTrue (has_length k) × (((known_kind s ≡ Some k) × AsksKind k t a) ⊎ ((known_kind t ≡ Some k) × AsksKind k s a))))

-- that a divisor is 0, where both may be integers and the divisor is no literal
abbrev pub AsksZero : PureTerm → PureTerm → PureAtom → Type 0
AsksZero s t a = MayBeOfKinds Kind.Int Kind.Int s t × (is_literal t ≡ false) × IsAbout (is_zero t) a

-- the term is no number below 0, by its form
abbrev pub may_be_place : PureTerm → Bool
may_be_place (literal (Literal.Int n)) = not (int_lt n (pos 0))
may_be_place t = true

-- that a place is below 0, or below the length of a list, where these may be an integer and a list and aren't decided by their forms
abbrev pub AsksPlace : PureTerm → PureTerm → PureAtom → Type 0
AsksPlace s t a =
    MayBeOfKinds Kind.List Kind.Int s t
    × (((is_literal t ≡ false) × IsAbout (is_negative t) a)
    ⊎ (IsTrue (may_be_place t) × ((is_literal t && is_literal (length_of s)) ≡ false) × IsAbout (is_below t (length_of s)) a))

-- what an operator asks of its operand
abbrev pub AsksOne : UnOp → PureTerm → PureAtom → Type 0
AsksOne UnOp.Not t a = AsksKind Kind.Bool t a
AsksOne UnOp.Neg t a = AsksKind Kind.Int t a
AsksOne UnOp.Len t a = AsksLength t a
AsksOne UnOp.Kind t a = ⊥

-- what an operator asks of two operands
abbrev pub AsksTwo : BinOp → PureTerm → PureTerm → PureAtom → Type 0
AsksTwo BinOp.Equal s t a = ⊥
AsksTwo BinOp.And s t a = AsksKinds Kind.Bool Kind.Bool s t a
AsksTwo BinOp.Or s t a = AsksKinds Kind.Bool Kind.Bool s t a
AsksTwo BinOp.Append s t a = AsksAppended s t a
AsksTwo BinOp.Divide s t a = AsksKinds Kind.Int Kind.Int s t a ⊎ AsksZero s t a
AsksTwo BinOp.Remainder s t a = AsksKinds Kind.Int Kind.Int s t a ⊎ AsksZero s t a
AsksTwo BinOp.Nth s t a = AsksKinds Kind.List Kind.Int s t a ⊎ AsksPlace s t a
AsksTwo BinOp.Add s t a = AsksKinds Kind.Int Kind.Int s t a
AsksTwo BinOp.Subtract s t a = AsksKinds Kind.Int Kind.Int s t a
AsksTwo BinOp.Multiply s t a = AsksKinds Kind.Int Kind.Int s t a
AsksTwo BinOp.Less s t a = AsksKinds Kind.Int Kind.Int s t a
AsksTwo BinOp.LessOrEqual s t a = AsksKinds Kind.Int Kind.Int s t a

-- what is asked of the terms of an operator's operands
abbrev pub IsAskedOf : PureStore → PureAtom → PureExpr → Type 0
IsAskedOf bs a (unary_expr op e) = (t : PureTerm) × (IsTermOf bs e t × AsksOne op t a)
IsAskedOf bs a (binary_expr op d e) = (s : PureTerm) × ((t : PureTerm) × (IsTermOf bs d s × IsTermOf bs e t × AsksTwo op s t a))
IsAskedOf bs a _ = ⊥

-- The condition is one that the expression asks of the operands of an operator in it.
abbrev pub IsAsked : PureStore → PureExpr → PureAtom → Type 0
IsAsked bs e a = OneOf (IsAskedOf bs a) (subexpressions e)

-- ---- laws of cases

-- what holds of each condition, and of the result
abbrev pub OnResult : {X : Type 0} → (X → Type 0) → Option (PureGoodCase X) → Type 0
OnResult P None = Unit {0}
OnResult P (Some g) = P g.result

abbrev pub OnConditions : {X : Type 0} → (PureAtom → Type 0) → Option (PureGoodCase X) → Type 0
OnConditions P None = Unit {0}
OnConditions P (Some g) = Each P g.conds

abbrev pub EachCondition : {X : Type 0} → (PureAtom → Type 0) → PureCases X → Type 0
EachCondition P cases = Each (λ c. Each P c.conds) cases.faults × OnConditions P cases.good

-- Each condition is one that the expression asks, and the result is the term of the expression.
abbrev pub ComesFrom : PureStore → PureExpr → PureCases PureTerm → Type 0
ComesFrom bs e cases = EachCondition (IsAsked bs e) cases × OnResult (IsTermOf bs e) cases.good

-- the same of a list of expressions
abbrev pub AllComeFrom : PureStore → List PureExpr → PureCases (List PureTerm) → Type 0
AllComeFrom bs es cases = EachCondition (λ a. OneOf (λ e. IsAsked bs e a) es) cases × OnResult (AreTermsOf bs es) cases.good

-- conditions and result name only variables of the table, where the store does
abbrev pub NameNoOthers : {X : Type 0} → (List Sort → X → Type 0) → PureStore → PureCases X → Type 0
NameNoOthers Over bs cases =
    (vars : List Sort) → IsStoreOver vars bs → EachCondition (λ a. IsOver vars (term_of a)) cases × OnResult (Over vars) cases.good

abbrev pub AreEachOver : List Sort → List PureTerm → Type 0
AreEachOver vars ts = Each (IsOver vars) ts

-- ---- what may stand for a guard's term

abbrev pub negates : UnOp → Bool
negates UnOp.Not = true
negates op = false

-- `and` and `or`
abbrev pub connects : BinOp → Bool
connects BinOp.And = true
connects BinOp.Or = true
connects op = false

-- The term by itself is an atom of the fragment, or surely no boolean.
abbrev pub stands_as_it_is : PureTerm → Bool
stands_as_it_is t = has_fragment_form (positive t) || not (allows (known_kind t) Kind.Bool)

-- what may stand for a part of a guard: the part itself, where it stands as it is; for any other one, what may be put in its place
abbrev pub MayStandForPart : PureTerm → PureTerm → Type 0
MayStandForPart u t = MatchBool (stands_as_it_is u) (t ≡ u) (Replaces u t)

-- What may stand for a guard's term: under `not`, `and` and `or` the same form over what may stand for the operands.
abbrev pub MayStandForGuard : PureTerm → PureTerm → Type 0
MayStandForGuard (unary_of op u) t =
    MatchBool (negates op) ((w : PureTerm) × ((t ≡ unary_of op w) × MayStandForGuard u w)) (MayStandForPart (unary_of op u) t)
MayStandForGuard (binary_of op p q) t =
    MatchBool (connects op)
    ((r : PureTerm) × ((s : PureTerm) × ((t ≡ binary_of op r s) × MayStandForGuard p r × MayStandForGuard q s)))
    (MayStandForPart (binary_of op p q) t)
MayStandForGuard u t = MayStandForPart u t

-- the term may stand for that of the guard's expression
abbrev pub IsGuardTerm : PureStore → PureExpr → PureTerm → Type 0
IsGuardTerm bs e t = (u : PureTerm) × (IsTermOf bs e u × MayStandForGuard u t)

-- ---- what is asked of guards

-- a term, and its parts under `and` and `or`; `not` turns what is asked of its operand
abbrev pub boolean_parts : PureTerm → List PureTerm
boolean_parts (literal l) = literal l ∷ []
boolean_parts (variable x) = variable x ∷ []
boolean_parts (list_of ts) = list_of ts ∷ []
boolean_parts (unary_of UnOp.Not t) = boolean_parts t
boolean_parts (unary_of op t) = unary_of op t ∷ []
boolean_parts (binary_of BinOp.And s t) = binary_of BinOp.And s t ∷ (boolean_parts s ++ boolean_parts t)
boolean_parts (binary_of BinOp.Or s t) = binary_of BinOp.Or s t ∷ (boolean_parts s ++ boolean_parts t)
boolean_parts (binary_of op s t) = binary_of op s t ∷ []

-- the atom says that a variable of sort any is true or false, by comparing it with the literal
abbrev pub IsCompared : PureTerm → PureAtom → Type 0
IsCompared u a = (x : Var) × ((b : Bool) × ((u ≡ variable x) × (x.sort ≡ Sort.Any) × (a ≡ positive (is_boolean u b))))

-- the atom says that a part of a guard is true or false: of a variable of sort any it does so by comparing it
abbrev pub SaysPart : PureAtom → PureTerm → Type 0
SaysPart a u = ((is_variable_of Sort.Any u ≡ false) × IsAbout u a) ⊎ IsCompared u a

-- the atom asks whether the guard is a boolean, where its kind is open
abbrev pub AsksBoolean : PureTerm → PureAtom → Type 0
AsksBoolean t a = (known_kind t ≡ None) × IsAbout (is_of_kind t Kind.Bool) a

-- The condition says that the guard or a part of it is true or false, or asks whether the guard is a boolean where its kind is open.
-- Nothing is asked of a guard that is a literal, nor of one that is sure to be no boolean.
abbrev pub IsGuardCondition : PureTerm → PureAtom → Type 0
IsGuardCondition t a =
    (is_literal t ≡ false) × IsTrue (allows (known_kind t) Kind.Bool) × (OneOf (SaysPart a) (boolean_parts t) ⊎ AsksBoolean t a)

abbrev pub OnSide : (PureAtom → Type 0) → Option (List PureAtom) → Type 0
OnSide P None = Unit {0}
OnSide P (Some conds) = Each P conds

-- what holds of each condition of a side
abbrev pub EachSide : (PureAtom → Type 0) → PureSides → Type 0
EachSide P sides = OnSide P sides.when_true × OnSide P sides.when_false × OnSide P sides.when_no_boolean

-- The sides on which a guard is true or false have its conditions. The side on which it is no boolean only asks whether it is one.
abbrev pub SidesComeFrom : PureTerm → PureSides → Type 0
SidesComeFrom t sides =
    OnSide (IsGuardCondition t) sides.when_true × OnSide (IsGuardCondition t) sides.when_false
    × OnSide (AsksBoolean t) sides.when_no_boolean
