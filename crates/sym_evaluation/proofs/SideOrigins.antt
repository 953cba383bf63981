-- The conditions of sides are of the guard and of its parts.
use Rattle.std.proofs.Common.{◌≡◌, inl, inr, List, [], ◌∷◌, ◌++◌, Bool, true, false, not, if◌then◌else◌, Option, Some, None, IsTrue, refl, sym, ap, ◌∙◌}
use Rattle.gil_values.specs.declared.kinds.Kind.{Kind}
use Rattle.gil_values.specs.declared.operators.UnOp.{UnOp}
use Rattle.gil_values.specs.declared.operators.BinOp.{BinOp}
use Rattle.gil_values.specs.Equality.{same_kind}
use Rattle.pure_terms.specs.declared.literals.Literal.{Literal}
use Rattle.pure_terms.specs.declared.variables.Sort.{Sort}
use Rattle.pure_terms.specs.declared.variables.Var.{Var}
use Rattle.pure_terms.specs.Fragment.{is_variable_of}
use Rattle.pure_terms.specs.Kinds.{same_sort, allows, known_kind}
use Rattle.pure_terms.specs.Pure.{PureTerm, literal, variable, list_of, unary_of, binary_of, PureAtom, negative}
use Rattle.sym_model.specs.Lists.{Each, OneOf}
use Rattle.sym_model.specs.Terms.{is_literal}
use Rattle.sym_model.proofs.ListLaws.{not_none, each_append, each_to, one_left, one_right}
use Rattle.sym_evaluation.specs.Checks.{is_of_kind}
use Rattle.sym_evaluation.specs.Questions.{boolean_parts, SaysPart, AsksBoolean, IsGuardCondition, OnSide, SidesComeFrom}
use Rattle.sym_evaluation.specs.Sides.{said, variable_said, conditions_of, no_boolean, both_sides, sides_by_kind, literal_sides, sides_of}

abbrev AreOfParts : PureTerm → List PureAtom → Type 0
AreOfParts t conds = Each (λ a. OneOf (SaysPart a) (boolean_parts t)) conds

said_of : (b : Bool) (t : PureTerm) → is_variable_of Sort.Any t ≡ false → Each (λ a. SaysPart a t) (said b t)
said_of true t other = (inl (other, refl), tt)
said_of false t other = (inl (other, refl), tt)

variable_of : (b : Bool) (x : Var) (s : Sort) → x.sort ≡ s → Each (λ a. SaysPart a (variable x)) (variable_said b x s)
variable_of b x Sort.Any sort = (inr (x, (b, (refl, sort, refl))), tt)
variable_of b x Sort.Int sort = said_of b (variable x) (ap (λ s. same_sort s Sort.Any) sort)
variable_of b x Sort.Bool sort = said_of b (variable x) (ap (λ s. same_sort s Sort.Any) sort)
variable_of b x Sort.Str sort = said_of b (variable x) (ap (λ s. same_sort s Sort.Any) sort)
variable_of b x Sort.Sym sort = said_of b (variable x) (ap (λ s. same_sort s Sort.Any) sort)
variable_of b x Sort.Fresh sort = said_of b (variable x) (ap (λ s. same_sort s Sort.Any) sort)
variable_of b x Sort.List sort = said_of b (variable x) (ap (λ s. same_sort s Sort.Any) sort)

-- what is said of the term itself, which is the first of its parts
of_itself : (b : Bool) (t : PureTerm) (parts : List PureTerm) → is_variable_of Sort.Any t ≡ false → Each (λ a. OneOf (SaysPart a) (t ∷ parts)) (said b t)
of_itself b t parts other = each_to (λ a. SaysPart a t) (λ a. OneOf (SaysPart a) (t ∷ parts)) (said b t) (λ a says. inl says) (said_of b t other)

both_of : (s t u : PureTerm) (first second : List PureAtom) → AreOfParts s first → AreOfParts t second → Each (λ a. OneOf (SaysPart a) (u ∷ (boolean_parts s ++ boolean_parts t))) (first ++ second)
both_of s t u first second of_s of_t =
    each_append (λ a. OneOf (SaysPart a) (u ∷ (boolean_parts s ++ boolean_parts t))) first second
    (each_to (λ a. OneOf (SaysPart a) (boolean_parts s)) (λ a. OneOf (SaysPart a) (u ∷ (boolean_parts s ++ boolean_parts t))) first (λ a one. inr (one_left (SaysPart a) (boolean_parts s) (boolean_parts t) one)) of_s)
    (each_to (λ a. OneOf (SaysPart a) (boolean_parts t)) (λ a. OneOf (SaysPart a) (u ∷ (boolean_parts s ++ boolean_parts t))) second (λ a one. inr (one_right (SaysPart a) (boolean_parts s) (boolean_parts t) one)) of_t)

conditions_of_parts : (b : Bool) (t : PureTerm) → AreOfParts t (conditions_of b t)
conditions_of_parts b (literal l) = of_itself b (literal l) [] refl
conditions_of_parts b (variable x) = each_to (λ a. SaysPart a (variable x)) (λ a. OneOf (SaysPart a) (variable x ∷ [])) (variable_said b x x.sort) (λ a of. inl of) (variable_of b x x.sort refl)
conditions_of_parts b (list_of ts) = of_itself b (list_of ts) [] refl
conditions_of_parts b (unary_of UnOp.Not t) = conditions_of_parts (not b) t
conditions_of_parts b (unary_of UnOp.Neg t) = of_itself b (unary_of UnOp.Neg t) [] refl
conditions_of_parts b (unary_of UnOp.Len t) = of_itself b (unary_of UnOp.Len t) [] refl
conditions_of_parts b (unary_of UnOp.Kind t) = of_itself b (unary_of UnOp.Kind t) [] refl
conditions_of_parts true (binary_of BinOp.And s t) = both_of s t (binary_of BinOp.And s t) (conditions_of true s) (conditions_of true t) (conditions_of_parts true s) (conditions_of_parts true t)
conditions_of_parts false (binary_of BinOp.And s t) = of_itself false (binary_of BinOp.And s t) (boolean_parts s ++ boolean_parts t) refl
conditions_of_parts true (binary_of BinOp.Or s t) = of_itself true (binary_of BinOp.Or s t) (boolean_parts s ++ boolean_parts t) refl
conditions_of_parts false (binary_of BinOp.Or s t) = both_of s t (binary_of BinOp.Or s t) (conditions_of false s) (conditions_of false t) (conditions_of_parts false s) (conditions_of_parts false t)
conditions_of_parts b (binary_of BinOp.Add s t) = of_itself b (binary_of BinOp.Add s t) [] refl
conditions_of_parts b (binary_of BinOp.Subtract s t) = of_itself b (binary_of BinOp.Subtract s t) [] refl
conditions_of_parts b (binary_of BinOp.Multiply s t) = of_itself b (binary_of BinOp.Multiply s t) [] refl
conditions_of_parts b (binary_of BinOp.Divide s t) = of_itself b (binary_of BinOp.Divide s t) [] refl
conditions_of_parts b (binary_of BinOp.Remainder s t) = of_itself b (binary_of BinOp.Remainder s t) [] refl
conditions_of_parts b (binary_of BinOp.Equal s t) = of_itself b (binary_of BinOp.Equal s t) [] refl
conditions_of_parts b (binary_of BinOp.Less s t) = of_itself b (binary_of BinOp.Less s t) [] refl
conditions_of_parts b (binary_of BinOp.LessOrEqual s t) = of_itself b (binary_of BinOp.LessOrEqual s t) [] refl
conditions_of_parts b (binary_of BinOp.Append s t) = of_itself b (binary_of BinOp.Append s t) [] refl
conditions_of_parts b (binary_of BinOp.Nth s t) = of_itself b (binary_of BinOp.Nth s t) [] refl

abbrev MayBeBoolean : PureTerm → Type 0
MayBeBoolean t = IsTrue (allows (known_kind t) Kind.Bool)

on_guard : (b : Bool) (t : PureTerm) → is_literal t ≡ false → MayBeBoolean t → Each (IsGuardCondition t) (conditions_of b t)
on_guard b t other may = each_to (λ a. OneOf (SaysPart a) (boolean_parts t)) (IsGuardCondition t) (conditions_of b t) (λ a one. (other, may, inl one)) (conditions_of_parts b t)

on_both : (t : PureTerm) (otherwise : Option (List PureAtom)) → is_literal t ≡ false → MayBeBoolean t → OnSide (AsksBoolean t) otherwise → SidesComeFrom t (both_sides t otherwise)
on_both t otherwise other may on = (on_guard true t other may, on_guard false t other may, on)

by_test : (b : Bool) (t : PureTerm) → is_literal t ≡ false → (b ≡ true → MayBeBoolean t) → SidesComeFrom t (if b then both_sides t None else no_boolean)
by_test true t other may = on_both t None other (may refl) tt
by_test false t other may = (tt, tt, tt)

by_kind : (o : Option Kind) (t : PureTerm) → is_literal t ≡ false → known_kind t ≡ o → SidesComeFrom t (sides_by_kind o t)
by_kind (Some k) t other known = by_test (same_kind k Kind.Bool) t other (λ is. ap (λ o. allows o Kind.Bool) known ∙ is)
by_kind None t other known = on_both t (Some (negative (is_of_kind t Kind.Bool) ∷ [])) other (ap (λ o. allows o Kind.Bool) known) ((known, refl), tt)

of_literal : (t : PureTerm) (l : Literal) → SidesComeFrom t (literal_sides l)
of_literal t (Literal.Bool true) = (tt, tt, tt)
of_literal t (Literal.Bool false) = (tt, tt, tt)
of_literal t (Literal.Int n) = (tt, tt, tt)
of_literal t (Literal.Str cs) = (tt, tt, tt)
of_literal t (Literal.Kind k) = (tt, tt, tt)
of_literal t (Literal.Proc p) = (tt, tt, tt)

pub sides_come_from : (t : PureTerm) → SidesComeFrom t (sides_of t)
sides_come_from (literal l) = of_literal (literal l) l
sides_come_from (variable x) = by_kind (known_kind (variable x)) (variable x) refl refl
sides_come_from (list_of ts) = by_kind (known_kind (list_of ts)) (list_of ts) refl refl
sides_come_from (unary_of op t) = by_kind (known_kind (unary_of op t)) (unary_of op t) refl refl
sides_come_from (binary_of op s t) = by_kind (known_kind (binary_of op s t)) (binary_of op s t) refl refl

-- whether a guard is a boolean is one of its conditions
pub boolean_is_condition : (t : PureTerm) (a : PureAtom) → AsksBoolean t a → IsGuardCondition t a
boolean_is_condition t a asks = (open_is_no_literal t asks.0, ap (λ o. allows o Kind.Bool) asks.0, inr asks) where
  open_is_no_literal : (t : PureTerm) → known_kind t ≡ None → is_literal t ≡ false
  open_is_no_literal (literal l) known = not_none (sym known)
  open_is_no_literal (variable x) known = refl
  open_is_no_literal (list_of ts) known = refl
  open_is_no_literal (unary_of op u) known = refl
  open_is_no_literal (binary_of op u w) known = refl
