-- What operators ask of their operands: that a term is true or false, which names only variables of the operands.
use Rattle.std.proofs.Common.{◌≡◌, ◌⊎◌, ⊎_elim, inl, inr, List, [], ◌∷◌, ◌++◌, false, refl, sym, subst}
use Rattle.std.specs.List.{Contains}
use Rattle.std.proofs.lemmas.List.Elements.{Contains-append_cases}
use Rattle.gil_values.proofs.OperatorSymbols.{none_contained}
use Rattle.gil_values.specs.declared.kinds.Kind.{Kind}
use Rattle.gil_values.specs.declared.operators.UnOp.{UnOp}
use Rattle.gil_values.specs.declared.operators.BinOp.{BinOp}
use Rattle.gil_syntax.specs.Pure.{PureExpr, literal as value_literal, name, logical, list_of as list_expr, unary_of as unary_expr, binary_of as binary_expr}
use Rattle.gil_syntax.specs.Subexpressions.{subexpressions}
use Rattle.pure_terms.specs.declared.variables.Var.{Var}
use Rattle.pure_terms.specs.Pure.{PureTerm, literal, variable, list_of, unary_of, binary_of, PureAtom, positive, negative, opening, term_of, variables}
use Rattle.sym_model.specs.Lists.{OneOf}
use Rattle.sym_model.specs.Meaning.{is_open}
use Rattle.sym_evaluation.specs.Checks.{is_of_kind, are_of_one_kind, is_zero, is_negative, length_of, is_below}
use Rattle.sym_evaluation.specs.Pure.{PureStore}
use Rattle.sym_evaluation.specs.Questions.{IsTermOf, IsAbout, AsksKind, AsksLength, AsksKinds, AsksAppended, AsksZero, AsksPlace, AsksOne, AsksTwo, IsAskedOf, IsAsked, AsksBoolean}

-- the condition is not that a literal form is needed
abbrev pub NeedsNone : PureAtom → Type 0
NeedsNone a = is_open a ≡ false

module _ (Has : Var → Type 0) where
  -- each of the variables is such a one
  abbrev AllHave : List Var → Type 0
  AllHave xs = (x : Var) → Contains xs x → Has x

  -- the condition needs no literal form, and each of its variables is such a one
  abbrev IsKnown : PureAtom → Type 0
  IsKnown a = NeedsNone a × AllHave (variables (term_of a))

  pub joined : (xs ys : List Var) → AllHave xs → AllHave ys → AllHave (xs ++ ys)
  joined xs ys first second x has = ⊎_elim (first x) (second x) (Contains-append_cases xs ys x has)

  pub no_variables : AllHave []
  no_variables x has = absurd (none_contained x has)

  about_known : (u : PureTerm) (a : PureAtom) → IsAbout u a → AllHave (variables u) → IsKnown a
  about_known u (positive t) about all = (refl, subst (λ (w : PureTerm). AllHave (variables w)) (sym about) all)
  about_known u (negative t) about all = (refl, subst (λ (w : PureTerm). AllHave (variables w)) (sym about) all)
  about_known u (opening t) about all = absurd about

  with_literal : (t : PureTerm) → AllHave (variables t) → AllHave (variables t ++ [])
  with_literal t all = joined (variables t) [] all no_variables

  kind_known : (k : Kind) (t : PureTerm) (a : PureAtom) → AllHave (variables t) → AsksKind k t a → IsKnown a
  kind_known k t a all (unsure, about) = about_known (is_of_kind t k) a about (with_literal t all)

  length_known : (t : PureTerm) (a : PureAtom) → AllHave (variables t) → AsksLength t a → IsKnown a
  length_known t a all (k, (unsure, whole)) = subst IsKnown (sym whole) (refl, with_literal t all)

  of_length : (s : PureTerm) → AllHave (variables s) → AllHave (variables (length_of s))
  of_length (list_of ts) all = no_variables
  of_length (literal l) all = all
  of_length (variable x) all = all
  of_length (unary_of op t) all = all
  of_length (binary_of op s t) all = all

  one_known : (op : UnOp) (t : PureTerm) (a : PureAtom) → AllHave (variables t) → AsksOne op t a → IsKnown a
  one_known UnOp.Not t a all asks = kind_known Kind.Bool t a all asks
  one_known UnOp.Neg t a all asks = kind_known Kind.Int t a all asks
  one_known UnOp.Len t a all asks = length_known t a all asks
  one_known UnOp.Kind t a all asks = absurd asks

  module _ (s t : PureTerm) (a : PureAtom) (all_s : AllHave (variables s)) (all_t : AllHave (variables t)) where
    kinds_known : (j k : Kind) → AsksKinds j k s t a → IsKnown a
    kinds_known j k (inl asks) = kind_known j s a all_s asks
    kinds_known j k (inr (may, asks)) = kind_known k t a all_t asks

    zero_known : AsksKinds Kind.Int Kind.Int s t a ⊎ AsksZero s t a → IsKnown a
    zero_known (inl asks) = kinds_known Kind.Int Kind.Int asks
    zero_known (inr (kinds, other, about)) = about_known (is_zero t) a about (with_literal t all_t)

    place_known : AsksKinds Kind.List Kind.Int s t a ⊎ AsksPlace s t a → IsKnown a
    place_known (inl asks) = kinds_known Kind.List Kind.Int asks
    place_known (inr (kinds, inl (other, about))) = about_known (is_negative t) a about (with_literal t all_t)
    place_known (inr (kinds, inr (place, other, about))) = about_known (is_below t (length_of s)) a about (joined (variables t) (variables (length_of s)) all_t (of_length s all_s))

    append_known : AsksAppended s t a → IsKnown a
    append_known (inl (unsure_s, unsure_t, inl about)) = about_known (are_of_one_kind s t) a about (joined (variables s) (variables t) all_s all_t)
    append_known (inl (unsure_s, unsure_t, inr asks)) = length_known s a all_s asks
    append_known (inr (k, (long, inl (known, asks)))) = kind_known k t a all_t asks
    append_known (inr (k, (long, inr (known, asks)))) = kind_known k s a all_s asks

    two_known : (op : BinOp) → AsksTwo op s t a → IsKnown a
    two_known BinOp.Append asks = append_known asks
    two_known BinOp.Divide asks = zero_known asks
    two_known BinOp.Remainder asks = zero_known asks
    two_known BinOp.Nth asks = place_known asks
    two_known BinOp.Add asks = kinds_known Kind.Int Kind.Int asks
    two_known BinOp.Subtract asks = kinds_known Kind.Int Kind.Int asks
    two_known BinOp.Multiply asks = kinds_known Kind.Int Kind.Int asks
    two_known BinOp.Equal asks = absurd asks
    two_known BinOp.Less asks = kinds_known Kind.Int Kind.Int asks
    two_known BinOp.LessOrEqual asks = kinds_known Kind.Int Kind.Int asks
    two_known BinOp.And asks = kinds_known Kind.Bool Kind.Bool asks
    two_known BinOp.Or asks = kinds_known Kind.Bool Kind.Bool asks

  -- where the term of each expression has such variables alone
  module _ (bs : PureStore) (all : (e : PureExpr) (u : PureTerm) → IsTermOf bs e u → AllHave (variables u)) where
    asked_of_known : (e : PureExpr) (a : PureAtom) → IsAskedOf bs a e → IsKnown a
    asked_of_known (unary_expr op e) a (t, (is, asks)) = one_known op t a (all e t is) asks
    asked_of_known (binary_expr op d e) a (s, (t, (is_s, is_t, asks))) = two_known s t a (all d s is_s) (all e t is_t) op asks
    asked_of_known (value_literal v) a asked = absurd asked
    asked_of_known (name x) a asked = absurd asked
    asked_of_known (logical x) a asked = absurd asked
    asked_of_known (list_expr es) a asked = absurd asked

    pub asked_known : (es : List PureExpr) (a : PureAtom) → OneOf (IsAskedOf bs a) es → IsKnown a
    asked_known [] a one = absurd one
    asked_known (e ∷ es) a one = ⊎_elim (asked_of_known e a) (asked_known es a) one

-- ---- no condition of an expression needs a literal form

pub asked_closed : (bs : PureStore) (e : PureExpr) (a : PureAtom) → IsAsked bs e a → NeedsNone a
asked_closed bs e a asked = (asked_known (λ x. Unit {0}) bs (λ e u is x has. tt) (subexpressions e) a asked).0

pub one_asked_closed : (bs : PureStore) (es : List PureExpr) (a : PureAtom) → OneOf (λ e. IsAsked bs e a) es → NeedsNone a
one_asked_closed bs [] a one = absurd one
one_asked_closed bs (e ∷ es) a (inl here) = asked_closed bs e a here
one_asked_closed bs (e ∷ es) a (inr later) = one_asked_closed bs es a later

pub boolean_closed : (t : PureTerm) (a : PureAtom) → AsksBoolean t a → NeedsNone a
boolean_closed t a (unsure, about) = (about_known (λ x. Unit {0}) (is_of_kind t Kind.Bool) a about (λ x has. tt)).0
