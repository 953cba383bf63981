-- Chains of equalities, and how they end.
use Rattle.std.specs.Prelude.{◌≡◌, ◌⊎◌, ℕ, List, [], ◌∷◌, slice_get, Bool, true, false, not, ◌&&◌, ◌||◌, if◌then◌else◌, Option, Some, None, nat_lt}
use Rattle.std.specs.Option.{option_and_then}
use Rattle.std.specs.List.{list_all}
use Rattle.gil_values.specs.declared.kinds.Kind.{Kind}
use Rattle.gil_values.specs.declared.operators.UnOp.{UnOp}
use Rattle.gil_values.specs.declared.operators.BinOp.{BinOp}
use Rattle.gil_values.specs.Equality.{same_kind}
use Rattle.pure_terms.specs.declared.literals.Literal.{Literal}
use Rattle.pure_terms.specs.declared.variables.Sort.{Sort}
use Rattle.pure_terms.specs.Equality.{same_literal, same_term}
use Rattle.pure_terms.specs.Kinds.{same_sort, is_of_kind, known_kind}
use Rattle.pure_terms.specs.Pure.{PureTerm, literal, variable, unary_of, binary_of, PureAtom, positive, negative, opening, variables}
use Rattle.solver_proof.specs.declared.proofs.ChainEnd.{ChainEnd}

abbrev pub equals : PureTerm → PureTerm → PureTerm
equals s t = binary_of BinOp.Equal s t

abbrev pub truth_term : Bool → PureTerm
truth_term b = literal (Literal.Bool b)

-- (kind(t) = K)
abbrev pub kind_is : PureTerm → Kind → PureTerm
kind_is t k = equals (unary_of UnOp.Kind t) (literal (Literal.Kind k))

-- two terms
pub record Sides : Type 0 where
  pub left : PureTerm
  pub right : PureTerm

abbrev pub sides_of_equality : PureTerm → Option Sides
sides_of_equality (binary_of BinOp.Equal s t) = Some (record { left = s; right = t })
sides_of_equality _ = None

-- a Bool variable and the literal that it is equal to
abbrev pub sides_of_variable : Bool → PureTerm → Option Sides
sides_of_variable b (variable x) = if same_sort x.sort Sort.Bool then Some (record { left = variable x; right = truth_term b }) else None
sides_of_variable b _ = None

abbrev pub either_sides : Option Sides → Option Sides → Option Sides
either_sides (Some sides) other = Some sides
either_sides None other = other

-- what an atom says of a term's kind: that it is this one, or that it isn't
pub record KindFact : Type 0 where
  pub subject : PureTerm
  pub kind : Kind
  pub is_so : Bool

abbrev pub kind_fact : Bool → PureTerm → PureTerm → Option KindFact
kind_fact b (unary_of UnOp.Kind t) (literal (Literal.Kind k)) = Some (record { subject = t; kind = k; is_so = b })
kind_fact b _ _ = None

abbrev pub kind_fact_of_term : Bool → PureTerm → Option KindFact
kind_fact_of_term b (binary_of BinOp.Equal s t) = kind_fact b s t
kind_fact_of_term b _ = None

abbrev pub kind_fact_of : PureAtom → Option KindFact
kind_fact_of (positive t) = kind_fact_of_term true t
kind_fact_of (negative t) = kind_fact_of_term false t
kind_fact_of (opening t) = None

-- `(kind(t) = K)` serves at the end of a chain, and is no link of it
abbrev pub unless_kind_fact : Option KindFact → Option Sides → Option Sides
unless_kind_fact (Some fact) sides = None
unless_kind_fact None sides = sides

-- the two terms that an atom says to be equal; an atom of a Bool variable is an equality with true or false
abbrev pub equality_of : PureAtom → Option Sides
equality_of (positive t) = either_sides (unless_kind_fact (kind_fact_of_term true t) (sides_of_equality t)) (sides_of_variable true t)
equality_of (negative t) = sides_of_variable false t
equality_of (opening t) = None

-- the two terms that an atom says to be different
abbrev pub disequality_of : PureAtom → Option Sides
disequality_of (negative t) = sides_of_equality t
disequality_of _ = None

abbrev pub equality_at : List PureAtom → ℕ → Option Sides
equality_at atoms i = option_and_then equality_of (slice_get atoms i)

abbrev pub disequality_at : List PureAtom → ℕ → Option Sides
disequality_at atoms i = option_and_then disequality_of (slice_get atoms i)

abbrev pub kind_fact_at : List PureAtom → ℕ → Option KindFact
kind_fact_at atoms i = option_and_then kind_fact_of (slice_get atoms i)

-- the atom at this place says that s and t are equal, either way round
abbrev pub AreEqualAt : List PureAtom → ℕ → PureTerm → PureTerm → Type 0
AreEqualAt atoms i s t =
    (equality_at atoms i ≡ Some (record { left = s; right = t })) ⊎ (equality_at atoms i ≡ Some (record { left = t; right = s }))

-- the equalities at these places lead from s to t
abbrev pub Leads : List PureAtom → List ℕ → PureTerm → PureTerm → Type 0
Leads atoms [] s t = s ≡ t
Leads atoms (i ∷ is) s t = (u : PureTerm) × (AreEqualAt atoms i s u × Leads atoms is u t)

-- ---- ends

abbrev pub are_different_literals : PureTerm → PureTerm → Bool
are_different_literals (literal k) (literal l) = not (same_literal k l)
are_different_literals _ _ = false

abbrev pub are_other_kinds : Option Kind → Option Kind → Bool
are_other_kinds (Some k) (Some l) = not (same_kind k l)
are_other_kinds _ _ = false

-- a Fresh variable, and a term over variables with lower numbers
abbrev pub is_fresh_over : PureTerm → PureTerm → Bool
is_fresh_over (variable x) t = same_sort x.sort Sort.Fresh && list_all (λ y. nat_lt y.number x.number) (variables t)
is_fresh_over _ t = false

abbrev pub are_sides : Option Sides → PureTerm → PureTerm → Bool
are_sides (Some sides) s t = (same_term sides.left s && same_term sides.right t) || (same_term sides.left t && same_term sides.right s)
are_sides None s t = false

-- no value has this kind
abbrev pub is_empty_kind : Kind → Bool
is_empty_kind Kind.Undef = true
is_empty_kind Kind.Null = true
is_empty_kind _ = false

-- what is said of s's kind can't be said of t
abbrev pub is_against : Option KindFact → PureTerm → PureTerm → Bool
is_against (Some fact) s t =
    same_term fact.subject s &&
    (if fact.is_so then is_empty_kind fact.kind || are_other_kinds (known_kind t) (Some fact.kind) else is_of_kind (known_kind t) fact.kind)
is_against None s t = false

-- both are said with different kinds, or of one kind one is said and the other denied
abbrev pub are_facts_apart : KindFact → KindFact → Bool
are_facts_apart f g = if same_kind f.kind g.kind then (f.is_so && not g.is_so) || (not f.is_so && g.is_so) else f.is_so && g.is_so

abbrev pub are_against : Option KindFact → Option KindFact → PureTerm → PureTerm → Bool
are_against (Some f) (Some g) s t = (same_term f.subject s && same_term g.subject t) && are_facts_apart f g
are_against _ _ s t = false

-- s and t can't be equal
abbrev pub end_closes : List PureAtom → ChainEnd → PureTerm → PureTerm → Bool
end_closes atoms ChainEnd.Literals s t = are_different_literals s t
end_closes atoms ChainEnd.Kinds s t = are_other_kinds (known_kind s) (known_kind t)
end_closes atoms ChainEnd.Fresh s t = is_fresh_over s t || is_fresh_over t s
end_closes atoms (ChainEnd.Not j) s t = are_sides (disequality_at atoms j) s t
end_closes atoms (ChainEnd.Kind j) s t = is_against (kind_fact_at atoms j) s t
end_closes atoms (ChainEnd.BothKinds j k) s t = are_against (kind_fact_at atoms j) (kind_fact_at atoms k) s t
