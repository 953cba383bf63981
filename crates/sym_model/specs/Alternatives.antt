-- Conditions as alternatives: a list of lists of atoms, which holds where all atoms of one of its lists are true.
use Rattle.std.specs.Prelude.{List, [], ◌∷◌, ◌++◌, map, Bool, true, false, if◌then◌else◌, Option, Some, None, IsTrue}
use Rattle.std.specs.List.{flat_map, list_any}
use Rattle.gil_values.specs.declared.kinds.Kind.{Kind}
use Rattle.gil_values.specs.declared.operators.UnOp.{UnOp}
use Rattle.gil_values.specs.declared.operators.BinOp.{BinOp}
use Rattle.gil_values.specs.Equality.{same_kind}
use Rattle.gil_values.specs.Pure.{PureValue}
use Rattle.pure_terms.specs.declared.atoms.Atom.{Atom}
use Rattle.pure_terms.specs.declared.literals.Literal.{Literal}
use Rattle.pure_terms.specs.Kinds.{known_kind}
use Rattle.pure_terms.specs.Meaning.{all_true}
use Rattle.pure_terms.specs.Pure.{PureTerm, literal, unary_of, binary_of, PureAtom, positive, negative, opening}
use Rattle.pure_terms.specs.View.{atoms_view}
use Rattle.sym_model.specs.declared.comparing.Comparison.{Comparison}
use Rattle.sym_model.specs.Comparing.{compared}
use Rattle.sym_model.specs.Lists.{OneOf}

abbrev pub Alternatives : Type 0
Alternatives = List (List PureAtom)

-- those of the code
abbrev pub alternatives_view : List (List Atom) → Alternatives
alternatives_view x = map atoms_view x

-- one of the alternatives is true
abbrev pub Hold : List PureValue → Alternatives → Type 0
Hold v x = OneOf (λ conds. IsTrue (all_true v conds)) x

abbrev pub never : Alternatives
never = []

abbrev pub always : Alternatives
always = [] ∷ []

abbrev pub given : PureAtom → Alternatives
given a = (a ∷ []) ∷ []

-- one of the first and one of the second
abbrev pub both : Alternatives → Alternatives → Alternatives
both x y = flat_map (λ first. map (λ second. first ++ second) y) x

-- one for some element of a list
abbrev pub any : {A : Type 0} → (A → Alternatives) → List A → Alternatives
any f xs = flat_map f xs

-- beside these, one for each element of a list
abbrev pub all_from : {A : Type 0} → Alternatives → (A → Alternatives) → List A → Alternatives
all_from x f [] = x
all_from x f (e ∷ es) = all_from (both x (f e)) f es

abbrev pub all : {A : Type 0} → (A → Alternatives) → List A → Alternatives
all f es = all_from always f es

abbrev pub is_empty : List PureAtom → Bool
is_empty [] = true
is_empty _ = false

-- where one alternative has no condition, it alone
abbrev pub settled : Alternatives → Alternatives
settled x = if list_any is_empty x then always else x

-- where besides the literal form of the term is needed
abbrev pub with_form : PureTerm → Alternatives → Alternatives
with_form t x = map (λ conds. opening t ∷ conds) x

-- ---- equality

abbrev pub equal : PureTerm → PureTerm → PureTerm
equal s t = binary_of BinOp.Equal s t

abbrev pub by_comparison : Comparison → Alternatives → Alternatives → Alternatives → Alternatives
by_comparison Comparison.Same same different unsure = same
by_comparison Comparison.Different same different unsure = different
by_comparison Comparison.Unsure same different unsure = unsure

-- the terms are equal
abbrev pub same : PureTerm → PureTerm → Alternatives
same s t = by_comparison (compared s t) always never (given (positive (equal s t)))

-- the terms are different
abbrev pub other : PureTerm → PureTerm → Alternatives
other s t = by_comparison (compared s t) never always (given (negative (equal s t)))

-- ---- kinds

-- `(kind(t) = K)`
abbrev pub kind_is : PureTerm → Kind → PureTerm
kind_is t k = equal (unary_of UnOp.Kind t) (literal (Literal.Kind k))

abbrev pub by_kind : Option Kind → Kind → Alternatives → Alternatives → Alternatives → Alternatives
by_kind (Some l) k is isnt unsure = if same_kind l k then is else isnt
by_kind None k is isnt unsure = unsure

-- the term's value is of the kind
abbrev pub of_kind : PureTerm → Kind → Alternatives
of_kind t k = by_kind (known_kind t) k always never (given (positive (kind_is t k)))

-- it is of another kind
abbrev pub not_of_kind : PureTerm → Kind → Alternatives
not_of_kind t k = by_kind (known_kind t) k never always (given (negative (kind_is t k)))
