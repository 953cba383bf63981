-- What the alternatives say.
use Rattle.std.specs.Prelude.{◌≡◌, ◌↔◌, ◌⊎◌, List, [], ◌∷◌, ◌++◌, Option, Some}
use Rattle.gil_values.specs.declared.kinds.Kind.{Kind}
use Rattle.gil_values.specs.Pure.{PureValue, kind_of}
use Rattle.pure_terms.specs.declared.variables.Sort.{Sort}
use Rattle.pure_terms.specs.Meaning.{value, IsProper, IsOver}
use Rattle.pure_terms.specs.Pure.{PureTerm}
use Rattle.sym_model.specs.Alternatives.{Alternatives, Hold, never, always, both, any, all, settled, same, other, of_kind, not_of_kind}
use Rattle.sym_model.specs.Lists.{Each, OneOf}

-- two terms that have values under a proper valuation
pub record HaveBoth (vars : List Sort) (v : List PureValue) (s t : PureTerm) (a b : PureValue) : Type 0 where
  pub proper : IsProper vars v
  pub first_over : IsOver vars s
  pub second_over : IsOver vars t
  pub first : value v s ≡ Some a
  pub second : value v t ≡ Some b

-- `same` holds exactly where the values are equal, `other` exactly where they aren't
pub record SameIsEqual : Type 0 where
  pub equal : (vars : List Sort) (v : List PureValue) (s t : PureTerm) (a b : PureValue) → HaveBoth vars v s t a b → Hold v (same s t)
      ↔ (a ≡ b)
  pub different : (vars : List Sort) (v : List PureValue) (s t : PureTerm) (a b : PureValue) → HaveBoth vars v s t a b → Hold v
      (other s t) ↔ (¬ (a ≡ b))

-- `of_kind` holds exactly where the value is of the kind, `not_of_kind` exactly where it isn't
pub record KindsAreAsked : Type 0 where
  pub is : (vars : List Sort) (v : List PureValue) (t : PureTerm) (k : Kind) (a : PureValue) → IsProper vars v → IsOver vars t
      → value v t ≡ Some a → Hold v (of_kind t k) ↔ (kind_of a ≡ k)
  pub isnt : (vars : List Sort) (v : List PureValue) (t : PureTerm) (k : Kind) (a : PureValue) → IsProper vars v → IsOver vars t
      → value v t ≡ Some a → Hold v (not_of_kind t k) ↔ (¬ (kind_of a ≡ k))

-- what is made of alternatives holds where they do, for elements of a type A
pub record AlternativesCombine (A : Type 0) : Type 0 where
  pub always_holds : (v : List PureValue) → Hold v always
  pub never_holds : (v : List PureValue) → ¬ Hold v never
  pub either_holds : (v : List PureValue) (x y : Alternatives) → Hold v (x ++ y) ↔ (Hold v x ⊎ Hold v y)
  pub both_hold : (v : List PureValue) (x y : Alternatives) → Hold v (both x y) ↔ (Hold v x × Hold v y)
  pub any_holds : (v : List PureValue) (f : A → Alternatives) (es : List A) → Hold v (any f es) ↔ OneOf (λ e. Hold v (f e)) es
  pub all_hold : (v : List PureValue) (f : A → Alternatives) (es : List A) → Hold v (all f es) ↔ Each (λ e. Hold v (f e)) es
  pub settled_holds : (v : List PureValue) (x : Alternatives) → Hold v (settled x) ↔ Hold v x
