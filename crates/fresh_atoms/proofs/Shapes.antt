-- Terms of literals and fresh variables: their values under two valuations are equal to each other alike.
use Rattle.std.proofs.Common.{◌≡◌, ℕ, List, ◌∷◌, true, false, ◌&&◌, eqb, Option, Some, slice_get, refl, sym, ap, ◌∙◌}
use Rattle.std.specs.Option.{option_map}
use Rattle.gil_values.specs.Equality.{same_value, same_values}
use Rattle.gil_values.specs.Pure.{PureValue, boolean, symbol, list, PureValues, no_values, value_and, from_list, to_list, from_list-to_list}
use Rattle.pure_terms.specs.declared.literals.Literal.{Literal}
use Rattle.pure_terms.specs.declared.variables.Sort.{Sort}
use Rattle.pure_terms.specs.Meaning.{literal_value, both, value, values}
use Rattle.pure_terms.specs.Pure.{PureTerm, literal, variable, list_of, unary_of, binary_of, PureTerms, no_terms, term_and}

-- literals, fresh variables of the table, and lists of such
abbrev mutual
  pub IsNew : List Sort → PureTerm → Type 0
  IsNew vars (literal l) = Unit {0}
  IsNew vars (variable x) = slice_get vars x.number ≡ Some Sort.Fresh
  IsNew vars (list_of ts) = AreNew vars ts
  IsNew vars (unary_of op t) = ⊥
  IsNew vars (binary_of op s t) = ⊥

  pub AreNew : List Sort → PureTerms → Type 0
  AreNew vars no_terms = Unit {0}
  AreNew vars (term_and t ts) = IsNew vars t × AreNew vars ts

-- the value of such a term where the variables have these symbols
abbrev mutual
  pub shape : (ℕ → ℕ) → PureTerm → PureValue
  shape g (literal l) = literal_value l
  shape g (variable x) = symbol (g x.number)
  shape g (list_of ts) = list (shapes g ts)
  shape g (unary_of op t) = boolean true
  shape g (binary_of op s t) = boolean true

  pub shapes : (ℕ → ℕ) → PureTerms → PureValues
  shapes g no_terms = no_values
  shapes g (term_and t ts) = value_and (shape g t) (shapes g ts)

-- each fresh variable of the table has the symbol of its number
abbrev pub Names : List Sort → List PureValue → (ℕ → ℕ) → Type 0
Names vars v g = (x : ℕ) → slice_get vars x ≡ Some Sort.Fresh → slice_get v x ≡ Some (symbol (g x))

both_some : (a : Option PureValue) (b : Option (List PureValue)) (w : PureValue) (ws : List PureValue) → a ≡ Some w → b ≡ Some ws → both a b ≡ Some (w ∷ ws)
both_some a b w ws left right = rw (left, right) refl

module _ (vars : List Sort) (v : List PureValue) (g : ℕ → ℕ) (names : Names vars v g) where
  mutual
    pub value-shape : (t : PureTerm) → IsNew vars t → value v t ≡ Some (shape g t)
    value-shape (literal l) new = refl
    value-shape (variable x) new = names x.number new
    value-shape (list_of ts) new = ap (option_map (λ ws. list (from_list ws))) (values-shapes ts new) ∙ ap (λ ws. Some (list ws)) (from_list-to_list (shapes g ts))
    value-shape (unary_of op t) new = absurd new
    value-shape (binary_of op s t) new = absurd new

    values-shapes : (ts : PureTerms) → AreNew vars ts → values v ts ≡ Some (to_list (shapes g ts))
    values-shapes no_terms new = refl
    values-shapes (term_and t ts) new = both_some (value v t) (values v ts) (shape g t) (to_list (shapes g ts)) (value-shape t new.0) (values-shapes ts new.1)

-- ---- equality

literal_differs : (l : Literal) (n : ℕ) → same_value (literal_value l) (symbol n) ≡ false
literal_differs (Literal.Int m) n = refl
literal_differs (Literal.Bool b) n = refl
literal_differs (Literal.Str cs) n = refl
literal_differs (Literal.Kind k) n = refl
literal_differs (Literal.Proc name) n = refl

differs_from_literal : (l : Literal) (n : ℕ) → same_value (symbol n) (literal_value l) ≡ false
differs_from_literal (Literal.Int m) n = refl
differs_from_literal (Literal.Bool b) n = refl
differs_from_literal (Literal.Str cs) n = refl
differs_from_literal (Literal.Kind k) n = refl
differs_from_literal (Literal.Proc name) n = refl

literal_and_list : (l : Literal) (vs ws : PureValues) → same_value (literal_value l) (list vs) ≡ same_value (literal_value l) (list ws)
literal_and_list (Literal.Int m) vs ws = refl
literal_and_list (Literal.Bool b) vs ws = refl
literal_and_list (Literal.Str cs) vs ws = refl
literal_and_list (Literal.Kind k) vs ws = refl
literal_and_list (Literal.Proc name) vs ws = refl

list_and_literal : (l : Literal) (vs ws : PureValues) → same_value (list vs) (literal_value l) ≡ same_value (list ws) (literal_value l)
list_and_literal (Literal.Int m) vs ws = refl
list_and_literal (Literal.Bool b) vs ws = refl
list_and_literal (Literal.Str cs) vs ws = refl
list_and_literal (Literal.Kind k) vs ws = refl
list_and_literal (Literal.Proc name) vs ws = refl

-- the two ways to name symbols keep the same ones apart
abbrev pub AreApartAlike : List Sort → (ℕ → ℕ) → (ℕ → ℕ) → Type 0
AreApartAlike vars g h = (x y : ℕ) → slice_get vars x ≡ Some Sort.Fresh → slice_get vars y ≡ Some Sort.Fresh → eqb (g x) (g y) ≡ eqb (h x) (h y)

module _ (vars : List Sort) (g h : ℕ → ℕ) (alike : AreApartAlike vars g h) where
  mutual
    pub shapes_alike : (s t : PureTerm) → IsNew vars s → IsNew vars t → same_value (shape g s) (shape g t) ≡ same_value (shape h s) (shape h t)
    shapes_alike (literal k) (literal l) new_s new_t = refl
    shapes_alike (literal k) (variable y) new_s new_t = literal_differs k (g y.number) ∙ sym (literal_differs k (h y.number))
    shapes_alike (literal k) (list_of us) new_s new_t = literal_and_list k (shapes g us) (shapes h us)
    shapes_alike (variable x) (literal l) new_s new_t = differs_from_literal l (g x.number) ∙ sym (differs_from_literal l (h x.number))
    shapes_alike (variable x) (variable y) new_s new_t = alike x.number y.number new_s new_t
    shapes_alike (variable x) (list_of us) new_s new_t = refl
    shapes_alike (list_of ts) (literal l) new_s new_t = list_and_literal l (shapes g ts) (shapes h ts)
    shapes_alike (list_of ts) (variable y) new_s new_t = refl
    shapes_alike (list_of ts) (list_of us) new_s new_t = lists_alike ts us new_s new_t
    shapes_alike (unary_of op s) t new_s new_t = absurd new_s
    shapes_alike (binary_of op s u) t new_s new_t = absurd new_s
    shapes_alike s (unary_of op t) new_s new_t = absurd new_t
    shapes_alike s (binary_of op t u) new_s new_t = absurd new_t

    lists_alike : (ts us : PureTerms) → AreNew vars ts → AreNew vars us → same_values (shapes g ts) (shapes g us) ≡ same_values (shapes h ts) (shapes h us)
    lists_alike no_terms no_terms new_s new_t = refl
    lists_alike no_terms (term_and u us) new_s new_t = refl
    lists_alike (term_and t ts) no_terms new_s new_t = refl
    lists_alike (term_and t ts) (term_and u us) new_s new_t =
        let first = shapes_alike t u new_s.0 new_t.0 in
        let rest = lists_alike ts us new_s.1 new_t.1 in
        λ i. first i && rest i
