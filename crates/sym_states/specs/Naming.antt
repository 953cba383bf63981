-- New variables for names that have no term: whatever values of their sorts the names have, they are values of the variables.
use Rattle.std.specs.Prelude.{◌≡◌, ◌⊎◌, ℕ, ◌≤◌, List, [], ◌∷◌, ◌++◌, length, slice_get, false, if◌then◌else◌, Option, Some, None, IsSome, IsTrue}
use Rattle.std.specs.Str.{bytes_eq}
use Rattle.gil_values.specs.Pure.{PureValue}
use Rattle.gil_syntax.specs.declared.assertions.Param.{Param}
use Rattle.gil_syntax.specs.Evaluation.{Store, value_of}
use Rattle.gil_syntax.specs.Valid.{is_among}
use Rattle.assert_logic.specs.Sorts.{fits_sorts, HasSorts, Extends}
use Rattle.pure_terms.specs.declared.variables.Sort.{Sort}
use Rattle.pure_terms.specs.Kinds.{has_sort}
use Rattle.pure_terms.specs.Meaning.{IsProper}
use Rattle.pure_terms.specs.Pure.{PureTerm, variable}
use Rattle.sym_evaluation.specs.Meaning.{StandsFor, IsStoreOver}
use Rattle.sym_evaluation.specs.Pure.{PureStore, term_at}
use Rattle.sym_model.specs.Lists.{Each, OneOf}

-- the sorts of variables, and the terms of names
pub record PureNamed : Type 0 where
  pub vars : List Sort
  pub store : PureStore

-- each variable has a value of its sort, as under a proper valuation
abbrev pub HaveSorts : List Sort → List PureValue → Type 0
HaveSorts vars v =
    (i : ℕ) (sort : Sort) → slice_get vars i ≡ Some sort → (w : PureValue) × ((slice_get v i ≡ Some w) × IsTrue (has_sort sort w))

-- the name gets a new variable of the sort
pub record AddsVariable (x : List ℕ) (sort : Sort) (before after : PureNamed) : Type 0 where
  pub vars : after.vars ≡ before.vars ++ sort ∷ []
  pub store : (y : List ℕ) → term_at after.store y
      ≡ (if bytes_eq x y then Some (variable (record { number = length before.vars; sort = sort })) else term_at before.store y)

-- the term is a variable, of a sort that has exactly the values which the declarations leave to the name
pub record IsVariableFor (ps : List Param) (x : List ℕ) (t : PureTerm) : Type 0 where
  pub number : ℕ
  pub sort : Sort
  pub is : t ≡ variable (record { number = number; sort = sort })
  pub values : (w : PureValue) → has_sort sort w ≡ fits_sorts ps x w

module _ (ps : List Param) (xs : List (List ℕ)) (vars : List Sort) (bs : PureStore) where
  -- Under the valuation the store of terms stands for a store. Another one keeps its values, has the sorts that are declared, and gives
  -- each of the names a value.
  pub record MayName (v : List PureValue) (s t : Store) : Type 0 where
    pub proper : IsProper vars v
    pub over : IsStoreOver vars bs
    pub stands : StandsFor v bs s
    pub extends : Extends s t
    pub sorts : HasSorts ps t
    pub known : (x : List ℕ) → IsTrue (is_among xs x) → IsSome (value_of t x)

  -- Values of the new variables, with which the names have the values that t gives them, and every other name that which s gives it.
  pub record IsNamedAs (v : List PureValue) (s t : Store) (named : PureNamed) : Type 0 where
    pub values : List PureValue
    pub proper : IsProper named.vars (v ++ values)
    pub come : Each (λ w. OneOf (λ x. value_of t x ≡ Some w) xs) values
    pub store : Store
    pub stands : StandsFor (v ++ values) named.store store
    pub listed : (x : List ℕ) → IsTrue (is_among xs x) → value_of store x ≡ value_of t x
    pub others : (x : List ℕ) → is_among xs x ≡ false → value_of store x ≡ value_of s x

  -- the store keeps the values of s, and gives only the names further ones, which have the sorts that are declared
  pub record AddsNames (s t : Store) : Type 0 where
    pub extends : Extends s t
    pub added : (x : List ℕ) (w : PureValue) → value_of t x ≡ Some w
        → (value_of s x ≡ Some w) ⊎ (IsTrue (is_among xs x) × IsTrue (fits_sorts ps x w))

  -- The table is larger, by at most one variable for each name without a term, and the store gives each of the names a term: the one that
  -- it had, or a variable.
  --   cover: values that the names may have are those that they have under a valuation;
  --   exact: under a valuation they have values of their sorts.
  pub record IsNaming (named : PureNamed) : Type 0 where
    pub more : List Sort
    pub grows : named.vars ≡ vars ++ more
    pub all_named : (x : List ℕ) → IsTrue (is_among xs x) → IsSome (term_at named.store x)
    pub known_stay : (x : List ℕ) (t : PureTerm) → term_at bs x ≡ Some t → term_at named.store x ≡ Some t
    pub others_stay : (x : List ℕ) → is_among xs x ≡ false → term_at named.store x ≡ term_at bs x
    pub over : IsStoreOver vars bs → IsStoreOver named.vars named.store
    pub few : (ys : List (List ℕ)) → ((x : List ℕ) → IsTrue (is_among xs x) → IsSome (term_at bs x) ⊎ IsTrue (is_among ys x))
        → length more ≤ length ys
    pub variables : (x : List ℕ) (t : PureTerm) → term_at named.store x ≡ Some t → (term_at bs x ≡ Some t) ⊎ IsVariableFor ps x t
    pub cover : (v : List PureValue) (s t : Store) → MayName v s t → IsNamedAs v s t named
    pub exact : (v : List PureValue) (s : Store) → HaveSorts named.vars v → StandsFor v bs s
        → (t : Store) × (AddsNames s t × StandsFor v named.store t)

  -- there is none where some name can have no value
  abbrev pub NamesAll : Option PureNamed → Type 0
  NamesAll (Some named) = IsNaming named
  NamesAll None = (v : List PureValue) (s t : Store) → ¬ MayName v s t
