-- The fragment: lists of atoms that a decider always decides.
use Rattle.std.specs.Prelude.{ℕ, suc, ◌<◌, ◌^◌, ℤ, pos, neg_ℤ, List, [], ◌∷◌, map, Bool, true, false, not, ◌&&◌, ◌||◌, if◌then◌else◌, IsTrue, nat_eq}
use Rattle.std.specs.List.{list_all, list_any}
use Rattle.gil_values.specs.declared.kinds.Kind.{Kind}
use Rattle.gil_values.specs.declared.operators.UnOp.{UnOp}
use Rattle.gil_values.specs.declared.operators.BinOp.{BinOp}
use Rattle.pure_terms.specs.declared.literals.Literal.{Literal}
use Rattle.pure_terms.specs.declared.variables.Sort.{Sort}
use Rattle.pure_terms.specs.Numbers.{is_between}
use Rattle.pure_terms.specs.Kinds.{same_sort, is_of_kind, known_kind}
use Rattle.pure_terms.specs.Pure.{PureTerm, literal, variable, list_of, unary_of, binary_of, PureTerms, no_terms, term_and, PureAtom, positive, negative, opening, term_of, variables_of_atoms}

-- ---- simple terms

abbrev pub is_integer_literal : PureTerm → Bool
is_integer_literal (literal (Literal.Int n)) = true
is_integer_literal _ = false

abbrev pub is_variable_of : Sort → PureTerm → Bool
is_variable_of s (variable x) = same_sort x.sort s
is_variable_of s _ = false

-- plus and minus
abbrev pub is_shift : BinOp → Bool
is_shift BinOp.Add = true
is_shift BinOp.Subtract = true
is_shift _ = false

-- a literal, a variable, an Int variable plus or minus an Int literal, or a list term of simple terms
abbrev mutual
  pub is_simple : PureTerm → Bool
  is_simple (literal l) = true
  is_simple (variable x) = true
  is_simple (list_of ts) = are_simple ts
  is_simple (unary_of op t) = false
  is_simple (binary_of op s t) = is_shift op && (is_variable_of Sort.Int s && is_integer_literal t)

  pub are_simple : PureTerms → Bool
  are_simple no_terms = true
  are_simple (term_and t ts) = is_simple t && are_simple ts

-- the term names a variable of this sort
abbrev mutual
  pub names_sort : Sort → PureTerm → Bool
  names_sort s (literal l) = false
  names_sort s (variable x) = same_sort x.sort s
  names_sort s (list_of ts) = name_sort s ts
  names_sort s (unary_of op t) = names_sort s t
  names_sort s (binary_of op t u) = names_sort s t || names_sort s u

  pub name_sort : Sort → PureTerms → Bool
  name_sort s no_terms = false
  name_sort s (term_and t ts) = names_sort s t || name_sort s ts

-- a simple term without variables of sort any or list
abbrev pub is_plain : PureTerm → Bool
is_plain t = is_simple t && (not (names_sort Sort.Any t) && not (names_sort Sort.List t))

-- ---- the forms of atoms

-- a literal or a variable
abbrev pub is_flat : PureTerm → Bool
is_flat (literal l) = true
is_flat (variable x) = true
is_flat _ = false

abbrev pub is_kind_of_any : PureTerm → Bool
is_kind_of_any (unary_of UnOp.Kind t) = is_variable_of Sort.Any t
is_kind_of_any _ = false

abbrev pub is_kind_literal : PureTerm → Bool
is_kind_literal (literal (Literal.Kind k)) = true
is_kind_literal _ = false

-- `(kind(x) = K)` of a variable of sort any and a kind
abbrev pub is_kind_test : PureTerm → Bool
is_kind_test (binary_of BinOp.Equal s t) = is_kind_of_any s && is_kind_literal t
is_kind_test _ = false

-- `=` of two simple terms
abbrev pub is_simple_equality : PureTerm → Bool
is_simple_equality (binary_of BinOp.Equal s t) = is_simple s && is_simple t
is_simple_equality _ = false

-- a simple term whose form and sorts tell that it is a whole number
abbrev pub is_integer_side : PureTerm → Bool
is_integer_side t = is_simple t && is_of_kind (known_kind t) Kind.Int

abbrev pub is_order : BinOp → Bool
is_order BinOp.Less = true
is_order BinOp.LessOrEqual = true
is_order _ = false

-- `<` or `<=` of two simple terms with Int sides
abbrev pub is_comparison : PureTerm → Bool
is_comparison (binary_of op s t) = is_order op && (is_integer_side s && is_integer_side t)
is_comparison _ = false

abbrev pub has_form : PureTerm → Bool
has_form t = is_variable_of Sort.Bool t || (is_simple_equality t || (is_comparison t || is_kind_test t))

-- a variable of sort any stands only as one whole side of an `=` whose other side is a variable or a literal
abbrev pub any_is_a_side : PureTerm → Bool
any_is_a_side (binary_of BinOp.Equal s t) = (is_flat s && is_flat t) || (not (names_sort Sort.Any s) && not (names_sort Sort.Any t))
any_is_a_side t = not (names_sort Sort.Any t)

-- the term of an atom of the fragment, limits aside
abbrev pub is_fragment_term : PureTerm → Bool
is_fragment_term t = has_form t && (not (names_sort Sort.List t) && (is_kind_test t || any_is_a_side t))

-- the atom has a form of the fragment
abbrev pub has_fragment_form : PureAtom → Bool
has_fragment_form (positive t) = is_fragment_term t
has_fragment_form (negative t) = is_fragment_term t
has_fragment_form (opening t) = false

-- ---- the limits

abbrev pub is_literal_between : ℤ → ℤ → Literal → Bool
is_literal_between low high (Literal.Int n) = is_between low high n
is_literal_between low high _ = true

-- each Int literal of the term lies between the two numbers, these included
abbrev mutual
  pub has_literals_between : ℤ → ℤ → PureTerm → Bool
  has_literals_between low high (literal l) = is_literal_between low high l
  has_literals_between low high (variable x) = true
  has_literals_between low high (list_of ts) = have_literals_between low high ts
  has_literals_between low high (unary_of op t) = has_literals_between low high t
  has_literals_between low high (binary_of op s t) = has_literals_between low high s && has_literals_between low high t

  pub have_literals_between : ℤ → ℤ → PureTerms → Bool
  have_literals_between low high no_terms = true
  have_literals_between low high (term_and t ts) = has_literals_between low high t && have_literals_between low high ts

-- the literals of the fragment: -2^80 to 2^80
abbrev pub has_narrow_literals : PureAtom → Bool
has_narrow_literals a = has_literals_between (neg_ℤ (pos (2 ^ 80))) (pos (2 ^ 80)) (term_of a)

-- how many different numbers stand in a list
abbrev pub different : List ℕ → ℕ
different [] = 0
different (n ∷ ns) = if list_any (nat_eq n) ns then different ns else suc (different ns)

-- how many variables the atoms name
abbrev pub variable_count : List PureAtom → ℕ
variable_count atoms = different (map (λ x. x.number) (variables_of_atoms atoms))

pub record InFragment (atoms : List PureAtom) : Type 0 where
  pub forms : IsTrue (list_all has_fragment_form atoms)
  pub literals : IsTrue (list_all has_narrow_literals atoms)
  pub few_variables : variable_count atoms < 2 ^ 40
