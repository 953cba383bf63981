-- The value of a class: its literal, else the number of an Int variable, else one of its kind that no other class has.
use Rattle.std.specs.Prelude.{◌≡◌, ◌⊎◌, ℕ, zero, suc, ◌+◌, ◌^◌, ◌<◌, ◌≤◌, max, pos, List, [], ◌∷◌, ◌++◌, length, slice_get, false, Option, Some}
use Rattle.gil_values.specs.declared.kinds.Kind.{Kind}
use Rattle.gil_values.specs.Pure.{PureValue, integer, boolean, text, symbol, kind, procedure, list, no_values, value_and}
use Rattle.pure_terms.specs.declared.literals.Literal.{Literal}
use Rattle.pure_terms.specs.declared.variables.Sort.{Sort}
use Rattle.pure_terms.specs.declared.variables.Var.{Var}
use Rattle.pure_terms.specs.Meaning.{literal_value}
use Rattle.pure_terms.specs.Pure.{PureTerm, literal, variable, binary_of, PureAtom, term_of}
use Rattle.equality_core.specs.Classes.{PureClasses, given_list, IsTaken}
use Rattle.equality_core.specs.Equating.{Equates, EquatesNoClash, HaveFragmentForms}
use Rattle.equality_core.specs.Nodes.{PureNode, root_of}

-- the variable is one of the table, with its sort there
abbrev pub IsInTable : List Sort → Var → Type 0
IsInTable vars x = slice_get vars x.number ≡ Some x.sort

-- how long a text or a name is
abbrev pub letters_of : Literal → ℕ
letters_of (Literal.Str cs) = length cs
letters_of (Literal.Proc name) = length name
letters_of l = 0

-- the same of a term that is a literal, and of the longer one of the two sides of an atom
abbrev pub letters_of_term : PureTerm → ℕ
letters_of_term (literal l) = letters_of l
letters_of_term t = 0

abbrev pub letters_of_sides : PureTerm → ℕ
letters_of_sides (binary_of op s t) = max (letters_of_term s) (letters_of_term t)
letters_of_sides t = 0

abbrev pub AreShort : ℕ → List PureAtom → Type 0
AreShort long atoms = (i : ℕ) (a : PureAtom) → slice_get atoms i ≡ Some a → letters_of_sides (term_of a) ≤ long

-- so many letters
abbrev pub letters : ℕ → List ℕ
letters zero = []
letters (suc n) = letters n ++ 97 ∷ []

-- a value of the kind: another one for each number, and none that a literal has whose text or name isn't longer than `long`
abbrev pub new_value : ℕ → Kind → ℕ → PureValue
new_value long Kind.Int n = integer (pos (2 ^ 124 + 1 + n))
new_value long Kind.Bool n = boolean false
new_value long Kind.Str n = text (letters (long + 1 + n))
new_value long Kind.Sym n = symbol n
new_value long Kind.Kind n = kind Kind.Int
new_value long Kind.Proc n = procedure (letters (long + 1 + n))
new_value long Kind.List n = list (value_and (integer (pos n)) no_values)
new_value long Kind.Undef n = boolean false
new_value long Kind.Null n = boolean false

-- the least number of a variable of its class
pub record IsKey (vars : List Sort) (atoms : List PureAtom) (x : Var) (key : ℕ) : Type 0 where
  pub within : key ≤ x.number
  pub sort : Sort
  pub there : slice_get vars key ≡ Some sort
  pub equated : Equates atoms (variable x) (variable (record { number = key; sort = sort }))
  pub least : (y : Var) → IsInTable vars y → y.number < key → Equates atoms (variable x) (variable y) → ⊥

pub record HasLiteral (atoms : List PureAtom) (long : ℕ) (x : Var) (w : PureValue) : Type 0 where
  pub of : Literal
  pub equated : Equates atoms (variable x) (literal of)
  pub short : letters_of of ≤ long
  pub is : w ≡ literal_value of

abbrev pub HasNoLiteral : List PureAtom → Var → Type 0
HasNoLiteral atoms x = (l : Literal) → Equates atoms (variable x) (literal l) → ⊥

pub record HasNumber (vars : List Sort) (atoms : List PureAtom) (numbers : List PureValue) (x : Var) (w : PureValue) : Type 0 where
  pub of : Var
  pub there : IsInTable vars of
  pub whole : of.sort ≡ Sort.Int
  pub equated : Equates atoms (variable x) (variable of)
  pub is : slice_get numbers of.number ≡ Some w

abbrev pub HasNoIntVariable : List Sort → List PureAtom → Var → Type 0
HasNoIntVariable vars atoms x = (y : Var) → IsInTable vars y → y.sort ≡ Sort.Int → Equates atoms (variable x) (variable y) → ⊥

pub record IsNew (vars : List Sort) (atoms : List PureAtom) (kinds : List Kind) (long : ℕ) (x : Var) (w : PureValue) : Type 0 where
  pub none : HasNoIntVariable vars atoms x
  pub key : ℕ
  pub is_key : IsKey vars atoms x key
  pub of : Kind
  pub there : slice_get kinds x.number ≡ Some of
  pub is : w ≡ new_value long of key

abbrev pub IsValueOf : List Sort → List PureAtom → List PureValue → List Kind → ℕ → Var → PureValue → Type 0
IsValueOf vars atoms numbers kinds long x w =
    HasLiteral atoms long x w ⊎ (HasNoLiteral atoms x × (HasNumber vars atoms numbers x w ⊎ IsNew vars atoms kinds long x w))

-- each variable of the table has the value of its class
pub record AreValues (vars : List Sort) (atoms : List PureAtom) (numbers : List PureValue) (kinds : List Kind) (long : ℕ) (v : List PureValue) : Type 0 where
  pub one_each : length v ≡ length vars
  pub each : (x : Var) (w : PureValue) → IsInTable vars x → slice_get v x.number ≡ Some w → IsValueOf vars atoms numbers kinds long x w

-- ---- as the code finds them

-- the roots of the nodes of the variables from x on
abbrev pub roots_from : List PureNode → ℕ → List Sort → List (Option ℕ)
roots_from nodes x [] = []
roots_from nodes x (s ∷ ss) = root_of nodes (variable (record { number = x; sort = s })) ∷ roots_from nodes (x + 1) ss

-- the variable at this place has the root
abbrev pub HasRoot : List (Option ℕ) → ℕ → ℕ → Type 0
HasRoot roots root x = slice_get roots x ≡ Some (Some root)

-- the first place of the root, if it is before the end
pub record IsFirstWith (roots : List (Option ℕ)) (root last place : ℕ) : Type 0 where
  pub within : place ≤ last
  pub has : HasRoot roots root last → HasRoot roots root place
  pub least : (y : ℕ) → y < place → HasRoot roots root y → ⊥

-- the first Int variable with the root
pub record IsIntWith (vars : List Sort) (roots : List (Option ℕ)) (root place : ℕ) : Type 0 where
  pub whole : slice_get vars place ≡ Some Sort.Int
  pub has : HasRoot roots root place

abbrev pub HasNoIntWith : List Sort → List (Option ℕ) → ℕ → Type 0
HasNoIntWith vars roots root = (y : ℕ) → slice_get vars y ≡ Some Sort.Int → HasRoot roots root y → ⊥

-- a node of the class whose term is the literal
pub record IsLiteralIn (nodes : List PureNode) (root : ℕ) (l : Literal) : Type 0 where
  pub place : ℕ
  pub node : PureNode
  pub at : slice_get nodes place ≡ Some node
  pub one : node.root ≡ root
  pub is : node.term ≡ literal l

abbrev pub HasNoLiteralIn : List PureNode → ℕ → Type 0
HasNoLiteralIn nodes root = (i : ℕ) (n : PureNode) (l : Literal) → slice_get nodes i ≡ Some n → n.root ≡ root → n.term ≡ literal l → ⊥

-- no literal among the terms of the nodes has more letters
abbrev pub HaveFewLetters : ℕ → List PureNode → Type 0
HaveFewLetters long nodes = (i : ℕ) (n : PureNode) → slice_get nodes i ≡ Some n → letters_of_term n.term ≤ long

-- all equalities were taken in, there is no clash, and these are the roots of the variables
pub record IsClassed (vars : List Sort) (c : PureClasses) (roots : List (Option ℕ)) : Type 0 where
  pub taken : IsTaken c (length c.list)
  pub forms : HaveFragmentForms (given_list c)
  pub clear : EquatesNoClash (given_list c)
  pub rooted : roots ≡ roots_from c.nodes 0 vars
