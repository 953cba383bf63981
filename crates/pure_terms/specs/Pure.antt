-- Terms and atoms as pure data, without addresses and capacities.
use Rattle.std.specs.Prelude.{◌≡◌, ℕ, suc, ◌+◌, List, [], ◌∷◌, ◌++◌, refl}
use Rattle.std.proofs.Common.{ap}
use Rattle.std.specs.List.{flat_map}
use Rattle.gil_values.specs.declared.operators.UnOp.{UnOp}
use Rattle.gil_values.specs.declared.operators.BinOp.{BinOp}
use Rattle.pure_terms.specs.declared.literals.Literal.{Literal}
use Rattle.pure_terms.specs.declared.variables.Var.{Var}

mutual
  pub data PureTerm : Type 0 where
    literal : Literal → PureTerm
    variable : Var → PureTerm
    list_of : PureTerms → PureTerm
    unary_of : UnOp → PureTerm → PureTerm
    binary_of : BinOp → PureTerm → PureTerm → PureTerm

  pub data PureTerms : Type 0 where
    no_terms : PureTerms
    term_and : PureTerm → PureTerms → PureTerms

-- a list of terms as the elements of a list term, and back
abbrev pub from_list : List PureTerm → PureTerms
from_list [] = no_terms
from_list (t ∷ ts) = term_and t (from_list ts)

abbrev pub to_list : PureTerms → List PureTerm
to_list no_terms = []
to_list (term_and t ts) = t ∷ to_list ts

pub to_list-from_list : (ts : List PureTerm) → to_list (from_list ts) ≡ ts
to_list-from_list [] = refl
to_list-from_list (t ∷ ts) = ap (λ rest. t ∷ rest) (to_list-from_list ts)

pub from_list-to_list : (ts : PureTerms) → from_list (to_list ts) ≡ ts
from_list-to_list no_terms = refl
from_list-to_list (term_and t ts) = ap (term_and t) (from_list-to_list ts)

-- what is said of a term: that it is true, that it is false, or that it has a value, in a place where the analysis would
-- need its literal form
pub data PureAtom : Type 0 where
  positive : PureTerm → PureAtom
  negative : PureTerm → PureAtom
  opening : PureTerm → PureAtom

abbrev pub term_of : PureAtom → PureTerm
term_of (positive t) = t
term_of (negative t) = t
term_of (opening t) = t

-- how many nodes a term has
abbrev mutual
  pub size : PureTerm → ℕ
  size (literal l) = 1
  size (variable x) = 1
  size (list_of ts) = suc (sizes ts)
  size (unary_of op t) = suc (size t)
  size (binary_of op s t) = suc (size s + size t)

  pub sizes : PureTerms → ℕ
  sizes no_terms = 0
  sizes (term_and t ts) = size t + sizes ts

-- a term and all that stands in it, from left to right
abbrev mutual
  pub subterms : PureTerm → List PureTerm
  subterms (literal l) = literal l ∷ []
  subterms (variable x) = variable x ∷ []
  subterms (list_of ts) = list_of ts ∷ subterms_of_all ts
  subterms (unary_of op t) = unary_of op t ∷ subterms t
  subterms (binary_of op s t) = binary_of op s t ∷ (subterms s ++ subterms t)

  pub subterms_of_all : PureTerms → List PureTerm
  subterms_of_all no_terms = []
  subterms_of_all (term_and t ts) = subterms t ++ subterms_of_all ts

-- the variables that stand in a term, from left to right
abbrev mutual
  pub variables : PureTerm → List Var
  variables (literal l) = []
  variables (variable x) = x ∷ []
  variables (list_of ts) = variables_of_all ts
  variables (unary_of op t) = variables t
  variables (binary_of op s t) = variables s ++ variables t

  pub variables_of_all : PureTerms → List Var
  variables_of_all no_terms = []
  variables_of_all (term_and t ts) = variables t ++ variables_of_all ts

-- the variables that the atoms of a list name
abbrev pub variables_of_atoms : List PureAtom → List Var
variables_of_atoms atoms = flat_map (λ a. variables (term_of a)) atoms
