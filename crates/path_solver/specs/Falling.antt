-- How long a search can go on. What a split adds wasn't said before, and over a table only so much can be said of variables and
-- numbers; what is added for a disequality of list terms is smaller than it.
use Rattle.std.specs.Prelude.{ℕ, zero, suc, ◌+◌, ◌<◌, ◌^◌, ℤ, pos, negsuc, List, [], ◌∷◌, ◌++◌, map, length, Bool, true, false, ◌||◌}
use Rattle.std.specs.List.{list_any}
use Rattle.gil_values.specs.declared.operators.BinOp.{BinOp}
use Rattle.pure_terms.specs.declared.literals.Literal.{Literal}
use Rattle.pure_terms.specs.declared.variables.Sort.{Sort}
use Rattle.pure_terms.specs.Equality.{same_term}
use Rattle.pure_terms.specs.Pure.{PureTerm, literal, variable, list_of, binary_of, PureTerms, term_and, sizes, PureAtom, positive, negative, opening}
use Rattle.solver_proof.specs.Chains.{equals, kind_is}
use Rattle.solver_proof.specs.Closing.{all_kinds}

-- ---- what can be said of the variables of a table

-- the numbers below a bound. They are far too many to be gone over.
unfoldable pub below : ℕ → List ℕ
below zero = []
below (suc n) = n ∷ below n

-- the whole numbers from the bound down to its opposite, less one
abbrev pub numbers_within : ℕ → List ℤ
numbers_within bound = map pos (below (suc bound)) ++ map negsuc (below bound)

-- what a function makes of each pair
abbrev pub each_pair : {X Y Z : Type 0} → (X → Y → Z) → List X → List Y → List Z
each_pair f [] ys = []
each_pair f (x ∷ xs) ys = map (f x) ys ++ each_pair f xs ys

abbrev pub all_sorts : List Sort
all_sorts = Sort.Int ∷ Sort.Bool ∷ Sort.Str ∷ Sort.Sym ∷ Sort.Fresh ∷ Sort.List ∷ Sort.Any ∷ []

-- the variables with lower numbers
abbrev pub variables_below : ℕ → List PureTerm
variables_below n = each_pair (λ x s. variable (record { number = x; sort = s })) (below n) all_sorts

abbrev pub narrow_numbers : List PureTerm
narrow_numbers = map (λ n. literal (Literal.Int n)) (numbers_within (2 ^ 80))

-- variables, numbers, and variables plus or minus numbers
abbrev pub sides_below : ℕ → List PureTerm
sides_below n =
    variables_below n ++ (narrow_numbers ++ (each_pair (binary_of BinOp.Add) (variables_below n) narrow_numbers ++ each_pair (binary_of BinOp.Subtract) (variables_below n) narrow_numbers))

-- variables, and equalities and orders of sides
abbrev pub tests_below : ℕ → List PureTerm
tests_below n =
    variables_below n ++ (each_pair (binary_of BinOp.Equal) (sides_below n) (sides_below n) ++ each_pair (binary_of BinOp.LessOrEqual) (sides_below n) (sides_below n))

abbrev pub small_values : List Literal
small_values = Literal.Bool true ∷ Literal.Bool false ∷ map Literal.Kind all_kinds

abbrev pub sayable : ℕ → List PureAtom
sayable n =
    map positive (tests_below n) ++ (map negative (tests_below n) ++ (each_pair (λ x k. positive (kind_is x k)) (variables_below n) all_kinds ++ each_pair (λ x l. positive (equals x (literal l))) (variables_below n) small_values))

-- ---- what isn't said yet

abbrev pub same_atom : PureAtom → PureAtom → Bool
same_atom (positive s) (positive t) = same_term s t
same_atom (negative s) (negative t) = same_term s t
same_atom (opening s) (opening t) = same_term s t
same_atom _ _ = false

abbrev pub is_said : List PureAtom → PureAtom → Bool
is_said list a = list_any (same_atom a) list

abbrev pub one_unless : Bool → ℕ
one_unless true = 0
one_unless false = 1

-- how many of these atoms don't stand in the list
abbrev pub unsaid : List PureAtom → List PureAtom → ℕ
unsaid list [] = 0
unsaid list (a ∷ more) = one_unless (is_said list a) + unsaid list more

-- ---- disequalities of list terms of which no elements are said to differ

abbrev pub some_differ : List PureAtom → PureTerms → PureTerms → Bool
some_differ list (term_and t ts) (term_and u us) = is_said list (negative (equals t u)) || some_differ list ts us
some_differ list _ _ = false

abbrev pub size_unless : Bool → PureTerms → ℕ
size_unless true ts = 0
size_unless false ts = suc (sizes ts)

abbrev pub open_sides : List PureAtom → PureTerm → PureTerm → ℕ
open_sides list (list_of ts) (list_of us) = size_unless (some_differ list ts us) ts
open_sides list _ _ = 0

abbrev pub open_term : List PureAtom → PureTerm → ℕ
open_term list (binary_of BinOp.Equal s t) = open_sides list s t
open_term list _ = 0

abbrev pub open_size : List PureAtom → PureAtom → ℕ
open_size list (negative t) = open_term list t
open_size list _ = 0

-- the sizes of such disequalities among these atoms
abbrev pub open_sizes : List PureAtom → List PureAtom → ℕ
open_sizes list [] = 0
open_sizes list (a ∷ more) = open_size list a + open_sizes list more

-- ---- the measure

abbrev pub left_to_say : List Sort → List PureAtom → ℕ
left_to_say vars list = open_sizes list list + unsaid list (sayable (length vars))

-- less is left where the atom is added
abbrev pub Falls : List Sort → List PureAtom → PureAtom → Type 0
Falls vars list a = left_to_say vars (list ++ a ∷ []) < left_to_say vars list
