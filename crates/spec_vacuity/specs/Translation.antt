-- The pure items of a precondition as atoms: `not(e)` says that e is false, and any other expression that it is true. The variables
-- are numbered: first the parameters, then the declared variables that the precondition names.
use Rattle.std.specs.Prelude.{◌≡◌, ℕ, ◌+◌, List, [], ◌∷◌, ◌++◌, map, Bool, not, ◌&&◌, if◌then◌else◌, Option, Some, None, Result, Ok, Err}
use Rattle.std.specs.List.{filter, flat_map}
use Rattle.std.specs.Option.{option_to_list}
use Rattle.std.specs.Str.{bytes_eq}
use Rattle.gil_values.specs.declared.operators.UnOp.TheVariants.{Not}
use Rattle.gil_values.specs.Pure.{PureValue, integer, boolean, text, symbol, kind, procedure, list}
use Rattle.gil_lexemes.specs.Reading.{◌>>=◌}
use Rattle.gil_syntax.specs.declared.assertions.Param.{Param}
use Rattle.gil_syntax.specs.declared.assertions.SpecSort.{SpecSort}
use Rattle.gil_syntax.specs.Pure.{PureExpr, PureExprs, no_exprs, expr_and, PureItem, pure, uses, PureSpec}
use Rattle.gil_syntax.specs.Pure as expr
use Rattle.gil_syntax.specs.Valid.{is_among, param_names}
use Rattle.assert_logic.specs.Names.{named_by_items}
use Rattle.pure_terms.specs.declared.literals.Literal.{Literal}
use Rattle.pure_terms.specs.declared.variables.Sort.{Sort}
use Rattle.pure_terms.specs.declared.variables.Var.{Var}
use Rattle.pure_terms.specs.Pure.{PureTerm, literal, variable, list_of, unary_of, binary_of, PureTerms, no_terms, term_and, PureAtom, positive, negative}
use Rattle.spec_vacuity.specs.declared.terms.NoTerm.{NoTerm}
use Rattle.spec_vacuity.specs.declared.terms.NoTerm.TheVariants.{Unknown, Memory}

-- ---- variables

abbrev pub sort_of : SpecSort → Sort
sort_of SpecSort.Int = Sort.Int
sort_of SpecSort.Bool = Sort.Bool
sort_of SpecSort.Str = Sort.Str
sort_of SpecSort.Sym = Sort.Sym
sort_of SpecSort.List = Sort.List
sort_of SpecSort.Any = Sort.Any

-- the precondition names what is declared, and no parameter has its name
abbrev pub is_own_variable : PureSpec → Param → Bool
is_own_variable s q = named_by_items s.pre q.name && not (is_among (param_names s.params) q.name)

abbrev pub variables_of : PureSpec → List Param
variables_of s = s.params ++ filter (is_own_variable s) s.logicals

abbrev pub table_of : List Param → List Sort
table_of qs = map (λ q. sort_of q.sort) qs

-- the variable of a name, numbered from n on; of two of one name the first counts
abbrev pub variable_from : ℕ → List Param → List ℕ → Option Var
variable_from n [] x = None
variable_from n (q ∷ qs) x = if bytes_eq q.name x then Some (record { number = n; sort = sort_of q.sort }) else variable_from (n + 1) qs x

-- ---- terms

abbrev pub Lacks : {Y : Type 0} → NoTerm → Option Y → Type 0
Lacks Memory made = Unit {0}
Lacks Unknown made = made ≡ None

-- What a function returned, seen by view, is what is made, unless memory ran out.
abbrev pub Makes : {X Y : Type 0} → (X → Y) → Result X NoTerm → Option Y → Type 0
Makes view (Ok x) made = made ≡ Some (view x)
Makes view (Err stop) made = Lacks stop made

-- the term of a literal
abbrev pub literal_term : PureValue → Option PureTerm
literal_term (integer n) = Some (literal (Literal.Int n))
literal_term (boolean b) = Some (literal (Literal.Bool b))
literal_term (text cs) = Some (literal (Literal.Str cs))
literal_term (symbol n) = None
literal_term (kind k) = Some (literal (Literal.Kind k))
literal_term (procedure f) = Some (literal (Literal.Proc f))
literal_term (list vs) = None

-- the term of a name
abbrev pub named_term : (List ℕ → Option Var) → List ℕ → Option PureTerm
named_term find x = find x >>= λ v. Some (variable v)

abbrev mutual
  pub term_of : (List ℕ → Option Var) → PureExpr → Option PureTerm
  term_of find (expr.literal v) = literal_term v
  term_of find (expr.name x) = named_term find x
  term_of find (expr.logical x) = named_term find x
  term_of find (expr.list_of es) = terms_of find es >>= λ ts. Some (list_of ts)
  term_of find (expr.unary_of op e) = term_of find e >>= λ t. Some (unary_of op t)
  term_of find (expr.binary_of op d e) = term_of find d >>= λ s. term_of find e >>= λ t. Some (binary_of op s t)

  pub terms_of : (List ℕ → Option Var) → PureExprs → Option PureTerms
  terms_of find no_exprs = Some no_terms
  terms_of find (expr_and e es) = term_of find e >>= λ t. terms_of find es >>= λ ts. Some (term_and t ts)

-- ---- atoms

-- the expression of which `not(..)` says that it is false
abbrev pub denied : PureExpr → Option PureExpr
denied (expr.unary_of Not e) = Some e
denied _ = None

abbrev pub said_by : (List ℕ → Option Var) → PureExpr → Option PureExpr → Option PureAtom
said_by find e (Some d) = term_of find d >>= λ t. Some (negative t)
said_by find e None = term_of find e >>= λ t. Some (positive t)

abbrev pub atom_of : (List ℕ → Option Var) → PureExpr → Option PureAtom
atom_of find e = said_by find e (denied e)

-- items that have no term, as those with a symbol, and uses of predicates say nothing
abbrev pub atoms_of_item : (List ℕ → Option Var) → PureItem → List PureAtom
atoms_of_item find (pure e) = option_to_list (atom_of find e)
atoms_of_item find (uses u) = []

abbrev pub atoms_of : (List ℕ → Option Var) → List PureItem → List PureAtom
atoms_of find items = flat_map (atoms_of_item find) items

abbrev pub precondition_table : PureSpec → List Sort
precondition_table s = table_of (variables_of s)

abbrev pub precondition_atoms : PureSpec → List PureAtom
precondition_atoms s = atoms_of (variable_from 0 (variables_of s)) s.pre
