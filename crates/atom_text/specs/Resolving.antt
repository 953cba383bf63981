-- Terms and atoms of expressions, where names are looked up: what the reader's functions answer.
use Rattle.std.specs.Prelude.{◌≡◌, ℕ, ◌<◌, List, [], ◌∷◌, length, slice_get, Option, Some, None, Result, Ok, Err}
use Rattle.std.specs.HashMap.{HashMap, get_by}
use Rattle.std.specs.Str.{bytes_eq}
use denote.Ref.{Bor}
use Rattle.gil_values.specs.declared.operators.UnOp.TheVariants.{Not}
use Rattle.gil_values.specs.Pure.{PureValue, integer, boolean, text, symbol, kind, procedure, list}
use Rattle.gil_lexemes.specs.Reading.{◌>>=◌}
use Rattle.gil_syntax.specs.Pure.{PureExpr, PureExprs, no_exprs, expr_and}
use Rattle.gil_syntax.specs.Pure as expr
use Rattle.pure_terms.specs.declared.literals.Literal.{Literal}
use Rattle.pure_terms.specs.declared.variables.Var.{Var}
use Rattle.pure_terms.specs.Pure.{PureTerm, literal, variable, list_of, unary_of, binary_of, PureTerms, no_terms, term_and, PureAtom, positive, negative}
use Rattle.atom_text.specs.declared.sources.Declaration.{Declaration}
use Rattle.atom_text.specs.declared.terms.NoTerm.{NoTerm}
use Rattle.atom_text.specs.declared.terms.NoTerm.TheVariants.{Unknown, Memory}
use Rattle.atom_text.specs.declared.naming.Unfit.{Unfit}
use Rattle.atom_text.specs.declared.naming.Unfit.TheVariants as unfit
use Rattle.atom_text.specs.Refusals.{IsDuplicate}
use Rattle.atom_text.specs.Sources.{PureStated}

-- ---- names

-- the variable that a table has for a name
abbrev pub variable_in : {S : Type 0} → HashMap (Bor (List ℕ)) Var S → List ℕ → Option Var
variable_in m x = get_by (λ k. bytes_eq x k.now) m

-- the variables of the first n declarations are found by their names, and no others
pub record FindsFirst (ds : List Declaration) (n : ℕ) (find : List ℕ → Option Var) : Type 0 where
  pub sound : (x : List ℕ) (v : Var) → find x ≡ Some v
      → (d : Declaration) × (slice_get ds v.number ≡ Some d) × (v.number < n) × (d.name ≡ x) × (d.sort ≡ v.sort)
  pub complete : (i : ℕ) (d : Declaration) → slice_get ds i ≡ Some d → i < n → find d.name ≡ Some (record { number = i; sort = d.sort })

abbrev pub FindsAll : List Declaration → (List ℕ → Option Var) → Type 0
FindsAll ds find = FindsFirst ds (length ds) find

abbrev pub IsTwiceUnless : List Declaration → Unfit → Type 0
IsTwiceUnless ds (unfit.Duplicate at) = IsDuplicate ds at
IsTwiceUnless ds (unfit.UnknownName at) = ⊥
IsTwiceUnless ds (unfit.TooMany at) = ⊥
IsTwiceUnless ds unfit.Memory = Unit {0}

-- ---- terms

abbrev pub Lacks : {Y : Type 0} → NoTerm → Option Y → Type 0
Lacks Memory made = Unit {0}
Lacks Unknown made = made ≡ None

-- What a function returned, seen by view, is what is made, unless memory ran out.
abbrev pub Makes : {X Y : Type 0} → (X → Y) → Result X NoTerm → Option Y → Type 0
Makes view (Ok x) made = made ≡ Some (view x)
Makes view (Err stop) made = Lacks stop made

-- the term of a literal
abbrev pub literal_term : PureValue → Option PureTerm
literal_term (integer n) = Some (literal (Literal.Int n))
literal_term (boolean b) = Some (literal (Literal.Bool b))
literal_term (text cs) = Some (literal (Literal.Str cs))
literal_term (symbol n) = None
literal_term (kind k) = Some (literal (Literal.Kind k))
literal_term (procedure f) = Some (literal (Literal.Proc f))
literal_term (list vs) = None

-- the term of a name
abbrev pub named_term : (List ℕ → Option Var) → List ℕ → Option PureTerm
named_term find x = find x >>= λ v. Some (variable v)

abbrev mutual
  pub term_of : (List ℕ → Option Var) → PureExpr → Option PureTerm
  term_of find (expr.literal v) = literal_term v
  term_of find (expr.name x) = named_term find x
  term_of find (expr.logical x) = None
  term_of find (expr.list_of es) = terms_of find es >>= λ ts. Some (list_of ts)
  term_of find (expr.unary_of op e) = term_of find e >>= λ t. Some (unary_of op t)
  term_of find (expr.binary_of op d e) = term_of find d >>= λ s. term_of find e >>= λ t. Some (binary_of op s t)

  pub terms_of : (List ℕ → Option Var) → PureExprs → Option PureTerms
  terms_of find no_exprs = Some no_terms
  terms_of find (expr_and e es) = term_of find e >>= λ t. terms_of find es >>= λ ts. Some (term_and t ts)

-- ---- atoms

abbrev pub atom_of : (List ℕ → Option Var) → PureExpr → Option PureAtom
atom_of find (expr.unary_of Not e) = term_of find e >>= λ t. Some (negative t)
atom_of find e = term_of find e >>= λ t. Some (positive t)

abbrev pub atoms_of : (List ℕ → Option Var) → List PureStated → Option (List PureAtom)
atoms_of find [] = Some []
atoms_of find (s ∷ stated) = atom_of find s.expression >>= λ a. atoms_of find stated >>= λ atoms. Some (a ∷ atoms)

-- the first expression of which no atom is made
pub record IsFirstUnmade (find : List ℕ → Option Var) (stated : List PureStated) (at : ℕ) : Type 0 where
  pub place : ℕ
  pub one : PureStated
  pub there : slice_get stated place ≡ Some one
  pub byte : one.at ≡ at
  pub unmade : atom_of find one.expression ≡ None
  pub first : (i : ℕ) (s : PureStated) → i < place → slice_get stated i ≡ Some s → (a : PureAtom) × (atom_of find s.expression ≡ Some a)

abbrev pub IsUnmadeUnless : (List ℕ → Option Var) → List PureStated → Unfit → Type 0
IsUnmadeUnless find stated (unfit.Duplicate at) = ⊥
IsUnmadeUnless find stated (unfit.UnknownName at) = IsFirstUnmade find stated at
IsUnmadeUnless find stated (unfit.TooMany at) = ⊥
IsUnmadeUnless find stated unfit.Memory = Unit {0}
