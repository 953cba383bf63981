-- What holds of every term, every valuation and every atom.
use Rattle.std.specs.Prelude.{◌≡◌, ◌↔◌, ◌<◌, ◌^◌, ℕ, List, [], ◌∷◌, ◌++◌, map, length, slice_get, Bool, false, Some, IsTrue}
use Rattle.std.specs.Option.{option_map}
use Rattle.std.specs.List.{Contains}
use Rattle.gil_values.specs.declared.kinds.Kind.{Kind}
use Rattle.gil_values.specs.declared.operators.UnOp.{UnOp}
use Rattle.gil_values.specs.declared.operators.BinOp.{BinOp}
use Rattle.gil_values.specs.Pure.{PureValue, boolean, kind_of}
use Rattle.gil_values.specs.Symbols.{OccursIn, symbols_of_all}
use Rattle.pure_terms.specs.declared.variables.Sort.{Sort}
use Rattle.pure_terms.specs.declared.variables.Var.{Var}
use Rattle.pure_terms.specs.Folding.{folded_unary, folded_binary}
use Rattle.pure_terms.specs.Fragment.{is_simple, names_sort, has_fragment_form, variable_count, InFragment}
use Rattle.pure_terms.specs.Kinds.{known_kind}
use Rattle.pure_terms.specs.Meaning.{value, truth, IsProper, IsOver}
use Rattle.pure_terms.specs.Pure.{PureTerm, unary_of, binary_of, PureAtom, term_of, variables}
use Rattle.pure_terms.specs.Renaming.{renamed, IsOneToOneOn}
use Rattle.pure_terms.specs.Rewriting.{Replaces}

-- ---- variables

-- the valuations give the same values to these variables
abbrev pub AgreeOn : List Var → List PureValue → List PureValue → Type 0
AgreeOn xs v w = (x : Var) → Contains xs x → slice_get v x.number ≡ slice_get w x.number

-- Values and truth depend only on the variables that are named.
pub record DependOnVariables : Type 0 where
  pub values : (t : PureTerm) (v w : List PureValue) → AgreeOn (variables t) v w → value v t ≡ value w t
  pub truths : (a : PureAtom) (v w : List PureValue) → AgreeOn (variables (term_of a)) v w → truth v a ≡ truth w a

-- They stay when the table grows, and so does the table's word for the variables.
pub record StayWhenTablesGrow : Type 0 where
  pub over : (t : PureTerm) (vars more : List Sort) → IsOver vars t → IsOver (vars ++ more) t
  pub values : (t : PureTerm) (vars : List Sort) (v more : List PureValue) → IsOver vars t → length v ≡ length vars
      → value (v ++ more) t ≡ value v t
  pub truths : (a : PureAtom) (vars : List Sort) (v more : List PureValue) → IsOver vars (term_of a) → length v ≡ length vars
      → truth (v ++ more) a ≡ truth v a

-- ---- symbols

-- Each symbol in the value of a term occurs in the value of a variable of the term.
abbrev pub InventsNoSymbol : Type 0
InventsNoSymbol = (t : PureTerm) (v : List PureValue) (w : PureValue) (n : ℕ) → value v t ≡ Some w → OccursIn n w
    → (x : Var) × ((u : PureValue) × (Contains (variables t) x × (slice_get v x.number ≡ Some u) × OccursIn n u))

-- Symbols are known apart alone: other names for them give other names in values, and keep truth and what is proper.
pub record RenamingKeeps : Type 0 where
  pub values : (f : ℕ → ℕ) (v : List PureValue) (t : PureTerm) → IsOneToOneOn (symbols_of_all v) f
      → value (map (renamed f) v) t ≡ option_map (renamed f) (value v t)
  pub truths : (f : ℕ → ℕ) (v : List PureValue) (a : PureAtom) → IsOneToOneOn (symbols_of_all v) f → truth (map (renamed f) v) a ≡ truth v a
  pub proper : (f : ℕ → ℕ) (vars : List Sort) (v : List PureValue) → IsOneToOneOn (symbols_of_all v) f → IsProper vars v
      → IsProper vars (map (renamed f) v)

-- ---- kinds and the fragment

-- A kind that form and sorts tell is that of the value.
abbrev pub KnownKindsAreRight : Type 0
KnownKindsAreRight =
    (vars : List Sort) (v : List PureValue) (t : PureTerm) (w : PureValue) (k : Kind) → IsProper vars v → IsOver vars t
    → value v t ≡ Some w → known_kind t ≡ Some k → kind_of w ≡ k

-- A simple term without variables of sort any has a known kind.
abbrev pub SimpleTermsHaveKinds : Type 0
SimpleTermsHaveKinds = (t : PureTerm) → IsTrue (is_simple t) → names_sort Sort.Any t ≡ false → (k : Kind) × (known_kind t ≡ Some k)

-- Simple terms have values.
abbrev pub SimpleTermsHaveValues : Type 0
SimpleTermsHaveValues =
    (vars : List Sort) (v : List PureValue) (t : PureTerm) → IsProper vars v → IsOver vars t → IsTrue (is_simple t)
    → (w : PureValue) × (value v t ≡ Some w)

-- The term of an atom of a fragment form is true or false.
abbrev pub FragmentTermsAreBooleans : Type 0
FragmentTermsAreBooleans =
    (vars : List Sort) (v : List PureValue) (a : PureAtom) → IsProper vars v → IsOver vars (term_of a)
    → IsTrue (has_fragment_form a) → (b : Bool) × (value v (term_of a) ≡ Some (boolean b))

-- each atom by itself is a list of the fragment
abbrev pub AreEachInFragment : List PureAtom → Type 0
AreEachInFragment atoms = (i : ℕ) (a : PureAtom) → slice_get atoms i ≡ Some a → InFragment (a ∷ [])

-- A list is in the fragment exactly where each atom by itself is, and fewer than 2^40 variables are named.
abbrev pub FragmentAtomByAtom : Type 0
FragmentAtomByAtom = (atoms : List PureAtom) → InFragment atoms ↔ (AreEachInFragment atoms × (variable_count atoms < 2 ^ 40))

-- ---- folding

-- What folding gives may stand in the place of the operator's term.
pub record FoldingReplaces : Type 0 where
  pub of_one : (op : UnOp) (t : PureTerm) → Replaces (unary_of op t) (folded_unary op t)
  pub of_two : (op : BinOp) (s t : PureTerm) → Replaces (binary_of op s t) (folded_binary op s t)
