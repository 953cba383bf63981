-- Equality of terms is equality of their pure data.
use Rattle.std.proofs.Common.{◌≡◌, true, ◌&&◌, eqb, refl, sym, ◌∙◌, ap}
use Rattle.std.proofs.lemmas.Bool.{and_from, and_parts, false≢true}
use Rattle.std.proofs.lemmas.Bool.Decides.{Decides-eqb}
use Rattle.std.specs.Bool.{Decides}
use Rattle.std.specs.Cmp.{IsEquivalence, decided}
use Rattle.gil_values.specs.declared.operators.UnOp.{UnOp}
use Rattle.gil_values.specs.declared.operators.BinOp.{BinOp}
use Rattle.gil_values.specs.EqualityLaws.{same_value-refl, same_value-same}
use Rattle.pure_terms.specs.declared.literals.Literal.{Literal}
use Rattle.pure_terms.specs.declared.variables.Sort.{Sort}
use Rattle.pure_terms.specs.declared.variables.Var.{Var}
use Rattle.pure_terms.specs.Equality.{unary_number, binary_number, same_unary, same_binary, same_literal, same_variable, same_term, same_terms}
use Rattle.pure_terms.specs.Kinds.{sort_number, same_sort}
use Rattle.pure_terms.specs.Meaning.{literal_value}
use Rattle.pure_terms.specs.Pure.{PureTerm, literal, variable, list_of, unary_of, binary_of, PureTerms, no_terms, term_and}

pub same_sorts : (s t : Sort) → same_sort s t ≡ true → s ≡ t
same_sorts Sort.Int Sort.Int h = refl
same_sorts Sort.Bool Sort.Bool h = refl
same_sorts Sort.Str Sort.Str h = refl
same_sorts Sort.Sym Sort.Sym h = refl
same_sorts Sort.Fresh Sort.Fresh h = refl
same_sorts Sort.List Sort.List h = refl
same_sorts Sort.Any Sort.Any h = refl
same_sorts s t h = absurd (false≢true h)

pub same_sort-refl : (s : Sort) → same_sort s s ≡ true
same_sort-refl s = (Decides-eqb (sort_number s) (sort_number s)).1 refl

same_unaries : (op other : UnOp) → same_unary op other ≡ true → op ≡ other
same_unaries UnOp.Not UnOp.Not h = refl
same_unaries UnOp.Neg UnOp.Neg h = refl
same_unaries UnOp.Len UnOp.Len h = refl
same_unaries UnOp.Kind UnOp.Kind h = refl
same_unaries op other h = absurd (false≢true h)

same_binaries : (op other : BinOp) → same_binary op other ≡ true → op ≡ other
same_binaries BinOp.Add BinOp.Add h = refl
same_binaries BinOp.Subtract BinOp.Subtract h = refl
same_binaries BinOp.Multiply BinOp.Multiply h = refl
same_binaries BinOp.Divide BinOp.Divide h = refl
same_binaries BinOp.Remainder BinOp.Remainder h = refl
same_binaries BinOp.Equal BinOp.Equal h = refl
same_binaries BinOp.Less BinOp.Less h = refl
same_binaries BinOp.LessOrEqual BinOp.LessOrEqual h = refl
same_binaries BinOp.And BinOp.And h = refl
same_binaries BinOp.Or BinOp.Or h = refl
same_binaries BinOp.Append BinOp.Append h = refl
same_binaries BinOp.Nth BinOp.Nth h = refl
same_binaries op other h = absurd (false≢true h)

same_values_of_literals : (k l : Literal) → literal_value k ≡ literal_value l → k ≡ l
same_values_of_literals (Literal.Int m) (Literal.Int n) e = cc
same_values_of_literals (Literal.Bool a) (Literal.Bool b) e = cc
same_values_of_literals (Literal.Str s) (Literal.Str t) e = cc
same_values_of_literals (Literal.Kind k) (Literal.Kind l) e = cc
same_values_of_literals (Literal.Proc f) (Literal.Proc g) e = cc
same_values_of_literals k l e = cc

pub same_literal-same : (k l : Literal) → same_literal k l ≡ true → k ≡ l
same_literal-same k l h = same_values_of_literals k l (same_value-same (literal_value k) (literal_value l) h)

pub same_literal-refl : (l : Literal) → same_literal l l ≡ true
same_literal-refl l = same_value-refl (literal_value l)

pub same_literal-equivalence : IsEquivalence same_literal
same_literal-equivalence = decided same_literal (λ k l. (same_literal-same k l, λ e. ap (same_literal k) (sym e) ∙ same_literal-refl k))

pub same_variable-same : (x y : Var) → same_variable x y ≡ true → x ≡ y
same_variable-same x y h =
    let parts = and_parts (eqb x.number y.number) (same_sort x.sort y.sort) h in
    let numbers = (Decides-eqb x.number y.number).0 parts.0 in
    let sorts = same_sorts x.sort y.sort parts.1 in
    λ i. record { number = numbers i; sort = sorts i }

pub same_variable-refl : (x : Var) → same_variable x x ≡ true
same_variable-refl x =
    and_from (eqb x.number x.number) (same_sort x.sort x.sort) ((Decides-eqb x.number x.number).1 refl) (same_sort-refl x.sort)

mutual
  pub same_term-refl : (t : PureTerm) → same_term t t ≡ true
  same_term-refl (literal l) = same_literal-refl l
  same_term-refl (variable x) = same_variable-refl x
  same_term-refl (list_of ts) = same_terms-refl ts
  same_term-refl (unary_of op t) = and_from _ _ ((Decides-eqb (unary_number op) (unary_number op)).1 refl) (same_term-refl t)
  same_term-refl (binary_of op s t) =
      and_from _ _ ((Decides-eqb (binary_number op) (binary_number op)).1 refl) (and_from _ _ (same_term-refl s) (same_term-refl t))

  pub same_terms-refl : (ts : PureTerms) → same_terms ts ts ≡ true
  same_terms-refl no_terms = refl
  same_terms-refl (term_and t ts) = and_from _ _ (same_term-refl t) (same_terms-refl ts)

mutual
  pub same_term-same : (s t : PureTerm) → same_term s t ≡ true → s ≡ t
  same_term-same (literal k) (literal l) h = ap literal (same_literal-same k l h)
  same_term-same (variable x) (variable y) h = ap variable (same_variable-same x y h)
  same_term-same (list_of ts) (list_of us) h = ap list_of (same_terms-same ts us h)
  same_term-same (unary_of op s) (unary_of other t) h =
      let parts = and_parts (same_unary op other) (same_term s t) h in
      let ops = same_unaries op other parts.0 in
      let operands = same_term-same s t parts.1 in
      λ i. unary_of (ops i) (operands i)
  same_term-same (binary_of op s t) (binary_of other u w) h =
      let parts = and_parts (same_binary op other) (same_term s u && same_term t w) h in
      let sides = and_parts (same_term s u) (same_term t w) parts.1 in
      let ops = same_binaries op other parts.0 in
      let left = same_term-same s u sides.0 in
      let right = same_term-same t w sides.1 in
      λ i. binary_of (ops i) (left i) (right i)
  same_term-same s t h = absurd (false≢true h)

  pub same_terms-same : (ts us : PureTerms) → same_terms ts us ≡ true → ts ≡ us
  same_terms-same no_terms no_terms h = refl
  same_terms-same (term_and t ts) (term_and u us) h =
      let parts = and_parts (same_term t u) (same_terms ts us) h in
      let first = same_term-same t u parts.0 in
      let rest = same_terms-same ts us parts.1 in
      λ i. term_and (first i) (rest i)
  same_terms-same ts us h = absurd (false≢true h)

pub same_term-Decides : (s t : PureTerm) → Decides (same_term s t) (s ≡ t)
same_term-Decides s t = (same_term-same s t, λ e. ap (same_term s) (sym e) ∙ same_term-refl s)

pub same_term-equivalence : IsEquivalence same_term
same_term-equivalence = decided same_term same_term-Decides
