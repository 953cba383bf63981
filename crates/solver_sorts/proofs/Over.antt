-- Terms over a sorted table.
use Rattle.std.proofs.Common.{◌≡◌, ⊎_elim, ℕ, zero, suc, ◌<◌, List, [], ◌∷◌, ◌++◌, length, Option, Some, None, slice_get, refl, sym, ap, ◌∙◌, subst, arith}
use Rattle.std.specs.List.{Contains}
use Rattle.std.proofs.lemmas.List.Elements.{Contains-append_cases, Contains-push_cases}
use Rattle.std.proofs.lemmas.Option.{same_Some, slice_get_within}
use Rattle.gil_values.specs.declared.kinds.Kind.{Kind}
use Rattle.gil_values.specs.declared.operators.UnOp.{UnOp}
use Rattle.pure_terms.specs.declared.variables.Sort.{Sort}
use Rattle.pure_terms.specs.declared.variables.Var.{Var}
use Rattle.pure_terms.specs.Kinds.{kind_of_sort}
use Rattle.pure_terms.specs.Meaning.{AreVariablesOf, IsOver, AreOver}
use Rattle.pure_terms.specs.Pure.{PureTerm, literal, variable, list_of, unary_of, binary_of, PureTerms, no_terms, term_and, PureAtom, positive, negative, opening, term_of, variables, variables_of_all, variables_of_atoms}
use Rattle.pure_terms.proofs.KindLaws.{over_left, over_right, over_variable}
use Rattle.solver_sorts.specs.Sorting.{sort_or, sorted_variable, told_kind, sorted_unary, sorted_term, sorted_terms, sorted_atom, sorted_atoms}

nothing : (x : Var) → Contains {X = Var} [] x → ⊥
nothing x (k, below, is) = omega (arith, below)

pub over_none : (vars : List Sort) → AreVariablesOf vars []
over_none vars x has = absurd (nothing x has)

pub over_two : (vars : List Sort) (xs ys : List Var) → AreVariablesOf vars xs → AreVariablesOf vars ys → AreVariablesOf vars (xs ++ ys)
over_two vars xs ys left right x has = ⊎_elim (λ here. left x here) (λ there. right x there) (Contains-append_cases xs ys x has)

over_one : (vars : List Sort) (x : Var) → slice_get vars x.number ≡ Some x.sort → IsOver vars (variable x)
over_one vars x at y has =
    ⊎_elim (λ none. absurd (nothing y none)) (λ same. subst (λ (z : Var). slice_get vars z.number ≡ Some z.sort) same at) (Contains-push_cases [] x y has)

pub over_at : (vars : List Sort) (atoms : List PureAtom) (i : ℕ) (a : PureAtom) → AreOver vars atoms → slice_get atoms i ≡ Some a → IsOver vars (term_of a)
over_at vars [] i a over at = cc
over_at vars (b ∷ atoms) zero a over at = subst (λ c. IsOver vars (term_of c)) (same_Some b a at) (over_left vars (variables (term_of b)) (variables_of_atoms atoms) over)
over_at vars (b ∷ atoms) (suc i) a over at = over_at vars atoms i a (over_right vars (variables (term_of b)) (variables_of_atoms atoms) over) at

-- what stands at a place of a longer list
pub at_place : {X : Type 0} (xs : List X) (i : ℕ) → i < length xs → (x : X) × (slice_get xs i ≡ Some x)
at_place [] i below = absurd (omega (arith, below))
at_place (y ∷ ys) zero below = (y, refl)
at_place (y ∷ ys) (suc i) below = at_place ys i (omega (arith, below))

told_over : (sorted : List Sort) (k : Option Kind) (t : PureTerm) → IsOver sorted t → IsOver sorted (told_kind k t)
told_over sorted (Some k) t over = over_none sorted
told_over sorted None t over = over

unary_over : (sorted : List Sort) (op : UnOp) (t : PureTerm) → IsOver sorted t → IsOver sorted (sorted_unary op t)
unary_over sorted UnOp.Kind (variable x) over = told_over sorted (kind_of_sort x.sort) (variable x) over
unary_over sorted UnOp.Kind (literal l) over = over
unary_over sorted UnOp.Kind (list_of ts) over = over
unary_over sorted UnOp.Kind (unary_of op t) over = over
unary_over sorted UnOp.Kind (binary_of op s t) over = over
unary_over sorted UnOp.Not t over = over
unary_over sorted UnOp.Neg t over = over
unary_over sorted UnOp.Len t over = over

module _ (vars sorted : List Sort) (one_each : length sorted ≡ length vars) where
  variable_over : (x : Var) → slice_get vars x.number ≡ Some x.sort → slice_get sorted x.number ≡ Some (sort_or (slice_get sorted x.number) x.sort)
  variable_over x at =
      let within : x.number < length vars = slice_get_within vars x.number x.sort at in
      let found = at_place sorted x.number (omega (arith, within, one_each)) in
      found.1 ∙ ap (λ (o : Option Sort). Some (sort_or o x.sort)) (sym found.1)

  mutual
    pub term_over : (t : PureTerm) → IsOver vars t → IsOver sorted (sorted_term sorted t)
    term_over (literal l) over = over_none sorted
    term_over (variable x) over = over_one sorted (sorted_variable sorted x) (variable_over x (over_variable vars x over))
    term_over (list_of ts) over = terms_over ts over
    term_over (unary_of op t) over = unary_over sorted op (sorted_term sorted t) (term_over t over)
    term_over (binary_of op s t) over =
        over_two sorted (variables (sorted_term sorted s)) (variables (sorted_term sorted t))
        (term_over s (over_left vars (variables s) (variables t) over)) (term_over t (over_right vars (variables s) (variables t) over))

    terms_over : (ts : PureTerms) → AreVariablesOf vars (variables_of_all ts) → AreVariablesOf sorted (variables_of_all (sorted_terms sorted ts))
    terms_over no_terms over = over_none sorted
    terms_over (term_and t ts) over =
        over_two sorted (variables (sorted_term sorted t)) (variables_of_all (sorted_terms sorted ts))
        (term_over t (over_left vars (variables t) (variables_of_all ts) over)) (terms_over ts (over_right vars (variables t) (variables_of_all ts) over))

  atom_over : (a : PureAtom) → IsOver vars (term_of a) → IsOver sorted (term_of (sorted_atom sorted a))
  atom_over (positive t) over = term_over t over
  atom_over (negative t) over = term_over t over
  atom_over (opening t) over = term_over t over

  pub atoms_over : (list : List PureAtom) → AreOver vars list → AreOver sorted (sorted_atoms sorted list)
  atoms_over [] over = over_none sorted
  atoms_over (a ∷ list) over =
      over_two sorted (variables (term_of (sorted_atom sorted a))) (variables_of_atoms (sorted_atoms sorted list))
      (atom_over a (over_left vars (variables (term_of a)) (variables_of_atoms list) over)) (atoms_over list (over_right vars (variables (term_of a)) (variables_of_atoms list) over))
