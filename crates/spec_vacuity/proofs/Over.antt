-- The atoms of a precondition name variables of its table alone.
use Rattle.std.proofs.Common.{◌≡◌, ℕ, ◌+◌, List, [], ◌∷◌, ◌++◌, true, slice_get, Option, Some, None, refl, sym, ap, subst, ◌∙◌, arith}
use Rattle.std.specs.List.{list_all}
use Rattle.std.specs.Option.{option_to_list}
use Rattle.std.proofs.lemmas.Bool.{and_from}
use Rattle.std.proofs.lemmas.List.Folds.{list_all-append}
use Rattle.gil_values.proofs.OperatorSymbols.{none_contained}
use Rattle.gil_lexemes.proofs.ReadingLaws.{bind_some}
use Rattle.gil_syntax.specs.declared.assertions.Param.{Param}
use Rattle.gil_syntax.specs.Pure.{PureExpr, PureExprs, no_exprs, expr_and, PureItem, pure, uses}
use Rattle.gil_syntax.specs.Pure as expr
use Rattle.pure_terms.proofs.NamingLaws.{names_only-over}
use Rattle.pure_terms.specs.declared.variables.Sort.{Sort}
use Rattle.pure_terms.specs.declared.variables.Var.{Var}
use Rattle.pure_terms.specs.EqualityLaws.{same_sort-refl}
use Rattle.pure_terms.specs.Meaning.{IsOver, AreOver}
use Rattle.pure_terms.specs.Naming.{is_of_sort, is_in_table, names_only}
use Rattle.pure_terms.specs.Pure.{PureTerm, variable, list_of, unary_of, binary_of, PureTerms, no_terms, term_and, PureAtom, positive, negative, variables, variables_of_all}
use Rattle.pure_terms.specs.Pure.{term_of as term_of_atom}
use Rattle.solver_proof.proofs.Truths.{over_more, over_one}
use Rattle.spec_vacuity.specs.Translation.{table_of, variable_from, named_term, term_of, terms_of, denied, said_by, atom_of, atoms_of}
use Rattle.spec_vacuity.proofs.Truths.{literal_made}
use Rattle.spec_vacuity.proofs.Valuations.{in_table_from}

same_some : {A : Type 0} (x y : A) → Some x ≡ Some y → x ≡ y
same_some x y e = cc

over_both : (vars : List Sort) (xs ys : List Var) → list_all (is_in_table vars) xs ≡ true → list_all (is_in_table vars) ys ≡ true
    → list_all (is_in_table vars) (xs ++ ys) ≡ true
over_both vars xs ys left right =
    list_all-append (is_in_table vars) xs ys ∙ and_from (list_all (is_in_table vars) xs) (list_all (is_in_table vars) ys) left right

module _ (qs : List Param) where
  name_over : (x : List ℕ) (t : PureTerm) → named_term (variable_from 0 qs) x ≡ Some t → names_only (table_of qs) t ≡ true
  name_over x t is =
      let y = bind_some (variable_from 0 qs x) _ t is in
      let (k, (number, at)) = in_table_from 0 qs x y.0 y.1 in
      let number_is : y.0.number ≡ 0 + k = number in
      let same : y.0.number ≡ k = omega (arith, number_is) in
      let sorted : slice_get (table_of qs) y.0.number ≡ Some y.0.sort = ap (slice_get (table_of qs)) same ∙ at in
      subst (λ (u : PureTerm). names_only (table_of qs) u ≡ true) (same_some (variable y.0) t y.2)
      (and_from (is_in_table (table_of qs) y.0) true (ap (λ o. is_of_sort o y.0.sort) sorted ∙ same_sort-refl y.0.sort) refl)

  mutual
    made_over : (e : PureExpr) (t : PureTerm) → term_of (variable_from 0 qs) e ≡ Some t → names_only (table_of qs) t ≡ true
    made_over (expr.literal v) t is = let l = literal_made v t is in rw l.1 refl
    made_over (expr.name x) t is = name_over x t is
    made_over (expr.logical x) t is = name_over x t is
    made_over (expr.list_of es) t is =
        let ts = bind_some (terms_of (variable_from 0 qs) es) _ t is in
        let same : list_of ts.0 ≡ t = same_some _ t ts.2 in
        rw (sym same) (all_made_over es ts.0 ts.1)
    made_over (expr.unary_of op e) t is =
        let s = bind_some (term_of (variable_from 0 qs) e) _ t is in
        let same : unary_of op s.0 ≡ t = same_some _ t s.2 in
        rw (sym same) (made_over e s.0 s.1)
    made_over (expr.binary_of op d e) t is =
        let s = bind_some (term_of (variable_from 0 qs) d) _ t is in
        let u = bind_some (term_of (variable_from 0 qs) e) _ t s.2 in
        let same : binary_of op s.0 u.0 ≡ t = same_some _ t u.2 in
        rw (sym same) (over_both (table_of qs) (variables s.0) (variables u.0) (made_over d s.0 s.1) (made_over e u.0 u.1))

    all_made_over : (es : PureExprs) (ts : PureTerms) → terms_of (variable_from 0 qs) es ≡ Some ts → list_all (is_in_table (table_of qs)) (variables_of_all ts) ≡ true
    all_made_over no_exprs ts is = let same : no_terms ≡ ts = same_some _ ts is in rw (sym same) refl
    all_made_over (expr_and e es) ts is =
        let s = bind_some (term_of (variable_from 0 qs) e) _ ts is in
        let us = bind_some (terms_of (variable_from 0 qs) es) _ ts s.2 in
        let same : term_and s.0 us.0 ≡ ts = same_some _ ts us.2 in
        rw (sym same) (over_both (table_of qs) (variables s.0) (variables_of_all us.0) (made_over e s.0 s.1) (all_made_over es us.0 us.1))

  term_over : (e : PureExpr) (t : PureTerm) → term_of (variable_from 0 qs) e ≡ Some t → IsOver (table_of qs) t
  term_over e t is = (names_only-over (table_of qs) t).0 (made_over e t is)

  said_over : (e : PureExpr) (o : Option PureExpr) (a : PureAtom) → said_by (variable_from 0 qs) e o ≡ Some a → IsOver (table_of qs) (term_of_atom a)
  said_over e (Some d) a is =
      let t = bind_some (term_of (variable_from 0 qs) d) _ a is in
      subst (λ (b : PureAtom). IsOver (table_of qs) (term_of_atom b)) (same_some (negative t.0) a t.2) (term_over d t.0 t.1)
  said_over e None a is =
      let t = bind_some (term_of (variable_from 0 qs) e) _ a is in
      subst (λ (b : PureAtom). IsOver (table_of qs) (term_of_atom b)) (same_some (positive t.0) a t.2) (term_over e t.0 t.1)

  none_over : AreOver (table_of qs) []
  none_over x has = absurd (none_contained x has)

  listed_over : (o : Option PureAtom) → ((a : PureAtom) → o ≡ Some a → IsOver (table_of qs) (term_of_atom a)) → AreOver (table_of qs) (option_to_list o)
  listed_over (Some a) each = over_one (table_of qs) a (each a refl)
  listed_over None each = none_over

  pub items_over : (items : List PureItem) → AreOver (table_of qs) (atoms_of (variable_from 0 qs) items)
  items_over [] = none_over
  items_over (pure e ∷ items) =
      over_more (table_of qs) (option_to_list (atom_of (variable_from 0 qs) e)) (atoms_of (variable_from 0 qs) items)
      (listed_over (atom_of (variable_from 0 qs) e) (λ a said. said_over e (denied e) a said)) (items_over items)
  items_over (uses u ∷ items) = items_over items
