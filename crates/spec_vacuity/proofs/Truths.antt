-- What terms and atoms of expressions are worth where their variables have the values of names.
use Rattle.std.proofs.Common.{◌≡◌, ℕ, List, [], ◌∷◌, true, false, Option, Some, None, Ok, Err, slice_get, refl, sym, ap, ◌∙◌}
use Rattle.std.specs.Option.{option_map, option_and_then, option_to_list}
use Rattle.std.specs.Result.{result_ok}
use Rattle.std.proofs.lemmas.Bool.{and_from}
use Rattle.std.proofs.lemmas.List.Folds.{list_all-append}
use Rattle.gil_values.specs.declared.operators.UnOp.TheVariants as ops
use Rattle.gil_values.specs.declared.operators.BinOp.{BinOp}
use Rattle.gil_values.specs.Operators.{Outcome, unary, binary}
use Rattle.gil_values.specs.Pure.{PureValue, integer, boolean, text, symbol, kind, procedure, list, from_list}
use Rattle.gil_lexemes.proofs.ReadingLaws.{bind_some}
use Rattle.gil_syntax.specs.Evaluation.{Store, value_of, set_or_fault, after_value, Outcomes, as_list, evaluate, evaluate_elements}
use Rattle.gil_syntax.specs.Evaluation.{both as both_outcomes}
use Rattle.gil_syntax.specs.Pure.{PureExpr, PureExprs, no_exprs, expr_and, PureItem, pure, uses}
use Rattle.gil_syntax.specs.Pure as expr
use Rattle.assert_logic.specs.Adding.{with_item, added}
use Rattle.assert_logic.specs.LogicStates.{LogicState}
use Rattle.pure_terms.specs.declared.literals.Literal.{Literal}
use Rattle.pure_terms.specs.declared.variables.Var.{Var}
use Rattle.pure_terms.specs.Meaning.{literal_value, both, value, values, is_that_boolean, truth, all_true}
use Rattle.pure_terms.specs.Pure.{PureTerm, literal, variable, list_of, unary_of, binary_of, PureTerms, no_terms, term_and, PureAtom, positive, negative}
use Rattle.spec_vacuity.specs.Translation.{literal_term, named_term, term_of, terms_of, denied, said_by, atom_of, atoms_of}
use Rattle.spec_vacuity.proofs.Named.{and_then_added, pure_true}

same_some : {A : Type 0} (x y : A) → Some x ≡ Some y → x ≡ y
same_some x y e = cc

-- the literal of a value
pub literal_made : (v : PureValue) (t : PureTerm) → literal_term v ≡ Some t → (l : Literal) × (t ≡ literal l) × (literal_value l ≡ v)
literal_made (integer n) t e = (Literal.Int n, sym (same_some (literal (Literal.Int n)) t e), refl)
literal_made (boolean b) t e = (Literal.Bool b, sym (same_some (literal (Literal.Bool b)) t e), refl)
literal_made (text cs) t e = (Literal.Str cs, sym (same_some (literal (Literal.Str cs)) t e), refl)
literal_made (symbol n) t e = absurd cc
literal_made (kind k) t e = (Literal.Kind k, sym (same_some (literal (Literal.Kind k)) t e), refl)
literal_made (procedure f) t e = (Literal.Proc f, sym (same_some (literal (Literal.Proc f)) t e), refl)
literal_made (list vs) t e = absurd cc

ok_of_set : (o : Option PureValue) → result_ok (set_or_fault o) ≡ o
ok_of_set (Some v) = refl
ok_of_set None = refl

ok_of_list : (os : Outcomes) → option_map (λ ws. list (from_list ws)) (result_ok os) ≡ result_ok (as_list os)
ok_of_list (Ok vs) = refl
ok_of_list (Err fault) = refl

ok_after : (o : Outcome) (f : PureValue → Outcome) → option_and_then (λ a. result_ok (f a)) (result_ok o) ≡ result_ok (after_value o f)
ok_after (Ok v) f = refl
ok_after (Err fault) f = refl

ok_both : (o : Outcome) (os : Outcomes) → both (result_ok o) (result_ok os) ≡ result_ok (both_outcomes o os)
ok_both (Ok v) (Ok vs) = refl
ok_both (Ok v) (Err fault) = refl
ok_both (Err fault) (Ok vs) = refl
ok_both (Err fault) (Err other) = refl

ok_pair : (op : BinOp) (o u : Outcome)
    → option_and_then (λ a. option_and_then (λ b. result_ok (binary op a b)) (result_ok u)) (result_ok o)
    ≡ result_ok (after_value o (λ a. after_value u (binary op a)))
ok_pair op (Ok v) u = ok_after u (binary op v)
ok_pair op (Err fault) u = refl

-- what `not` gives is the other one
denial : (o : Outcome) → after_value o (unary ops.Not) ≡ Ok (boolean true) → o ≡ Ok (boolean false)
denial (Ok (integer n)) is = absurd (cc)
denial (Ok (boolean true)) is = absurd (cc)
denial (Ok (boolean false)) is = refl
denial (Ok (text cs)) is = absurd (cc)
denial (Ok (symbol n)) is = absurd (cc)
denial (Ok (kind k)) is = absurd (cc)
denial (Ok (procedure f)) is = absurd (cc)
denial (Ok (list vs)) is = absurd (cc)
denial (Err fault) is = absurd (cc)

denied_not : (e d : PureExpr) → denied e ≡ Some d → e ≡ expr.unary_of ops.Not d
denied_not (expr.literal v) d is = absurd (cc)
denied_not (expr.name x) d is = absurd (cc)
denied_not (expr.logical x) d is = absurd (cc)
denied_not (expr.list_of es) d is = absurd (cc)
denied_not (expr.unary_of ops.Not e) d is = ap (expr.unary_of ops.Not) (same_some e d is)
denied_not (expr.unary_of ops.Neg e) d is = absurd (cc)
denied_not (expr.unary_of ops.Len e) d is = absurd (cc)
denied_not (expr.unary_of ops.Kind e) d is = absurd (cc)
denied_not (expr.binary_of op c e) d is = absurd (cc)

module _ (find : List ℕ → Option Var) (v : List PureValue) (s : Store) (gives : (x : List ℕ) (y : Var) → find x ≡ Some y → value_of s x ≡ slice_get v y.number) where
  name_value : (x : List ℕ) (t : PureTerm) → named_term find x ≡ Some t → value v t ≡ result_ok (set_or_fault (value_of s x))
  name_value x t is =
      let y = bind_some (find x) _ t is in
      ap (value v) (sym (same_some (variable y.0) t y.2)) ∙ sym (gives x y.0 y.1) ∙ sym (ok_of_set (value_of s x))

  mutual
    term_value : (e : PureExpr) (t : PureTerm) → term_of find e ≡ Some t → value v t ≡ result_ok (evaluate e s)
    term_value (expr.literal w) t is = let l = literal_made w t is in ap (value v) l.1 ∙ ap Some l.2
    term_value (expr.name x) t is = name_value x t is
    term_value (expr.logical x) t is = name_value x t is
    term_value (expr.list_of es) t is =
        let ts = bind_some (terms_of find es) _ t is in
        ap (value v) (sym (same_some (list_of ts.0) t ts.2))
        ∙ ap (option_map (λ ws. list (from_list ws))) (terms_value es ts.0 ts.1) ∙ ok_of_list (evaluate_elements es s)
    term_value (expr.unary_of op e) t is =
        let u = bind_some (term_of find e) _ t is in
        ap (value v) (sym (same_some (unary_of op u.0) t u.2))
        ∙ ap (option_and_then (λ a. result_ok (unary op a))) (term_value e u.0 u.1) ∙ ok_after (evaluate e s) (unary op)
    term_value (expr.binary_of op d e) t is =
        let l = bind_some (term_of find d) _ t is in
        let r = bind_some (term_of find e) _ t l.2 in
        ap (value v) (sym (same_some (binary_of op l.0 r.0) t r.2))
        ∙ ap (option_and_then (λ a. option_and_then (λ b. result_ok (binary op a b)) (value v r.0))) (term_value d l.0 l.1)
        ∙ ap (λ o. option_and_then (λ a. option_and_then (λ b. result_ok (binary op a b)) o) (result_ok (evaluate d s))) (term_value e r.0 r.1)
        ∙ ok_pair op (evaluate d s) (evaluate e s)

    terms_value : (es : PureExprs) (ts : PureTerms) → terms_of find es ≡ Some ts → values v ts ≡ result_ok (evaluate_elements es s)
    terms_value no_exprs ts is = ap (values v) (sym (same_some no_terms ts is))
    terms_value (expr_and e es) ts is =
        let u = bind_some (term_of find e) _ ts is in
        let us = bind_some (terms_of find es) _ ts u.2 in
        ap (values v) (sym (same_some (term_and u.0 us.0) ts us.2))
        ∙ ap (λ o. both o (values v us.0)) (term_value e u.0 u.1) ∙ ap (both (result_ok (evaluate e s))) (terms_value es us.0 us.1)
        ∙ ok_both (evaluate e s) (evaluate_elements es s)

  -- what an expression says is true where the expression is
  said_true : (e : PureExpr) (o : Option PureExpr) (a : PureAtom) → denied e ≡ o → evaluate e s ≡ Ok (boolean true) → said_by find e o ≡ Some a → truth v a ≡ true
  said_true e (Some d) a denies holds is =
      let t = bind_some (term_of find d) _ a is in
      let same : evaluate e s ≡ after_value (evaluate d s) (unary ops.Not) = ap (λ c. evaluate c s) (denied_not e d denies) in
      ap (truth v) (sym (same_some (negative t.0) a t.2))
      ∙ ap (is_that_boolean false) (term_value d t.0 t.1 ∙ ap result_ok (denial (evaluate d s) (sym same ∙ holds)))
  said_true e None a denies holds is =
      let t = bind_some (term_of find e) _ a is in
      ap (truth v) (sym (same_some (positive t.0) a t.2)) ∙ ap (is_that_boolean true) (term_value e t.0 t.1 ∙ ap result_ok holds)

  listed_true : (o : Option PureAtom) → ((a : PureAtom) → o ≡ Some a → truth v a ≡ true) → all_true v (option_to_list o) ≡ true
  listed_true (Some a) each = and_from (truth v a) true (each a refl) refl
  listed_true None each = refl

  -- where an assertion was added, its pure items are true
  pub added_true : (items : List PureItem) (l t : LogicState) → added s items l ≡ Some t → all_true v (atoms_of find items) ≡ true
  added_true [] l t is = refl
  added_true (pure e ∷ items) l t is =
      let (r, (first, later)) = and_then_added (with_item s (pure e) l) (added s items) t is in
      list_all-append (truth v) (option_to_list (atom_of find e)) (atoms_of find items)
      ∙ and_from (all_true v (option_to_list (atom_of find e))) (all_true v (atoms_of find items))
      (listed_true (atom_of find e) (λ a said. said_true e (denied e) a refl (pure_true e s l r first) said)) (added_true items r t later)
  added_true (uses u ∷ items) l t is =
      let (r, (first, later)) = and_then_added (with_item s (uses u) l) (added s items) t is in added_true items r t later
