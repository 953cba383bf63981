-- The pure data of expressions and cases.
use Rattle.std.proofs.Common.{◌≡◌, ℕ, zero, suc, ◌+◌, List, [], ◌∷◌, drop, Some, None, slice_get, sym, ap, ◌∙◌, add-one, rules}
use Rattle.gil_syntax.specs.declared.expressions.Expr
use Rattle.gil_syntax.specs.declared.expressions.Expr.{Expr, the_lemmas}
use Rattle.gil_syntax.specs.declared.expressions.Exprs.{Exprs}
use Rattle.gil_syntax.specs.Pure.{list_of, from_list}
use Rattle.gil_syntax.specs.View.{expr_view, exprs_view}
use Rattle.pure_terms.specs.declared.literals.Literal.{Literal}
use Rattle.pure_terms.specs.declared.terms.Term
use Rattle.pure_terms.specs.declared.terms.Term.{Term, the_lemmas as term_lemmas}
use Rattle.pure_terms.specs.declared.terms.Terms.{Terms}
use Rattle.pure_terms.specs.Pure as terms
use Rattle.pure_terms.specs.View.{term_view, terms_view, atoms_view}
use Rattle.std.specs.Option.{option_map}
use Rattle.sym_model.proofs.ListLaws.{same_some, not_none}
use Rattle.sym_evaluation.specs.declared.cases.Cases.{Cases}
use Rattle.sym_evaluation.specs.declared.cases.GoodCase.{GoodCase}
use Rattle.sym_evaluation.specs.Evaluating.{result_given}
use Rattle.sym_evaluation.specs.View.{faults_view, good_view, cases_view}

pub expr_view-List : (es : Exprs) → expr_view (Expr.List es) ≡ list_of (from_list (exprs_view es))
expr_view-List es = search (rules, the_lemmas)

pub term_view-Lit : (l : Literal) → term_view (Term.Lit l) ≡ terms.literal l
term_view-Lit l = search (rules, term_lemmas)

pub term_view-List : (ts : Terms) → term_view (Term.List ts) ≡ terms.list_of (terms.from_list (terms_view ts))
term_view-List ts = search (rules, term_lemmas)

-- cases with a result
pub good_cases : (c : Cases Term) (g : GoodCase Term) → c.good ≡ Some g → cases_view c ≡ result_given (faults_view c.faults) (atoms_view g.conds) (term_view g.result)
good_cases c g is = ap (λ good. record { faults = faults_view c.faults; good = option_map (good_view term_view) good }) is

-- cases with a sure fault
pub no_good : (c : Cases Term) → c.good ≡ None → cases_view c ≡ record { faults = faults_view c.faults; good = None }
no_good c is = ap (λ good. record { faults = faults_view c.faults; good = option_map (good_view term_view) good }) is

dropped : {X : Type 0} (xs : List X) (i : ℕ) (x : X) → slice_get xs i ≡ Some x → drop i xs ≡ x ∷ drop (suc i) xs
dropped [] i x is = not_none is
dropped (y ∷ xs) zero x is = ap (λ z. z ∷ xs) (same_some is)
dropped (y ∷ xs) (suc i) x is = dropped xs i x is

pub dropped_at : {X : Type 0} (xs : List X) (i : ℕ) (x : X) → slice_get xs i ≡ Some x → drop i xs ≡ x ∷ drop (i + 1) xs
dropped_at xs i x is = dropped xs i x is ∙ ap (λ n. x ∷ drop n xs) (sym (add-one i))
