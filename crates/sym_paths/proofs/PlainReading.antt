-- An expression with program variables for its logical ones has the same literals, and the same cases.
use Rattle.std.proofs.Common.{◌≡◌, List, [], ◌∷◌, ◌++◌, Bool, ◌&&◌, refl, sym, ap, ◌∙◌}
use Rattle.std.specs.List.{list_all, flat_map}
use Rattle.std.proofs.lemmas.Grind.{flat_map-append}
use Rattle.gil_syntax.specs.Pure.{PureExpr, literal, name, logical, list_of, unary_of, binary_of, PureExprs, no_exprs, expr_and, from_list}
use Rattle.gil_syntax.specs.Subexpressions.{subexpressions, subexpressions_of_all, own_literals, literals_of}
use Rattle.pure_terms.specs.Folding.{folded_unary, folded_binary}
use Rattle.pure_terms.specs.Pure.{PureAtom, list_of as list_term, from_list as terms_from}
use Rattle.sym_evaluation.specs.Checks.{unary_required, binary_required}
use Rattle.sym_evaluation.specs.Evaluating.{result_given, finished, followed, at_stage, cases_after, all_cases_after}
use Rattle.sym_evaluation.specs.Pure.{PureStore, PureFaultCase}
use Rattle.sym_paths.specs.Plain.{as_program, all_as_program}

mutual
  same_literals : (e : PureExpr) → flat_map own_literals (subexpressions (as_program e)) ≡ flat_map own_literals (subexpressions e)
  same_literals (literal v) = refl
  same_literals (name x) = refl
  same_literals (logical x) = refl
  same_literals (list_of es) = same_all es
  same_literals (unary_of op e) = same_literals e
  same_literals (binary_of op d e) =
      flat_map-append own_literals (subexpressions (as_program d)) (subexpressions (as_program e)) ∙ (λ i. same_literals d i ++ same_literals e i)
      ∙ sym (flat_map-append own_literals (subexpressions d) (subexpressions e))

  same_all : (es : PureExprs) → flat_map own_literals (subexpressions_of_all (all_as_program es)) ≡ flat_map own_literals (subexpressions_of_all es)
  same_all no_exprs = refl
  same_all (expr_and e es) =
      flat_map-append own_literals (subexpressions (as_program e)) (subexpressions_of_all (all_as_program es)) ∙ (λ i. same_literals e i ++ same_all es i)
      ∙ sym (flat_map-append own_literals (subexpressions e) (subexpressions_of_all es))

pub literals_stay : (e : PureExpr) → literals_of (as_program e) ≡ literals_of e
literals_stay e = same_literals e

mutual
  pub cases_stay : (bs : PureStore) (fs : List PureFaultCase) (cs : List PureAtom) (e : PureExpr) → cases_after bs fs cs (as_program e) ≡ cases_after bs fs cs e
  cases_stay bs fs cs (literal v) = refl
  cases_stay bs fs cs (name x) = refl
  cases_stay bs fs cs (logical x) = refl
  cases_stay bs fs cs (list_of es) = ap (λ cases. followed cases (λ gs ds ts. result_given gs ds (list_term (terms_from ts)))) (all_stay bs fs cs es)
  cases_stay bs fs cs (unary_of op e) = ap (λ cases. followed cases (λ gs ds t. finished (unary_required op t (at_stage gs ds)) (folded_unary op t))) (cases_stay bs fs cs e)
  cases_stay bs fs cs (binary_of op d e) =
      (λ i. followed (cases_stay bs fs cs d i) (λ gs ds s. followed (cases_stay bs gs ds e i) (λ hs es t. finished (binary_required op s t (at_stage hs es)) (folded_binary op s t))))

  pub all_stay : (bs : PureStore) (fs : List PureFaultCase) (cs : List PureAtom) (es : PureExprs) → all_cases_after bs fs cs (all_as_program es) ≡ all_cases_after bs fs cs es
  all_stay bs fs cs no_exprs = refl
  all_stay bs fs cs (expr_and e es) =
      (λ i. followed (cases_stay bs fs cs e i) (λ gs ds t. followed (all_stay bs gs ds es i) (λ hs cs' ts. result_given hs cs' (t ∷ ts))))

-- ---- lists

abbrev pub listed : List PureExpr → List PureExpr
listed [] = []
listed (e ∷ es) = as_program e ∷ listed es

pub listed_stay : (es : List PureExpr) → from_list (listed es) ≡ all_as_program (from_list es)
listed_stay [] = refl
listed_stay (e ∷ es) = ap (expr_and (as_program e)) (listed_stay es)

-- what holds of each expression, read so
pub each_read : (f g : PureExpr → Bool) → ((e : PureExpr) → g (as_program e) ≡ f e) → (es : List PureExpr) → list_all g (listed es) ≡ list_all f es
each_read f g same [] = refl
each_read f g same (e ∷ es) = λ i. same e i && each_read f g same es i
