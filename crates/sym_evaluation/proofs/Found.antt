-- What the code found is right.
use Rattle.std.proofs.Common.{◌≡◌, List, [], Result, Ok, Err, IfOk, sym, subst, ◌∙◌}
use Rattle.gil_syntax.specs.Pure.{PureExpr, from_list as exprs_from}
use Rattle.pure_terms.specs.declared.terms.Term.{Term}
use Rattle.pure_terms.specs.declared.terms.Terms.{Terms}
use Rattle.pure_terms.specs.Pure.{PureTerm, PureAtom}
use Rattle.sym_evaluation.specs.declared.cases.Cases.{Cases}
use Rattle.sym_evaluation.specs.declared.guards.Sides.{Sides}
use Rattle.sym_evaluation.specs.Evaluating.{cases_after, all_cases_after}
use Rattle.sym_evaluation.specs.Pure.{PureStore, PureFaultCase, PureCases, PureSides}
use Rattle.sym_evaluation.specs.Sides.{sides_of}
use Rattle.sym_evaluation.specs.View.{cases_view, all_cases_view, sides_view}

-- what holds of the cases from nothing holds of those that were found
pub found_cases : {E : Type 0} (R : PureCases PureTerm → Type 0) (r : Result (Cases Term) E) (bs : PureStore) (fs : List PureFaultCase) (cs : List PureAtom) (e : PureExpr) → fs ≡ [] → cs ≡ [] → R (cases_after bs [] [] e) → IfOk r (λ c. cases_view c ≡ cases_after bs fs cs e) → IfOk r (λ c. R (cases_view c))
found_cases R (Ok c) bs fs cs e no_faults no_conds right is = subst R (sym (is ∙ (λ i. cases_after bs (no_faults i) (no_conds i) e))) right
found_cases R (Err f) bs fs cs e no_faults no_conds right is = tt

pub found_all_cases : {E : Type 0} (R : PureCases (List PureTerm) → Type 0) (r : Result (Cases Terms) E) (bs : PureStore) (fs : List PureFaultCase) (cs : List PureAtom) (es : List PureExpr) → fs ≡ [] → cs ≡ [] → R (all_cases_after bs [] [] (exprs_from es)) → IfOk r (λ c. all_cases_view c ≡ all_cases_after bs fs cs (exprs_from es)) → IfOk r (λ c. R (all_cases_view c))
found_all_cases R (Ok c) bs fs cs es no_faults no_conds right is = subst R (sym (is ∙ (λ i. all_cases_after bs (no_faults i) (no_conds i) (exprs_from es)))) right
found_all_cases R (Err f) bs fs cs es no_faults no_conds right is = tt

pub found_sides : {E : Type 0} (R : PureSides → Type 0) (r : Result Sides E) (t : PureTerm) → R (sides_of t) → IfOk r (λ s. sides_view s ≡ sides_of t) → IfOk r (λ s. R (sides_view s))
found_sides R (Ok s) t right is = subst R (sym is) right
found_sides R (Err f) t right is = tt
