use Rattle.std.proofs.Common.{◌≡◌, ◌++◌, IfNone, IfOk, IfSome, None, Some, sym, ap, subst, ◌∙◌}
use Rattle.std.specs.Option.{option_map}
use Rattle.checked_runs.specs.Specifications.{result_name}
use Rattle.pure_terms.specs.Meaning.{IsOver, IsUnsatisfiable}
use Rattle.pure_terms.specs.Pure.{term_of}
use Rattle.pure_terms.specs.View.{atoms_view, term_view}
use Rattle.sym_model.specs.Alternatives.{other}
use Rattle.sym_evaluation.specs.Pure.{term_at}
use Rattle.sym_evaluation.specs.View.{store_view}
use Rattle.sym_matching.proofs.TestLaws.{equal_over}
use Rattle.sym_matching.specs.Meaning.{IsCondition, AreConditions}
use Rattle.sym_model.proofs.ListLaws.{each_to}
use Rattle.sym_model.specs.Lists.{Each, OneOf}
use Rattle.checked_rows.specs.Doubts.{IsToldThere}
use Rattle.checked_rows.specs.Ending.{HasNoOther, DoubtsAResult}
use Rattle.checked_rows.specs.View.{doubt_view}
use Rattle.checked_rows.proofs.ending.other_result.Goals as goal

pub alternative_there-requires-clause-alternatives : goal.alternative_there-requires-clause-alternatives
alternative_there-requires-clause-alternatives g c =
    let vars = c.args.vars.now in
    let r = term_view c.in-Some.known.now in
    let t = term_view c.args.term.now in
    let named : option_map (λ q. term_view q.now) c.get.result ≡ term_at (store_view c.args.names.now) result_name =
    subst (λ x. option_map (λ q. term_view q.now) c.get.result ≡ term_at (store_view c.args.names.now) x) c.in_ok-name.ensures c.get.ensures in
    let known : term_at (store_view c.args.names.now) result_name ≡ Some r = sym named ∙ ap (option_map (λ q. term_view q.now)) c.in-Some.is in
    subst (Each (Each (λ a. IsOver vars (term_of a)))) (sym c.in_ok-others-in-Some.ensures)
    (each_to (AreConditions vars) (Each (λ a. IsOver vars (term_of a))) (other r t)
    (λ conds are. each_to (IsCondition vars) (λ a. IsOver vars (term_of a)) conds (λ a is. is.0) are) (equal_over vars r t (c.requires.names result_name r known) c.requires.term).otherwise)

pub returns-in-Some-clause-none : goal.returns-in-Some-clause-none
returns-in-Some-clause-none g c =
    let vars = c.args.vars.now in
    let conds = atoms_view c.args.conds.now in
    let r = term_view c.in-Some.known.now in
    let t = term_view c.args.term.now in
    let named : option_map (λ q. term_view q.now) c.get.result ≡ term_at (store_view c.args.names.now) result_name =
    subst (λ x. option_map (λ q. term_view q.now) c.get.result ≡ term_at (store_view c.args.names.now) x) c.in_ok-name.ensures c.get.ensures in
    let known : term_at (store_view c.args.names.now) result_name ≡ Some r = sym named ∙ ap (option_map (λ q. term_view q.now)) c.in-Some.is in
    subst (λ h. IfOk c.alternative_there.result (λ o. IfNone o (HasNoOther vars conds t h))) (sym known)
    (subst (λ alts. IfOk c.alternative_there.result (λ o. IfNone o (Each (λ more. IsUnsatisfiable vars (conds ++ more)) alts))) c.in_ok-others-in-Some.ensures c.alternative_there.ensures.none)

pub returns-in-Some-clause-doubt : goal.returns-in-Some-clause-doubt
returns-in-Some-clause-doubt g c =
    let vars = c.args.vars.now in
    let conds = atoms_view c.args.conds.now in
    let r = term_view c.in-Some.known.now in
    let t = term_view c.args.term.now in
    let named : option_map (λ q. term_view q.now) c.get.result ≡ term_at (store_view c.args.names.now) result_name =
    subst (λ x. option_map (λ q. term_view q.now) c.get.result ≡ term_at (store_view c.args.names.now) x) c.in_ok-name.ensures c.get.ensures in
    let known : term_at (store_view c.args.names.now) result_name ≡ Some r = sym named ∙ ap (option_map (λ q. term_view q.now)) c.in-Some.is in
    subst (λ h. IfOk c.alternative_there.result (λ o. IfSome o (λ d. DoubtsAResult vars conds t h (doubt_view d)))) (sym known)
    (subst (λ alts. IfOk c.alternative_there.result (λ o. IfSome o (λ d. OneOf (λ more. IsToldThere vars conds more (doubt_view d)) alts))) c.in_ok-others-in-Some.ensures c.alternative_there.ensures.doubt)

pub returns-clause-none : goal.returns-clause-none
returns-clause-none g c =
    let named : option_map (λ q. term_view q.now) c.get.result ≡ term_at (store_view c.args.names.now) result_name =
    subst (λ x. option_map (λ q. term_view q.now) c.get.result ≡ term_at (store_view c.args.names.now) x) c.in_ok-name.ensures c.get.ensures in
    let none : term_at (store_view c.args.names.now) result_name ≡ None = sym named ∙ ap (option_map (λ q. term_view q.now)) c.in-None.is in
    subst (HasNoOther c.args.vars.now (atoms_view c.args.conds.now) (term_view c.args.term.now)) (sym none) tt
