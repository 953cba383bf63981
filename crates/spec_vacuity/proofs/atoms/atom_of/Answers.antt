use Rattle.std.proofs.Common.{◌≡◌, Option, Some, None, sym, ap, subst, ◌∙◌}
use Rattle.std.proofs.lemmas.Result.{err_from_is_err_and}
use Rattle.gil_lexemes.specs.Reading.{◌>>=◌}
use Rattle.gil_syntax.specs.Pure.{PureExpr}
use Rattle.gil_syntax.specs.View.{expr_view}
use Rattle.pure_terms.specs.Pure.{PureTerm, positive, negative}
use Rattle.spec_vacuity.specs.Translation.{Lacks, variable_from, term_of, denied, said_by, atom_of}
use Rattle.spec_vacuity.proofs.Lists.{bind_stops}
use Rattle.spec_vacuity.proofs.atoms.atom_of.Goals as goal

pub returns-in_err-term-in-Some : goal.returns-in_err-term-in-Some
returns-in_err-term-in-Some c =
    let p = err_from_is_err_and c.from_residual.result c.from_residual.ensures.1 in
    let find = variable_from 0 c.args.variables.now in
    let e = expr_view c.args.expression.now in
    let d = expr_view c.in-Some.operand.now in
    let stop = c.in_err-term-in-Some.field-0.0 in
    let denies : denied e ≡ Some d = sym c.in-Some.ensures in
    let lacks : Lacks stop (said_by find e (Some d)) =
    bind_stops stop (term_of find d) (λ (t : PureTerm). Some (negative t)) c.in_err-term-in-Some.ensures in
    let whole : Lacks stop (atom_of find e) = subst (λ (o : Option PureExpr). Lacks stop (said_by find e o)) (sym denies) lacks in
    rw (p.1, p.2) whole

pub returns-in_ok-term-in-Some : goal.returns-in_ok-term-in-Some
returns-in_ok-term-in-Some c =
    let find = variable_from 0 c.args.variables.now in
    let e = expr_view c.args.expression.now in
    let d = expr_view c.in-Some.operand.now in
    let denies : denied e ≡ Some d = sym c.in-Some.ensures in
    ap (said_by find e) denies ∙ ap (λ (o : Option PureTerm). o >>= λ t. Some (negative t)) c.in_ok-term-in-Some.ensures

pub returns-in_ok-term-in-None : goal.returns-in_ok-term-in-None
returns-in_ok-term-in-None c =
    let find = variable_from 0 c.args.variables.now in
    let e = expr_view c.args.expression.now in
    let denies : denied e ≡ None = sym c.in-None.ensures in
    ap (said_by find e) denies ∙ ap (λ (o : Option PureTerm). o >>= λ t. Some (positive t)) c.in_ok-term-in-None.ensures
