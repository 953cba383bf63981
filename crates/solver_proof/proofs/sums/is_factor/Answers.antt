use Rattle.std.proofs.Common.{FitsSigned, sym, ap, ◌∙◌, rules, ◌||◌, pos}
use Rattle.std.specs.Prelude.{int_lt}
use Rattle.std.proofs.lemmas.Int.{to_z-of_z}
use Rattle.std.specs.Int.{w128}
use Rattle.solver_proof.specs.Lists.{list_view}
use Rattle.solver_proof.specs.Rows.{row_view}
use Rattle.solver_proof.specs.Sums.{row_at}
use Rattle.solver_proof.proofs.HeldRows.{factor_held, factor_lacking}
use Rattle.solver_proof.proofs.sums.is_factor.Goals as goal

pub returns-then-row : goal.returns-then-row
returns-then-row c =
    c.if-row.true ∙ ap (λ b. b || int_lt (pos 0) c.args.factor.now.factor) (sym c.if-row.true) ∙ factor_held c.args.factor.now.factor (row_view c.in-Some.row) (row_at (list_view c.args.list.now) c.args.factor.now.atom) c.in-Some.ensures

pub returns-else-row : goal.returns-else-row
returns-else-row c =
    let fits : FitsSigned w128 c.args.factor.now.factor = search rules in
    ap (int_lt (pos 0)) (to_z-of_z w128 c.args.factor.now.factor fits) ∙ ap (λ b. b || int_lt (pos 0) c.args.factor.now.factor) (sym c.if-row.false) ∙ factor_held c.args.factor.now.factor (row_view c.in-Some.row) (row_at (list_view c.args.list.now) c.args.factor.now.atom) c.in-Some.ensures

pub returns-in-None : goal.returns-in-None
returns-in-None c = factor_lacking c.args.factor.now.factor (row_at (list_view c.args.list.now) c.args.factor.now.atom) c.in-None.ensures
