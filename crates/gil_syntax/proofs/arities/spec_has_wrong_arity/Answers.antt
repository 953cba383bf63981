use Rattle.std.proofs.Common.{◌||◌, map, ap, ◌∙◌}
use Rattle.std.specs.List.{list_any}
use Rattle.gil_syntax.specs.Subexpressions.{assertions_of}
use Rattle.gil_syntax.specs.Valid.{misuses, piece_of_assertion, predicates_of}
use Rattle.gil_syntax.specs.View.{spec_view}
use Rattle.gil_syntax.specs.ByName.{parts_of}
use Rattle.gil_syntax.proofs.PieceLemmas.{misused_assertions}
use Rattle.gil_syntax.proofs.arities.spec_has_wrong_arity.Goals as goal

pub returns : goal.returns
returns c =
    let p = parts_of c.args.program.now in
    let sp = spec_view c.args.spec.now in
    c.in_spec.ensures ∙ misused_assertions p sp.logicals (assertions_of sp)
    ∙ ap (λ b. b || list_any (λ d. list_any (misuses (predicates_of p)) d.used) (map (piece_of_assertion sp.logicals) (assertions_of sp))) c.if-has_other_params.ensures
