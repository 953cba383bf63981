use Rattle.std.proofs.Common.{◌∷◌, [], ap, ◌∙◌}
use Rattle.std.specs.Prelude.{codes}
use Rattle.std.proofs.lemmas.List.{map-append}
use Rattle.pure_terms.specs.View.{term_view, atoms_view}
use Rattle.sym_engine.specs.View.{candidate_view, candidates_view}
use Rattle.sym_engine.proofs.Adding.{same_one, side_added, side_missing}
use Rattle.sym_engine.proofs.guarded.add_no_boolean.Goals as goal
use Rattle.sym_evaluation.specs.View.{good_view}
use Rattle.sym_paths.specs.View.{path_view}
use Rattle.sym_paths.specs.Cases.{failing_with}

pub returns-in_ok-push-in-Some : goal.returns-in_ok-push-in-Some
returns-in_ok-push-in-Some g c =
    side_added g.M.SymMemory.stands g.M.SymMemory.terms g.M.SymMemory.depends g.M.SymMemory.plain (failing_with (path_view c.args.path) c.args.here.now (codes "type") (good_view term_view c.args.guard.now)) c.args.when_no_boolean (candidates_view c.args.candidates)
    c.in-Some.more (candidate_view c.in_ok-fail_guard-in-Some.field-0) (candidates_view c.push.new.self) c.in-Some.is
    (ap candidates_view c.in_ok-push-in-Some.ensures.ok ∙ map-append candidate_view c.args.candidates (c.in_ok-fail_guard-in-Some.field-0 ∷ []))
    (same_one g.M.SymMemory.stands g.M.SymMemory.terms g.M.SymMemory.depends g.M.SymMemory.plain (failing_with (path_view c.args.path) c.args.here.now (codes "type") (good_view term_view c.args.guard.now) (atoms_view c.in-Some.more)) (candidate_view c.in_ok-fail_guard-in-Some.field-0) c.in_ok-fail_guard-in-Some.ensures)

pub returns-in-None : goal.returns-in-None
returns-in-None g c =
    side_missing g.M.SymMemory.stands g.M.SymMemory.terms g.M.SymMemory.depends g.M.SymMemory.plain (failing_with (path_view c.args.path) c.args.here.now (codes "type") (good_view term_view c.args.guard.now)) c.args.when_no_boolean (candidates_view c.args.candidates) c.in-None.is
