use Rattle.std.proofs.Common.{◌∷◌, ◌++◌, [], Some, refl, ap, sym, subst, ◌∙◌}
use Rattle.std.specs.Prelude.{codes}
use Rattle.std.specs.Option.{option_map}
use Rattle.std.proofs.lemmas.List.{map-append}
use Rattle.pure_terms.specs.View.{term_view, atoms_view}
use Rattle.sym_engine.specs.Lawful.{AddsCopies}
use Rattle.sym_engine.specs.View.{candidate_view, candidates_view}
use Rattle.sym_engine.proofs.Adding.{adds_both, same_one, made_copied, side_added, side_missing}
use Rattle.sym_engine.proofs.Leaving.{if_ok_map}
use Rattle.sym_engine.proofs.guarded.add_false.Goals as goal
use Rattle.sym_evaluation.specs.View.{good_view}
use Rattle.sym_paths.specs.Moves.{advanced, running_store}
use Rattle.sym_paths.specs.View.{path_view}
use Rattle.sym_paths.specs.Cases.{failing_with}
use Rattle.sym_paths.specs.Guards.{for_side, turning}

pub returns-in-None-when_no_boolean : goal.returns-in-None-when_no_boolean
returns-in-None-when_no_boolean g c =
    let guard = good_view term_view c.args.guard.now in
    let path = path_view c.args.path in
    let turn = turning path (advanced (running_store path.stack) path.stack) 0 guard in
    let fail = failing_with path c.args.here.now (codes "type") guard in
    adds_both g.M.SymMemory.stands g.M.SymMemory.terms g.M.SymMemory.depends g.M.SymMemory.plain (for_side turn (option_map atoms_view c.args.when_false)) (for_side fail (option_map atoms_view c.args.when_no_boolean))
    (candidates_view c.args.candidates) (candidates_view c.push.new.self) (candidates_view c.push.new.self)
    (side_added g.M.SymMemory.stands g.M.SymMemory.terms g.M.SymMemory.depends g.M.SymMemory.plain turn c.args.when_false (candidates_view c.args.candidates) c.in-Some.more (candidate_view c.in_ok-turn_to_next-in-None-when_no_boolean.field-0) (candidates_view c.push.new.self) c.in-Some.is
    (ap candidates_view c.in_ok-push-in-None-when_no_boolean.ensures.ok ∙ map-append candidate_view c.args.candidates (c.in_ok-turn_to_next-in-None-when_no_boolean.field-0 ∷ []))
    (same_one g.M.SymMemory.stands g.M.SymMemory.terms g.M.SymMemory.depends g.M.SymMemory.plain (turn (atoms_view c.in-Some.more)) (candidate_view c.in_ok-turn_to_next-in-None-when_no_boolean.field-0) c.in_ok-turn_to_next-in-None-when_no_boolean.ensures))
    (side_missing g.M.SymMemory.stands g.M.SymMemory.terms g.M.SymMemory.depends g.M.SymMemory.plain fail c.args.when_no_boolean (candidates_view c.push.new.self) c.in-None-when_no_boolean.is)

pub returns : goal.returns
returns g c =
    let guard = good_view term_view c.args.guard.now in
    let path = path_view c.args.path in
    let turn = turning path (advanced (running_store path.stack) path.stack) 0 guard in
    let fail = failing_with path c.args.here.now (codes "type") guard in
    let between = candidates_view c.push-in-Some-when_no_boolean.new.self in
    if_ok_map
    (λ cs. AddsCopies g.M.SymMemory.stands g.M.SymMemory.terms g.M.SymMemory.depends g.M.SymMemory.plain (for_side fail (option_map atoms_view (Some c.in-Some-when_no_boolean.otherwise))) between (candidates_view cs))
    (λ cs. AddsCopies g.M.SymMemory.stands g.M.SymMemory.terms g.M.SymMemory.depends g.M.SymMemory.plain (for_side turn (option_map atoms_view c.args.when_false) ++ for_side fail (option_map atoms_view c.args.when_no_boolean)) (candidates_view c.args.candidates) (candidates_view cs))
    c.add_no_boolean-in-Some-when_no_boolean.result
    (λ cs more.
    adds_both g.M.SymMemory.stands g.M.SymMemory.terms g.M.SymMemory.depends g.M.SymMemory.plain (for_side turn (option_map atoms_view c.args.when_false)) (for_side fail (option_map atoms_view c.args.when_no_boolean))
    (candidates_view c.args.candidates) between (candidates_view cs)
    (side_added g.M.SymMemory.stands g.M.SymMemory.terms g.M.SymMemory.depends g.M.SymMemory.plain turn c.args.when_false (candidates_view c.args.candidates) c.in-Some.more (candidate_view c.in_ok-turn_to_next-in-Some-when_no_boolean.field-0) between c.in-Some.is
    (ap candidates_view c.in_ok-push-in-Some-when_no_boolean.ensures.ok ∙ map-append candidate_view c.args.candidates (c.in_ok-turn_to_next-in-Some-when_no_boolean.field-0 ∷ []))
    (made_copied g.M.SymMemory.stands g.M.SymMemory.terms g.M.SymMemory.depends g.M.SymMemory.plain (λ q. turning q (advanced (running_store q.stack) q.stack) 0 guard (atoms_view c.in-Some.more)) path (path_view c.in_ok-copy-in-Some-when_no_boolean.copy)
    (candidate_view c.in_ok-turn_to_next-in-Some-when_no_boolean.field-0) (λ q s. refl) (λ q. refl) c.in_ok-copy-in-Some-when_no_boolean.ensures.path c.in_ok-copy-in-Some-when_no_boolean.ensures.memory c.in_ok-turn_to_next-in-Some-when_no_boolean.ensures))
    (subst (λ o. AddsCopies g.M.SymMemory.stands g.M.SymMemory.terms g.M.SymMemory.depends g.M.SymMemory.plain (for_side fail (option_map atoms_view o)) between (candidates_view cs)) (sym c.in-Some-when_no_boolean.is) more))
    c.add_no_boolean-in-Some-when_no_boolean.ensures
