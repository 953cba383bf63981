use Rattle.std.proofs.Common.{◌∷◌, ◌++◌, [], Some, refl, ap, sym, subst, ◌∙◌}
use Rattle.std.specs.Prelude.{codes}
use Rattle.std.specs.Option.{option_map}
use Rattle.std.proofs.lemmas.List.{map-append}
use Rattle.pure_terms.specs.View.{term_view, atoms_view}
use Rattle.sym_engine.specs.Lawful.{AddsCopies}
use Rattle.sym_engine.specs.View.{candidate_view, candidates_view}
use Rattle.sym_engine.proofs.Adding.{adds_one, adds_both, same_one, made_copied, side_missing}
use Rattle.sym_engine.proofs.Leaving.{if_ok_map}
use Rattle.sym_engine.proofs.guarded.add_true.Goals as goal
use Rattle.sym_evaluation.specs.View.{good_view}
use Rattle.sym_paths.specs.Moves.{advanced, running_store}
use Rattle.sym_paths.specs.View.{path_view}
use Rattle.sym_paths.specs.Cases.{failing_with}
use Rattle.sym_paths.specs.Guards.{at_label, for_side, turning}

pub returns-in_ok-push-in-None-when_no_boolean : goal.returns-in_ok-push-in-None-when_no_boolean
returns-in_ok-push-in-None-when_no_boolean g c =
    let guard = good_view term_view c.args.guard.now in
    let path = path_view c.args.path in
    let more = atoms_view c.args.when_true.now in
    let to_label = turning path (at_label c.args.label.now path.stack) 1 guard more in
    let turn = turning path (advanced (running_store path.stack) path.stack) 0 guard in
    let fail = failing_with path c.args.here.now (codes "type") guard in
    let first = for_side turn (option_map atoms_view c.args.when_false) in
    let second = for_side fail (option_map atoms_view c.args.when_no_boolean) in
    let after = candidates_view c.push.new.self in
    adds_both g.M.SymMemory.stands g.M.SymMemory.terms g.M.SymMemory.depends g.M.SymMemory.plain (to_label ∷ []) (first ++ second) (candidates_view c.args.candidates) after after
    (adds_one g.M.SymMemory.stands g.M.SymMemory.terms g.M.SymMemory.depends g.M.SymMemory.plain to_label (candidate_view c.in_ok-turn_to_label-in-None-when_no_boolean.field-0) (candidates_view c.args.candidates) after
    (ap candidates_view c.in_ok-push-in-None-when_no_boolean.ensures.ok ∙ map-append candidate_view c.args.candidates (c.in_ok-turn_to_label-in-None-when_no_boolean.field-0 ∷ []))
    (same_one g.M.SymMemory.stands g.M.SymMemory.terms g.M.SymMemory.depends g.M.SymMemory.plain to_label (candidate_view c.in_ok-turn_to_label-in-None-when_no_boolean.field-0) c.in_ok-turn_to_label-in-None-when_no_boolean.ensures))
    (adds_both g.M.SymMemory.stands g.M.SymMemory.terms g.M.SymMemory.depends g.M.SymMemory.plain first second after after after (side_missing g.M.SymMemory.stands g.M.SymMemory.terms g.M.SymMemory.depends g.M.SymMemory.plain turn c.args.when_false after c.in-None.is) (side_missing g.M.SymMemory.stands g.M.SymMemory.terms g.M.SymMemory.depends g.M.SymMemory.plain fail c.args.when_no_boolean after c.in-None-when_no_boolean.is))

pub returns-in_ok-push-in-Some-when_no_boolean : goal.returns-in_ok-push-in-Some-when_no_boolean
returns-in_ok-push-in-Some-when_no_boolean g c =
    let guard = good_view term_view c.args.guard.now in
    let path = path_view c.args.path in
    let more = atoms_view c.args.when_true.now in
    let to_label = turning path (at_label c.args.label.now path.stack) 1 guard more in
    let turn = turning path (advanced (running_store path.stack) path.stack) 0 guard in
    let fail = failing_with path c.args.here.now (codes "type") guard in
    let first = for_side turn (option_map atoms_view c.args.when_false) in
    let second = for_side fail (option_map atoms_view c.args.when_no_boolean) in
    let between = candidates_view c.push-in-Some-when_no_boolean.new.self in
    if_ok_map
    (λ cs. AddsCopies g.M.SymMemory.stands g.M.SymMemory.terms g.M.SymMemory.depends g.M.SymMemory.plain (for_side fail (option_map atoms_view (Some c.in-Some-when_no_boolean.otherwise))) between (candidates_view cs))
    (λ cs. AddsCopies g.M.SymMemory.stands g.M.SymMemory.terms g.M.SymMemory.depends g.M.SymMemory.plain (to_label ∷ (first ++ second)) (candidates_view c.args.candidates) (candidates_view cs))
    c.add_no_boolean.result
    (λ cs adds.
    adds_both g.M.SymMemory.stands g.M.SymMemory.terms g.M.SymMemory.depends g.M.SymMemory.plain (to_label ∷ []) (first ++ second) (candidates_view c.args.candidates) between (candidates_view cs)
    (adds_one g.M.SymMemory.stands g.M.SymMemory.terms g.M.SymMemory.depends g.M.SymMemory.plain to_label (candidate_view c.in_ok-turn_to_label-in-Some-when_no_boolean.field-0) (candidates_view c.args.candidates) between
    (ap candidates_view c.in_ok-push-in-Some-when_no_boolean.ensures.ok ∙ map-append candidate_view c.args.candidates (c.in_ok-turn_to_label-in-Some-when_no_boolean.field-0 ∷ []))
    (made_copied g.M.SymMemory.stands g.M.SymMemory.terms g.M.SymMemory.depends g.M.SymMemory.plain (λ q. turning q (at_label c.args.label.now q.stack) 1 guard more) path (path_view c.in_ok-copy-in-Some-when_no_boolean.copy)
    (candidate_view c.in_ok-turn_to_label-in-Some-when_no_boolean.field-0) (λ q s. refl) (λ q. refl) c.in_ok-copy-in-Some-when_no_boolean.ensures.path c.in_ok-copy-in-Some-when_no_boolean.ensures.memory c.in_ok-turn_to_label-in-Some-when_no_boolean.ensures))
    (adds_both g.M.SymMemory.stands g.M.SymMemory.terms g.M.SymMemory.depends g.M.SymMemory.plain first second between between (candidates_view cs) (side_missing g.M.SymMemory.stands g.M.SymMemory.terms g.M.SymMemory.depends g.M.SymMemory.plain turn c.args.when_false between c.in-None.is)
    (subst (λ o. AddsCopies g.M.SymMemory.stands g.M.SymMemory.terms g.M.SymMemory.depends g.M.SymMemory.plain (for_side fail (option_map atoms_view o)) between (candidates_view cs)) (sym c.in-Some-when_no_boolean.is) adds)))
    c.add_no_boolean.ensures

pub returns-in_ok-push-in-Some : goal.returns-in_ok-push-in-Some
returns-in_ok-push-in-Some g c =
    let guard = good_view term_view c.args.guard.now in
    let path = path_view c.args.path in
    let more = atoms_view c.args.when_true.now in
    let to_label = turning path (at_label c.args.label.now path.stack) 1 guard more in
    let turn = turning path (advanced (running_store path.stack) path.stack) 0 guard in
    let fail = failing_with path c.args.here.now (codes "type") guard in
    let first = for_side turn (option_map atoms_view c.args.when_false) in
    let second = for_side fail (option_map atoms_view c.args.when_no_boolean) in
    let between = candidates_view c.push-in-Some.new.self in
    if_ok_map
    (λ cs. AddsCopies g.M.SymMemory.stands g.M.SymMemory.terms g.M.SymMemory.depends g.M.SymMemory.plain (for_side turn (option_map atoms_view (Some c.in-Some.more)) ++ second) between (candidates_view cs))
    (λ cs. AddsCopies g.M.SymMemory.stands g.M.SymMemory.terms g.M.SymMemory.depends g.M.SymMemory.plain (to_label ∷ (first ++ second)) (candidates_view c.args.candidates) (candidates_view cs))
    c.add_false.result
    (λ cs adds.
    adds_both g.M.SymMemory.stands g.M.SymMemory.terms g.M.SymMemory.depends g.M.SymMemory.plain (to_label ∷ []) (first ++ second) (candidates_view c.args.candidates) between (candidates_view cs)
    (adds_one g.M.SymMemory.stands g.M.SymMemory.terms g.M.SymMemory.depends g.M.SymMemory.plain to_label (candidate_view c.in_ok-turn_to_label-in-Some.field-0) (candidates_view c.args.candidates) between
    (ap candidates_view c.in_ok-push-in-Some.ensures.ok ∙ map-append candidate_view c.args.candidates (c.in_ok-turn_to_label-in-Some.field-0 ∷ []))
    (made_copied g.M.SymMemory.stands g.M.SymMemory.terms g.M.SymMemory.depends g.M.SymMemory.plain (λ q. turning q (at_label c.args.label.now q.stack) 1 guard more) path (path_view c.in_ok-copy-in-Some.copy)
    (candidate_view c.in_ok-turn_to_label-in-Some.field-0) (λ q s. refl) (λ q. refl) c.in_ok-copy-in-Some.ensures.path c.in_ok-copy-in-Some.ensures.memory c.in_ok-turn_to_label-in-Some.ensures))
    (subst (λ o. AddsCopies g.M.SymMemory.stands g.M.SymMemory.terms g.M.SymMemory.depends g.M.SymMemory.plain (for_side turn (option_map atoms_view o) ++ second) between (candidates_view cs)) (sym c.in-Some.is) adds))
    c.add_false.ensures
