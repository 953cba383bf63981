use Rattle.std.proofs.Common.{◌∷◌, ◌++◌, sym, subst}
use Rattle.std.specs.Prelude.{codes}
use Rattle.std.specs.Option.{option_map}
use Rattle.pure_terms.specs.View.{term_view, atoms_view}
use Rattle.sym_engine.specs.Lawful.{AddsCopies}
use Rattle.sym_engine.specs.View.{candidates_view}
use Rattle.sym_engine.proofs.Leaving.{if_ok_map}
use Rattle.sym_engine.proofs.guarded.add_sides.Goals as goal
use Rattle.sym_evaluation.specs.View.{good_view, sides_view}
use Rattle.sym_paths.specs.Moves.{advanced, running_store}
use Rattle.sym_paths.specs.View.{path_view}
use Rattle.sym_paths.specs.Cases.{failing_with}
use Rattle.sym_paths.specs.Guards.{at_label, for_side, turning, turns}

pub returns-in-None : goal.returns-in-None
returns-in-None g c =
    let guard = good_view term_view c.args.guard.now in
    let path = path_view c.args.path in
    let to_label = turning path (at_label c.args.label.now path.stack) 1 guard in
    let others = for_side (turning path (advanced (running_store path.stack) path.stack) 0 guard) (option_map atoms_view c.args.sides.when_false)
    ++ for_side (failing_with path c.args.here.now (codes "type") guard) (option_map atoms_view c.args.sides.when_no_boolean) in
    if_ok_map (λ cs. AddsCopies g.M.SymMemory.stands g.M.SymMemory.terms g.M.SymMemory.depends g.M.SymMemory.plain others (candidates_view c.args.candidates) (candidates_view cs))
    (λ cs. AddsCopies g.M.SymMemory.stands g.M.SymMemory.terms g.M.SymMemory.depends g.M.SymMemory.plain (turns path c.args.label.now c.args.here.now guard (sides_view c.args.sides)) (candidates_view c.args.candidates) (candidates_view cs)) c.add_false.result
    (λ cs adds. subst (λ o. AddsCopies g.M.SymMemory.stands g.M.SymMemory.terms g.M.SymMemory.depends g.M.SymMemory.plain (for_side to_label (option_map atoms_view o) ++ others) (candidates_view c.args.candidates) (candidates_view cs)) (sym c.in-None.is) adds)
    c.add_false.ensures

pub returns-in-Some : goal.returns-in-Some
returns-in-Some g c =
    let guard = good_view term_view c.args.guard.now in
    let path = path_view c.args.path in
    let to_label = turning path (at_label c.args.label.now path.stack) 1 guard in
    let others = for_side (turning path (advanced (running_store path.stack) path.stack) 0 guard) (option_map atoms_view c.args.sides.when_false)
    ++ for_side (failing_with path c.args.here.now (codes "type") guard) (option_map atoms_view c.args.sides.when_no_boolean) in
    if_ok_map (λ cs. AddsCopies g.M.SymMemory.stands g.M.SymMemory.terms g.M.SymMemory.depends g.M.SymMemory.plain (to_label (atoms_view c.in-Some.more) ∷ others) (candidates_view c.args.candidates) (candidates_view cs))
    (λ cs. AddsCopies g.M.SymMemory.stands g.M.SymMemory.terms g.M.SymMemory.depends g.M.SymMemory.plain (turns path c.args.label.now c.args.here.now guard (sides_view c.args.sides)) (candidates_view c.args.candidates) (candidates_view cs)) c.add_true.result
    (λ cs adds. subst (λ o. AddsCopies g.M.SymMemory.stands g.M.SymMemory.terms g.M.SymMemory.depends g.M.SymMemory.plain (for_side to_label (option_map atoms_view o) ++ others) (candidates_view c.args.candidates) (candidates_view cs)) (sym c.in-Some.is) adds)
    c.add_true.ensures
